use Rattle.std.proofs.Common.{◌≡◌, drop}
use Rattle.std.specs.Prelude.{find}
use Rattle.fy_reasons.specs.Expected.{has_domain}
use Rattle.fy_derive.specs.Shown.{shown, all_shown}
use Rattle.fy_reasons.proofs.expected.arrow_from.Given as goal

-- what is left decides
abbrev pub invariant-loop-number : goal.invariant-loop-number
invariant-loop-number l =
    find (has_domain (shown l.table l.from)) (all_shown l.table (drop l.number-index l.all)) ≡ find (has_domain (shown l.table l.from)) (all_shown l.table l.all)
