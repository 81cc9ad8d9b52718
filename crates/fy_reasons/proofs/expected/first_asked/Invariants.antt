use Rattle.std.proofs.Common.{◌≡◌, drop}
use Rattle.std.specs.Prelude.{find}
use Rattle.fy_reasons.specs.Expected.{is_asked}
use Rattle.fy_derive.specs.Shown.{all_shown}
use Rattle.fy_reasons.specs.Stopping.{asking_read}
use Rattle.fy_reasons.proofs.expected.first_asked.Given as goal

-- what is left decides
abbrev pub invariant-loop-number : goal.invariant-loop-number
invariant-loop-number l =
    find (is_asked (asking_read l.table l.asking)) (all_shown l.table (drop l.number-index l.all)) ≡ find (is_asked (asking_read l.table l.asking)) (all_shown l.table l.all)
