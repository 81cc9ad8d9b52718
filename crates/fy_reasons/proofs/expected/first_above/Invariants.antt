use Rattle.std.proofs.Common.{◌≡◌, drop}
use Rattle.std.specs.Prelude.{find}
use Rattle.fy_derive.specs.Shown.{shown, all_shown}
use Rattle.fy_derive.specs.Subsumption.{is_below}
use Rattle.fy_reasons.proofs.expected.first_above.Given as goal

-- what is left decides
abbrev pub invariant-loop-above : goal.invariant-loop-above
invariant-loop-above l =
    find (λ C. is_below (shown l.table l.number) C) (all_shown l.table (drop l.above-index l.all)) ≡ find (λ C. is_below (shown l.table l.number) C) (all_shown l.table l.all)
