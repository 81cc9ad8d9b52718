use Rattle.std.proofs.Common.{◌≡◌, drop}
use Rattle.fy_derive.specs.Rules.{all_same}
use Rattle.fy_derive.specs.Shown.{shown, all_shown}
use Rattle.fy_derive.proofs.fits.all_same.Given as goal

abbrev pub invariant-loop-other : goal.invariant-loop-other
invariant-loop-other l = all_same (shown l.table l.first) (all_shown l.table (drop l.other-index l.others)) ≡ all_same (shown l.table l.first) (all_shown l.table l.others)
