use Rattle.std.proofs.Common.{◌≡◌, drop}
use Rattle.fy_types.specs.Reading.{plain_paths}
use Rattle.fy_causes.specs.Causes.{has_some}
use Rattle.fy_causes.proofs.causes.has_some.Given as goal

-- what is left decides
abbrev pub invariant-loop-atom : goal.invariant-loop-atom
invariant-loop-atom l = has_some (plain_paths l.paths) (drop l.atom-index l.atoms) ≡ has_some (plain_paths l.paths) l.atoms
