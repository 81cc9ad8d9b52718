use Rattle.std.proofs.Common.{◌≡◌, map, take}
use Rattle.fy_derive.specs.Reading.{plain_derivation, derivations_in}
use Rattle.fy_link.proofs.composed.+copying.Given as goal

abbrev pub invariant-all_copied-loop-d : goal.invariant-all_copied-loop-d
invariant-all_copied-loop-d l = map plain_derivation (derivations_in l.made) ≡ map plain_derivation (take l.d-index l.d-items)
