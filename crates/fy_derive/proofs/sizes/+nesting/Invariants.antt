use Rattle.std.proofs.Common.{◌≡◌, map, take}
use Rattle.fy_derive.specs.Derivations.{all_nesting, capped}
use Rattle.fy_derive.specs.Reading.{plain_derivation, derivations_from}
use Rattle.fy_derive.proofs.sizes.+nesting.Given as goal

abbrev pub invariant-nesting_of_all-loop-d : goal.invariant-nesting_of_all-loop-d
invariant-nesting_of_all-loop-d l = l.greatest ≡ capped (all_nesting (derivations_from (map plain_derivation (take l.d-index l.d-items))))
