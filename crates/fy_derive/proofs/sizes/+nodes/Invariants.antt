use Rattle.std.proofs.Common.{◌≡◌, map, take}
use Rattle.fy_derive.specs.Derivations.{all_nodes, capped}
use Rattle.fy_derive.specs.Reading.{plain_derivation, derivations_from}
use Rattle.fy_derive.proofs.sizes.+nodes.Given as goal

abbrev pub invariant-nodes_of_all-loop-d : goal.invariant-nodes_of_all-loop-d
invariant-nodes_of_all-loop-d l = l.count ≡ capped (all_nodes (derivations_from (map plain_derivation (take l.d-index l.d-items))))
