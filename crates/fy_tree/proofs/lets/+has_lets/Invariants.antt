use Rattle.std.proofs.Common.{◌+◌, ◌*◌}
use Rattle.fy_derive.specs.Derivations.{nodes}
use Rattle.fy_derive.specs.Reading.{plain_derivation}
use Rattle.fy_tree.proofs.lets.+has_lets.Given as goal

-- the part of a subsumption has fewer nodes, and so has a premise
abbrev pub decreases-has_lets : goal.decreases-has_lets
decreases-has_lets l = 2 * nodes (plain_derivation l.d.now) + 1

abbrev pub decreases-has_let : goal.decreases-has_let
decreases-has_let l = 2 * nodes (plain_derivation l.d.now)
