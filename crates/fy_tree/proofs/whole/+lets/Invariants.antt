use Rattle.std.proofs.Common.{◌+◌, ◌*◌}
use Rattle.fy_derive.specs.Derivations.{nodes}
use Rattle.fy_derive.specs.Reading.{plain_derivation}
use Rattle.fy_tree.proofs.whole.+lets.Given as goal

-- the part of a subsumption has fewer nodes, and so has a premise
abbrev pub decreases-put_below_lets : goal.decreases-put_below_lets
decreases-put_below_lets l = 3 * nodes (plain_derivation l.d.now) + 1

abbrev pub decreases-put_let : goal.decreases-put_let
decreases-put_let l = 3 * nodes (plain_derivation l.d.now)

abbrev pub decreases-put_named : goal.decreases-put_named
decreases-put_named l = 3 * nodes (plain_derivation l.d.now) + 2
