use Rattle.std.proofs.Common.{◌≡◌, map, take}
use Rattle.fy_phrase.specs.Reads.{reads}
use Rattle.fy_derive.specs.Placed.{placed}
use Rattle.fy_derive.specs.Reading.{plain_derivation, derivations_in}
use Rattle.fy_phrase.specs.Premises.{premise_shown}
use Rattle.fy_link.specs.Placing.{plain_wanted}
use Rattle.fy_link.proofs.PlacingLemmas.{placed_items}
use Rattle.fy_link.proofs.composed.+placing.Given as goal

abbrev pub invariant-repeated-loop-d : goal.invariant-repeated-loop-d
invariant-repeated-loop-d l =
    map plain_derivation (derivations_in l.made) ≡ map (placed (plain_wanted l.wanted) (reads l.p)) (map plain_derivation (take l.d-index l.d-items))

abbrev pub invariant-premises_placed-loop-i : goal.invariant-premises_placed-loop-i
invariant-premises_placed-loop-i l =
    map plain_derivation (derivations_in l.made)
    ≡ placed_items (plain_wanted l.wanted) (map premise_shown l.premises) (map plain_derivation (take l.i l.items))

abbrev pub decreases-placed : goal.decreases-placed
decreases-placed l = goal.size-placed l

abbrev pub decreases-repeated : goal.decreases-repeated
decreases-repeated l = goal.size-repeated l

abbrev pub decreases-premises_placed : goal.decreases-premises_placed
decreases-premises_placed l = goal.size-premises_placed l
