use Rattle.std.proofs.Common.{◌≡◌, ◌∷◌, map, take}
use Rattle.fy_phrase.specs.Reads.{reads, trees_from}
use Rattle.fy_phrase.specs.Premises.{nothing, of_parts, premise_shown}
use Rattle.fy_phrase.proofs.premise.case_premises.Given as goal

abbrev pub invariant-loop-part : goal.invariant-loop-part
invariant-loop-part l = map premise_shown l.all.items ≡ (nothing, reads l.e) ∷ of_parts (trees_from (map reads (take l.part-index l.part-items)))
