use Rattle.std.proofs.Common.{◌≡◌, map, replicate}
use Rattle.fy_phrase.specs.Reads.{reads}
use Rattle.fy_phrase.specs.Premises.{nothing, premise_shown}
use Rattle.fy_phrase.proofs.premise.repeated.Given as goal

abbrev pub invariant-loop : goal.invariant-loop
invariant-loop l = map premise_shown l.all.items ≡ replicate l.counter (nothing, reads l.p)
