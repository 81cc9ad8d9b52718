use Rattle.std.proofs.Common.{◌≡◌, take}
use Rattle.pe_gen.proofs.sites.places_of.Given as goal

abbrev pub invariant-loop-pair : goal.invariant-loop-pair
invariant-loop-pair l = l.places.keys ≡ take l.pair-index l.pairs
