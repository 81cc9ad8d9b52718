-- What the readings give at one level.
use Rattle.std.proofs.Common.{◌≡◌, map, rules}
use Rattle.fy_types.proofs.ReadLemmas.{plain_types-at}
use Rattle.fy_phrase.specs.declared.phrase.Parts.{Parts, the_lemmas}
use Rattle.fy_phrase.specs.Reads.{phrases_in, reads, reads_parts, trees_from}

pub reads_parts-at : (l : Parts) → reads_parts l ≡ trees_from (map reads (phrases_in l))
reads_parts-at l = search (rules, the_lemmas)

pub ruleset readings = (reads_parts-at, plain_types-at)
