use Rattle.std.proofs.Common.{drop, map}
use Rattle.std.specs.Prelude.{string_bytes}
use Rattle.fy_words.specs.Order.{values}
use Rattle.fy_words.proofs.WordLemmas.{FoundSoFar}
use Rattle.fy_words.proofs.words.values.Given as goal

abbrev pub invariant-loop-word : goal.invariant-loop-word
invariant-loop-word l = FoundSoFar l.found (values l.key (map string_bytes (drop l.word-index l.words))) (values l.key (map string_bytes l.words))
