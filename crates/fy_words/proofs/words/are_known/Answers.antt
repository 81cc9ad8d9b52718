use Rattle.std.proofs.Common.{◌∙◌, sym}
use Rattle.fy_words.proofs.WordLemmas.{known_next}
use Rattle.fy_words.proofs.words.are_known.Goals as goal

pub loop-word-preserved : goal.loop-word-preserved
loop-word-preserved c =
    known_next _ c.args.words.now c.loop-word.word-index c.word-item.result c.as_str.result.now c.loop-word-test.true c.word-item.is c.as_str.ensures.value (sym c.if-not-is_known.false ∙ c.is_known.ensures) ∙ c.loop-word.invariant
