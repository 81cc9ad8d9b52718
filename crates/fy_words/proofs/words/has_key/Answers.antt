use Rattle.std.proofs.Common.{◌∙◌}
use Rattle.std.proofs.lemmas.List.{get_or_default}
use Rattle.fy_words.proofs.WordLemmas.{key_here, key_next}
use Rattle.fy_words.proofs.words.has_key.Goals as goal

pub returns-then-starts_with : goal.returns-then-starts_with
returns-then-starts_with c =
    key_here c.args.keys.now c.args.word.now c.loop-key.key-index _ c.loop-key-test.true (get_or_default _ _ _ _ c.loop-key-test.true) c.if-starts_with.ensures.cases ∙ c.loop-key.invariant

pub loop-key-preserved : goal.loop-key-preserved
loop-key-preserved c =
    key_next c.args.keys.now c.args.word.now c.loop-key.key-index _ c.loop-key-test.true (get_or_default _ _ _ _ c.loop-key-test.true) c.if-starts_with.ensures.cases ∙ c.loop-key.invariant
