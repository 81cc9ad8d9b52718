use Rattle.std.proofs.Common.{ap, map, arith}
use Rattle.std.proofs.lemmas.List.{drop_all}
use Rattle.std.specs.Prelude.{string_bytes}
use Rattle.fy_words.specs.Order.{values}
use Rattle.fy_words.proofs.WordLemmas.{found_all, found_first, found_more, values_here}
use Rattle.fy_words.proofs.words.values.Goals as goal

pub loop-word-init : goal.loop-word-init
loop-word-init c = found_first _

pub loop-word-preserved : goal.loop-word-preserved
loop-word-preserved c =
    found_more c.loop-word.found _ _ _ _ _ c.with_value-found.ensures
    (values_here c.args.key.now c.args.words.now c.loop-word.word-index c.word-item.result c.as_str.result.now c.loop-word-test.true c.word-item.is c.as_str.ensures.value) c.loop-word.invariant

pub returns : goal.returns
returns c = found_all c.loop-word.found _ _ (ap (λ ws. values c.args.key.now (map string_bytes ws)) (drop_all c.loop-word.word-index c.args.words.now (omega arith))) c.loop-word.invariant
