use Rattle.std.proofs.Common.{◌∙◌, refl, sym, ap, arith, length}
use Rattle.std.proofs.lemmas.List.{get_or_default}
use Rattle.fy_world.specs.declared.world.Stop.TheVariants.{Memory}
use Rattle.fy_world.proofs.Listing.{listed_first, listed_next, listed_short, listed_part, listed_all, at_words, line_at}
use Rattle.fy_world.proofs.images.list_image.Goals as goal

pub loop-word-init : goal.loop-word-init
loop-word-init g c = record { at = refl; listed = λ program of. listed_first program _; counts = refl; same = refl; calls = refl }

pub returns-in-Err-clause-did : goal.returns-in-Err-clause-did
returns-in-Err-clause-did g c = λ program of. listed_short program c.loop-word.word-index _ _ Memory refl (c.loop-word.invariant.listed program of)

pub returns-clause-did : goal.returns-clause-did
returns-clause-did g c = λ program of.
    let same = c.as_slice-word-items.ensures ∙ sym of.words_are in
    listed_all program c.loop-word.word-index _ _ 0 (omega (arith, ap length same)) refl (c.loop-word.invariant.listed program of)

pub returns-in-Err-put-clause-did : goal.returns-in-Err-put-clause-did
returns-in-Err-put-clause-did g c = λ program of.
    let here = at_words c.as_slice-word-items.result.now c.args.image.now program c.loop-word.word-index _ c.as_slice-word-items.ensures of c.loop-word-test.true (get_or_default _ _ _ _ c.loop-word-test.true) in
    listed_part c.args.image.now program c.loop-word.word-index _ c.in-Ok.ensures.0 c.as_slice.result.now _ (g.W.World.holds c.loop-word.world) (g.W.World.holds c.put.new.self) c.in-Err-put.stop of here.0 here.1 c.in-Ok.ensures.1
    (line_at c.loop-word.pc c.loop-word.word-index _ c.in-Ok.ensures.0 c.as_slice.result.now c.loop-word.invariant.at (c.as_slice.ensures.value ∙ c.in-Ok.ensures.2)) (c.loop-word.invariant.listed program of) c.in-Err-put.ensures.rest c.in-Err-put.ensures.part
    c.in-Err-put.ensures.stop

pub loop-word-preserved : goal.loop-word-preserved
loop-word-preserved g c = record {
  at = omega (arith, c.loop-word.invariant.at);
  listed = λ program of.
      let here = at_words c.as_slice-word-items.result.now c.args.image.now program c.loop-word.word-index _ c.as_slice-word-items.ensures of c.loop-word-test.true (get_or_default _ _ _ _ c.loop-word-test.true) in
      listed_next c.args.image.now program c.loop-word.word-index _ c.in-Ok.ensures.0 c.as_slice.result.now _ (g.W.World.holds c.loop-word.world) (g.W.World.holds c.put.new.self) of here.0 here.1 c.in-Ok.ensures.1
      (line_at c.loop-word.pc c.loop-word.word-index _ c.in-Ok.ensures.0 c.as_slice.result.now c.loop-word.invariant.at (c.as_slice.ensures.value ∙ c.in-Ok.ensures.2)) (c.loop-word.invariant.listed program of) c.in_default.ensures.put;
  counts = c.in_default.ensures.counted ∙ c.loop-word.invariant.counts;
  same = c.in_default.ensures.same ∙ c.loop-word.invariant.same;
  calls = c.in_default.ensures.called ∙ c.loop-word.invariant.calls;
}
