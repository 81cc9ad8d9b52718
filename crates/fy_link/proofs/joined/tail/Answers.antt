use Rattle.std.proofs.Common.{◌+◌, get_or, sym, ap, ◌∙◌, subst, arith}
use Rattle.std.proofs.lemmas.List.{take_rest}
use Rattle.fy_base.specs.Places.{first_place}
use Rattle.fy_base.specs.declared.data.Place.{Place}
use Rattle.fy_lexer.specs.Spot.{past_byte}
use Rattle.fy_link.specs.Joined.{IsTail}
use Rattle.fy_link.proofs.PlaceOrder.{tail-behind, tail-somewhere, past-more, place-same, place-other, before-more}
use Rattle.fy_link.proofs.joined.tail.Goals as goal

pub slice_bounds-result-count : goal.slice_bounds-result-count
slice_bounds-result-count c =
    let here = place-same c.loop-i.here c.args.at c.if-is_same.ensures in
    (tail-behind c.args.text.now c.args.at c.loop-i.i c.requires.tail.0 c.requires.tail.1 (omega arith) (sym c.loop-i.invariant.walked ∙ here)).within

pub slice_bounds-result-start : goal.slice_bounds-result-start
slice_bounds-result-start c =
    let here = place-same c.loop-i.here c.args.at c.if-is_same.ensures in
    (tail-behind c.args.text.now c.args.at c.loop-i.i c.requires.tail.0 c.requires.tail.1 (omega arith) (sym c.loop-i.invariant.walked ∙ here)).within

pub returns-then-is_same-clause-tail : goal.returns-then-is_same-clause-tail
returns-then-is_same-clause-tail c =
    let here = place-same c.loop-i.here c.args.at c.if-is_same.ensures in
    subst (IsTail c.args.text.now c.args.at) (sym (take_rest c.args.text.now (c.loop-i.i + 2)))
    (tail-behind c.args.text.now c.args.at c.loop-i.i c.requires.tail.0 c.requires.tail.1 (omega arith) (sym c.loop-i.invariant.walked ∙ here)).tail

pub loop-i-preserved : goal.loop-i-preserved
loop-i-preserved c =
    let text = c.args.text.now in
    let i = c.loop-i.i in
    let before = c.loop-i.invariant in
    record {
      walked = c.behind-here.ensures.place
          ∙ (ap (λ (at : Place). past_byte at (get_or text i 0)) before.walked ∙ sym (past-more first_place text i c.loop-i-test.true));
      line = omega (arith, c.behind-here.ensures.line);
      col = omega (arith, c.behind-here.ensures.col);
      before = before-more text c.args.at i before.before (λ e. place-other c.loop-i.here c.args.at c.if-is_same.ensures (before.walked ∙ e));
    }

pub returns-clause-some : goal.returns-clause-some
returns-clause-some c =
    absurd (tail-somewhere c.args.text.now c.args.at c.requires.tail.0 c.requires.tail.1 (λ k h e. c.loop-i.invariant.before k (omega arith) e))
