use Rattle.std.proofs.Common.{◌++◌, map, Some, option_map, sym, ap, ◌∙◌, subst, arith}
use Rattle.std.specs.Prelude.{◌≡◌, IfOk, codes, slice_get}
use Rattle.fy_phrase.specs.Reads.{reads, trees_from}
use Rattle.fy_show.specs.Reading.{known_in, scope_in}
use Rattle.fy_show.specs.Texts.{form, part}
use Rattle.fy_why.specs.Carets.{cut_part, each}
use Rattle.fy_why.specs.Readings.{span_read}
use Rattle.fy_why.proofs.SpanLemmas.{each-here, each-later}
use Rattle.fy_why.proofs.carets.each_span.Goals as goal

pub returns-then-i-index : goal.returns-then-i-index
returns-then-i-index c =
    let k = known_in c.args.view.now in
    let s = scope_in c.args.view.now in
    let xs = c.as_slice-parts.result.now in
    let F = c.args.front.items in
    let p = reads c.index-parts-i.result in
    subst (λ X. IfOk c.one_span.result (λ o. option_map span_read o ≡ X))
    (ap (λ m. Some (c.deref.result.now, part m 3 (form k s p))) c.requires
    ∙ (ap (λ f. Some (f, cut_part k s 3 p)) c.deref.ensures.value
    ∙ (each-here k s c.loop-i.front.items xs c.loop-i.i c.args.index c.index-parts-i.result (slice_get (each k s F (trees_from (map reads xs))) c.args.index)
    c.loop-i-test.true c.index-parts-i.is c.if-i-index.true c.loop-i.invariant.same
    ∙ ap (λ ts. slice_get (each k s F ts) c.args.index) (sym c.as_slice-parts.ensures.reading)))) c.one_span.ensures

pub loop-i-preserved : goal.loop-i-preserved
loop-i-preserved c =
    let k = known_in c.args.view.now in
    let s = scope_in c.args.view.now in
    let xs = c.as_slice-parts.result.now in
    let F = c.loop-i.front.items in
    let x = c.index-parts-i-in-loop-i.result in
    record {
      behind = omega (arith, c.loop-i.invariant.behind, c.if-i-index.false);
      same = each-later k s F c.put.new.text.items xs c.loop-i.i c.args.index x
          (slice_get (each k s c.args.front.items (trees_from (map reads xs))) c.args.index) c.loop-i-test.true c.index-parts-i-in-loop-i.is
          c.loop-i.invariant.behind c.if-i-index.false
          (c.in_ok-put.ensures ∙ ap (λ ys. ys ++ codes ", ") (c.in_ok-put_part.ensures ∙ ap (λ m. F ++ part m 3 (form k s (reads x))) c.requires))
          c.loop-i.invariant.same;
    }
