use Rattle.std.proofs.Common.{◌∙◌, ◌<◌, ◌∷◌, [], length, sym, subst, arith}
use Rattle.std.proofs.lemmas.Result.{IfOk-weaker}
use Rattle.std.proofs.lemmas.List.{length-append}
use Rattle.fy_order.specs.Levels.{PlainTagged, IsAt, HaveAbove, HaveBelow, indexed_nodes, nodes}
use Rattle.fy_order.proofs.LevelLemmas.{at-within, at-few}
use Rattle.fy_order.proofs.SearchLemmas.{covers-rest, first-above, lists-pushed, nodes-first}
use Rattle.fy_order.proofs.relation.+relation.Goals as goal

pub below-loop-place-preserved : goal.below-loop-place-preserved
below-loop-place-preserved t c =
    let inv = c.loop-place.invariant in
    let a = c.args.a.now in
    let b = c.args.b.now in
    let found = c.loop-place.found.items in
    let made = c.in_ok-all_below.field-0 in
    let grown = c.push.new.self.items in
    record {
      long = rw c.in_ok-push.ensures.items (length-append found (made ∷ []) ∙ omega (arith, inv.long));
      have = lists-pushed (λ i list. (u : PlainTagged) → IsAt (nodes b) i u → HaveBelow (indexed_nodes a) u list) found grown made c.loop-place.place
          c.in_ok-push.ensures.items inv.long inv.have c.in_ok-all_below.ensures;
    }

pub below-returns : goal.below-returns
below-returns t c i u at =
    c.loop-place.invariant.have i (omega (arith, at-within (nodes c.args.b.now) i u at, c.width-count.ensures, c.loop-place-test.false)) u at

pub above-loop-place-preserved : goal.above-loop-place-preserved
above-loop-place-preserved t c =
    let inv = c.loop-place.invariant in
    let a = c.args.a.now in
    let b = c.args.b.now in
    let i = c.loop-place.place in
    let low = c.low-item.result in
    let path = c.path-item.result in
    let found = c.loop-place.found.items in
    let made = c.in_ok-found_above.field-0 in
    let grown = c.push.new.self.items in
    record {
      long = rw c.in_ok-push.ensures.items (length-append found (made ∷ []) ∙ omega (arith, inv.long));
      have = lists-pushed (λ j list. (e : PlainTagged) → IsAt (nodes b) j e → HaveAbove (indexed_nodes a) e list) found grown made i
          c.in_ok-push.ensures.items inv.long inv.have
          (λ e at.
          first-above a b c.high-item.result low c.in_ok-lows.lows.items i path e made.items
          c.high-item.is c.in-len1-up.len_at_least c.low-item.is c.in-len1-up-b.len_at_least c.requires.a c.requires.b
          c.in_ok-lows.ensures (rw (sym c.as_slice-path-items.ensures.value) c.path-item.is) at
          (λ k u few is below met. c.in_ok-found_above.ensures k u few is below
          (rw (c.as_slice-in-loop-place.ensures.value, c.list_at-domains.ensures, c.as_slice.ensures.value) met)));
    }

pub above-returns : goal.above-returns
above-returns t c i e at =
    let low = c.low-item.result in
    let here = subst (λ xs. IsAt xs i e) (nodes-first c.args.b.now low c.low-item.is c.in-len1-up-b.len_at_least) at in
    let few = at-few low.nodes.items i e here in
    let same = c.as_slice-path-items.ensures.value in
    c.loop-place.invariant.have i (omega (arith, subst (λ xs. i < length xs) (sym same) few, c.loop-place-test.false)) e at

pub covers_of-returns : goal.covers_of-returns
covers_of-returns t c =
    IfOk-weaker c.above.result _ _ (λ covers above. covers-rest c.args.a.now c.args.b.now covers.items above) c.above.ensures
