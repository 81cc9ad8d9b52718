use Rattle.std.proofs.Common.{get_or, subst}
use Rattle.std.specs.List.{Contains}
use Rattle.pe_shapes.specs.Placing.{IsPlaceAmong}
use Rattle.pe_shapes.proofs.PlaceLemmas.{moved-more, not-yet, placed-in, ordered-in}
use Rattle.pe_shapes.proofs.Standings.{AreIn-at}
use Rattle.pe_shapes.proofs.order.in_order.Goals as goal

pub place_among-place-requires-clause-other : goal.place_among-place-requires-clause-other
place_among-place-requires-clause-other c = λ h.
    not-yet c.args.set.now c.loop-number.order.items c.loop-number.number-index c.loop-number-test.true c.requires.once c.loop-number.invariant.moved
    (subst (λ ks. Contains ks (get_or c.args.set.now c.loop-number.number-index 0)) c.deref.ensures.value h)

pub loop-number-preserved : goal.loop-number-preserved
loop-number-preserved c =
    let t = c.args.numbers.now in
    let set = c.args.set.now in
    let i = c.loop-number.number-index in
    let ks = c.loop-number.order.items in
    let ms = c.insert.new.self.items in
    let inv = c.loop-number.invariant in
    let place = c.place_among-place.result in
    let at = subst (λ xs. IsPlaceAmong t xs (get_or set i 0) place) c.deref.ensures.value c.place_among-place.ensures in
    record {
      moved = moved-more set ks ms i place c.loop-number-test.true c.in_ok-insert.ensures.items inv.moved;
      within = placed-in t ks ms (get_or set i 0) place c.in_ok-insert.ensures.items inv.within (AreIn-at i 0 c.requires.within c.loop-number-test.true);
      ordered = ordered-in t ks ms (get_or set i 0) place at c.in_ok-insert.ensures.items inv.ordered;
    }
