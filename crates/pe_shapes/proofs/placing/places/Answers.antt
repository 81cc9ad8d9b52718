use Rattle.pe_shapes.proofs.PlaceLemmas.{Contains-place, places-more}
use Rattle.pe_shapes.proofs.placing.places.Goals as goal

pub place_of-requires : goal.place_of-requires
place_of-requires c = Contains-place c.args.used.now c.args.order.now c.loop-number.number-index c.requires.moved c.loop-number-test.true

pub loop-number-preserved : goal.loop-number-preserved
loop-number-preserved c =
    places-more c.args.used.now c.args.order.now c.loop-number.all.items c.push.new.self.items c.loop-number.number-index c.place_of.result c.loop-number-test.true
    c.in_ok-push.ensures.items c.place_of.ensures.stands c.loop-number.invariant
