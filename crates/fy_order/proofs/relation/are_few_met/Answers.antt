use Rattle.std.proofs.Common.{get_or}
use Rattle.std.proofs.lemmas.List.Elements.{Contains-get_or}
use Rattle.fy_order.proofs.relation.are_few_met.Goals as goal

pub returns-then-not-have_common : goal.returns-then-not-have_common
returns-then-not-have_common c met =
    let i = c.loop-place.place-index in
    let one = met (get_or c.args.places.now i 0) (Contains-get_or c.args.places.now i 0 c.loop-place-test.true) in
    let t = c.have_common.ensures one.0 one.1 (rw c.list_at.ensures one.2) in
    let f = c.if-not-have_common.true in
    absurd (cc)
