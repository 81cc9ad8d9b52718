use Rattle.std.proofs.Common.{get_or}
use Rattle.std.proofs.lemmas.List.Elements.{Contains-get_or}
use Rattle.fy_order.proofs.relation.are_met.Goals as goal

pub returns-then-not-has_any : goal.returns-then-not-has_any
returns-then-not-has_any c met =
    let i = c.loop-place.place-index in
    let one = met (get_or c.args.places.now i 0) (Contains-get_or c.args.places.now i 0 c.loop-place-test.true) in
    let t = c.has_any.ensures one.0 (rw c.list_at.ensures one.2) (c.in_ok-all.ensures.has one.0 one.1) in
    let f = c.if-not-has_any.true in
    absurd (cc)
