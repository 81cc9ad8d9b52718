use Rattle.std.proofs.Common.{◌≡◌, ◌<◌, sym, ap, ◌∙◌, subst, arith}
use Rattle.fy_types.specs.Types.{arrow, field}
use Rattle.fy_derive.specs.Shown.{total, shown}
use Rattle.fy_reasons.specs.Stopping.{IsHalved, AreHalves}
use Rattle.fy_reasons.proofs.LackLemmas.{arrow-halves, field-halves}
use Rattle.fy_reasons.proofs.expected.+halved.Goals as goal

pub returns-in_ok-second-in-Both-clause-halved : goal.returns-in_ok-second-in-Both-clause-halved
returns-in_ok-second-in-Both-clause-halved t c =
    let t0 = c.args.table.now in
    let t1 = c.halved.new.table in
    let d = c.in-Arrow.domain in
    let i = c.in-Both.first in
    let j = c.in-Both.second in
    let one = c.in_ok-first-in-Both.ensures in
    let two = c.in_ok-second-in-Both.ensures in
    let more = c.in_ok-halved-in-Arrow.ensures.extends in
    let inside : d < total t0 = omega (arith, c.in-Arrow.ensures.parts, c.requires) in
    let parts : AreHalves t1 (shown t0 c.in-Arrow.rest) i j = subst (λ x. IsHalved t1 (shown t0 c.in-Arrow.rest) x) c.in-Both.is c.in_ok-halved-in-Arrow.ensures.halved in
    arrow-halves t1 c.number-in-Both.new.self (shown t0 c.args.number) (shown t0 d) (shown t0 c.in-Arrow.rest) i j c.in_ok-first-in-Both.first c.in_ok-second-in-Both.second
    c.in-Arrow.ensures.stands parts
    (omega (arith, one.within, two.extends.more))
    (two.extends.same c.in_ok-first-in-Both.first one.within ∙ (one.stands ∙ ap (λ A. arrow A (shown t1 i)) (more.same d inside)))
    two.within
    (two.stands
    ∙ (ap (λ A. arrow A (shown c.number.new.self j)) (one.extends.same d (omega (arith, inside, more.more)) ∙ more.same d inside)
    ∙ ap (arrow (shown t0 d)) (one.extends.same j parts.second_in)))

pub returns-in_ok-second-in-Both-2-clause-halved : goal.returns-in_ok-second-in-Both-2-clause-halved
returns-in_ok-second-in-Both-2-clause-halved t c =
    let t0 = c.args.table.now in
    let t1 = c.halved-in-Field.new.table in
    let i = c.in-Both-2.first in
    let j = c.in-Both-2.second in
    let one = c.in_ok-first-in-Both-2.ensures in
    let two = c.in_ok-second-in-Both-2.ensures in
    let parts : AreHalves t1 (shown t0 c.in-Field.rest) i j = subst (λ x. IsHalved t1 (shown t0 c.in-Field.rest) x) c.in-Both-2.is c.in_ok-halved-in-Field.ensures.halved in
    field-halves t1 c.number-in-Both-2-2.new.self (shown t0 c.args.number) (shown t0 c.in-Field.rest) c.in-Field.name i j c.in_ok-first-in-Both-2.first c.in_ok-second-in-Both-2.second
    c.in-Field.ensures.stands parts
    (omega (arith, one.within, two.extends.more))
    (two.extends.same c.in_ok-first-in-Both-2.first one.within ∙ one.stands)
    two.within
    (two.stands ∙ ap (field c.in-Field.name) (one.extends.same j parts.second_in))
