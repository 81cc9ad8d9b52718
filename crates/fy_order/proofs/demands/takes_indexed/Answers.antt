use Rattle.std.proofs.Common.{◌<◌, length, sym, ap, ◌∙◌, arith}
use Rattle.std.proofs.lemmas.Result.{IfOk-weaker}
use Rattle.fy_order.specs.Indexed.{indexed}
use Rattle.fy_types.specs.Reading.{plain_paths}
use Rattle.fy_derive.specs.Subsumption.{paths_below}
use Rattle.fy_order.proofs.DemandLemmas.{below-test, takes-call, takes-field}
use Rattle.fy_order.proofs.demands.takes_indexed.Goals as goal

pub returns-in-Call : goal.returns-in-Call
returns-in-Call c =
    let xs = c.as_slice-elems.result.now in
    let some : 0 < length xs = omega arith in
    IfOk-weaker c.is_below.result _ _
    (λ r both. below-test r (indexed c.args.index.now) (plain_paths c.deref.result.now) both
    ∙ (ap (λ d. paths_below (indexed c.args.index.now) (plain_paths d)) c.deref.ensures
    ∙ sym (takes-call (indexed c.args.index.now) c.args.path.now xs c.index-elems-0.result c.in-Call.domain
    c.as_slice-elems.ensures.reading some c.index-elems-0.is c.in-Call.is))) c.is_below.ensures

pub returns-in-Field : goal.returns-in-Field
returns-in-Field c =
    let xs = c.as_slice-elems.result.now in
    let some : 0 < length xs = omega arith in
    sym (takes-field (indexed c.args.index.now) c.args.path.now xs c.index-elems-0.result c.in-Field.field-0
    c.as_slice-elems.ensures.reading some c.index-elems-0.is c.in-Field.is)
