use Rattle.std.proofs.Common.{◌<◌, length, sym, ap, ◌∙◌, arith}
use Rattle.std.proofs.lemmas.Result.{IfOk-weaker}
use Rattle.fy_types.specs.Reading.{plain_paths}
use Rattle.fy_derive.specs.Subsumption.{paths_below}
use Rattle.fy_order.proofs.DemandLemmas.{takes-call, takes-field}
use Rattle.fy_order.proofs.demands.takes_argument.Goals as goal

pub returns-in-Call : goal.returns-in-Call
returns-in-Call c =
    let xs = c.as_slice-elems.result.now in
    let some : 0 < length xs = omega arith in
    IfOk-weaker c.are_paths_below.result _ _
    (λ r below. below
    ∙ (ap (λ d. paths_below (plain_paths c.args.argument.now) (plain_paths d)) c.deref.ensures
    ∙ sym (takes-call (plain_paths c.args.argument.now) c.args.path.now xs c.index-elems-0.result c.in-Call.domain
    c.as_slice-elems.ensures.reading some c.index-elems-0.is c.in-Call.is))) c.are_paths_below.ensures

pub returns-in-Field : goal.returns-in-Field
returns-in-Field c =
    let xs = c.as_slice-elems.result.now in
    let some : 0 < length xs = omega arith in
    sym (takes-field (plain_paths c.args.argument.now) c.args.path.now xs c.index-elems-0.result c.in-Field.field-0
    c.as_slice-elems.ensures.reading some c.index-elems-0.is c.in-Field.is)
