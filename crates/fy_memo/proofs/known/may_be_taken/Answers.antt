use Rattle.std.proofs.Common.{◌<◌, length, sym, ap, ◌∙◌, arith}
use Rattle.std.proofs.lemmas.Result.{IfOk-weaker}
use Rattle.fy_types.specs.Reading.{plain_paths}
use Rattle.fy_forms.specs.Keys.{lent}
use Rattle.fy_derive.specs.Subsumption.{some_below, some_passes}
use Rattle.fy_memo.proofs.BaseLemmas.{takes-domain, takes-none}
use Rattle.fy_memo.proofs.known.may_be_taken.Goals as goal

pub returns-in-Call : goal.returns-in-Call
returns-in-Call c =
    let xs = c.as_slice-elems.result.now in
    let some : 0 < length xs = omega arith in
    let N = lent c.args.others.now in
    IfOk-weaker c.is_one_below.result _ _
    (λ r test apart P B made. takes-domain P B N c.args.path.now xs c.index-elems-0.result c.in-Call.domain
    c.as_slice-elems.ensures.reading some c.index-elems-0.is c.in-Call.is
    (ap (λ d. some_passes (some_below N) (plain_paths d)) (sym c.deref.ensures) ∙ (sym test ∙ apart)) made) c.is_one_below.ensures

pub returns-in-Field : goal.returns-in-Field
returns-in-Field c =
    let xs = c.as_slice-elems.result.now in
    let some : 0 < length xs = omega arith in
    λ apart P B made. takes-none P B c.args.path.now xs c.index-elems-0.result c.in-Field.field-0
    c.as_slice-elems.ensures.reading some c.index-elems-0.is c.in-Field.is
