use Rattle.std.proofs.Common.{◌∙◌, [], refl}
use Rattle.std.proofs.lemmas.Result.{err_from_is_err_and}
use Rattle.fy_image.proofs.Judging.{cause_along, cause_some}
use Rattle.fy_image.proofs.Placing.{lists_judged}
use Rattle.fy_image.proofs.Spelling.{is_body}
use Rattle.fy_image.proofs.read.read_body.Goals as goal

pub returns-in_err-places-clause-judged : goal.returns-in_err-places-clause-judged
returns-in_err-places-clause-judged c =
    let p = err_from_is_err_and c.from_residual-in_err-places.result c.from_residual-in_err-places.ensures.1 in
    let h = c.in_ok-header in
    rw (p.1, p.2)
    (cause_along c.in_err-places.field-0.0 _ _
    (lists_judged c.args.version h.header.code_words h.header.table_words h.header.places _ _ _ _ h.ensures.judged c.in_ok-code.ensures.judged c.in_ok-table.ensures.judged)
    (c.in_err-places.ensures.judged []))

pub returns-in_err-end-clause-judged : goal.returns-in_err-end-clause-judged
returns-in_err-end-clause-judged c =
    let p = err_from_is_err_and c.from_residual-in_err-end.result c.from_residual-in_err-end.ensures.1 in
    let h = c.in_ok-header in
    rw (p.1, p.2)
    (cause_some c.in_err-end.field-0.0 _
    (lists_judged c.args.version h.header.code_words h.header.table_words h.header.places _ _ _ _ h.ensures.judged c.in_ok-code.ensures.judged c.in_ok-table.ensures.judged
    ∙ c.in_ok-places.ensures.judged [] ∙ c.in_err-end.ensures.judged))

pub returns-clause-judged : goal.returns-clause-judged
returns-clause-judged c =
    let h = c.in_ok-header in
    lists_judged c.args.version h.header.code_words h.header.table_words h.header.places _ _ _ _ h.ensures.judged c.in_ok-code.ensures.judged c.in_ok-table.ensures.judged
    ∙ c.in_ok-places.ensures.judged [] ∙ c.in_ok-end.ensures.judged

pub returns-clause-found : goal.returns-clause-found
returns-clause-found c =
    let h = c.in_ok-header.ensures in
    let w = c.in_ok-code.ensures in
    let t = c.in_ok-table.ensures in
    let n = c.in_ok-places.ensures in
    is_body c.args.version c.in_ok-header.header _ _ _ _ _ _ (record {
      numbers = h.taken;
      ranges = h.ranges;
      code = w.taken;
      code_fits = w.fit;
      table = t.taken;
      table_fits = t.fit;
      places = n.taken;
      places_fit = n.fit;
      done = c.in_ok-end.ensures.done;
      stack_is = refl;
      code_is = w.count;
      table_is = t.count;
      places_are = n.count;
    })
