use Rattle.std.proofs.Common.{sym, ap, ◌∙◌}
use Rattle.std.proofs.lemmas.Result.{err_from_is_err_and}
use Rattle.fy_elf.specs.Refusals.{content_fields, header_fields}
use Rattle.fy_elf.proofs.Contents.{found_is, refusal_large, refusal_small}
use Rattle.fy_elf.proofs.Judging.{cause_along, judged_along}
use Rattle.fy_elf.proofs.read.read.Goals as goal

pub returns-then-bytes-gt-MOST_BYTES-clause-judged : goal.returns-then-bytes-gt-MOST_BYTES-clause-judged
returns-then-bytes-gt-MOST_BYTES-clause-judged c = refusal_large c.args.bytes.now c.if-bytes-gt-MOST_BYTES.true

pub returns-in_err-sizes-clause-judged : goal.returns-in_err-sizes-clause-judged
returns-in_err-sizes-clause-judged c =
    let p = err_from_is_err_and c.from_residual.result c.from_residual.ensures.1 in
    let start = refusal_small c.args.bytes.now c.if-bytes-gt-MOST_BYTES.false ∙ ap (λ r. header_fields content_fields r) (sym c.new-fields.ensures) in
    rw (p.1, p.2) (cause_along c.in_err-sizes.field-0.0 _ _ start (c.in_err-sizes.ensures.judged content_fields))

pub returns-clause-found : goal.returns-clause-found
returns-clause-found c = found_is c.read_contents.result c.in_ok-sizes.sizes c.args.bytes.now _ _ c.new-fields.ensures c.in_ok-sizes.ensures.taken c.read_contents.ensures.found

pub returns-clause-judged : goal.returns-clause-judged
returns-clause-judged c =
    let start = refusal_small c.args.bytes.now c.if-bytes-gt-MOST_BYTES.false ∙ ap (λ r. header_fields content_fields r) (sym c.new-fields.ensures) in
    judged_along c.read_contents.result _ _ (start ∙ c.in_ok-sizes.ensures.judged content_fields) c.read_contents.ensures.judged
