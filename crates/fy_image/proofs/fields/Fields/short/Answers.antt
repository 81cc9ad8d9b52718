use Rattle.std.proofs.Common.{◌<◌, ◌∷◌, ◌++◌, ◌∙◌, if◌then◌else◌, length, sym, ap, arith, Some, None}
use Rattle.std.proofs.lemmas.Result.{err_from_is_err_and}
use Rattle.fy_image.specs.declared.error.ImageError.TheVariants as errors
use Rattle.fy_image.specs.Form.{short}
use Rattle.fy_image.specs.Refusals.{first_refusal, short_number, short_size}
use Rattle.fy_image.proofs.Judging.{cut_judged, passed, refused}
use Rattle.fy_image.proofs.Groups.{part_back}
use Rattle.fy_image.proofs.fields.Fields.short.Goals as goal

pub returns-in_err-bytes-clause-judged : goal.returns-in_err-bytes-clause-judged
returns-in_err-bytes-clause-judged c =
    let p = err_from_is_err_and c.from_residual.result c.from_residual.ensures.1 in
    let cut = c.in_err-bytes.ensures.cut in
    let size = c.short_size-size.ensures ∙ ap short_size c.self.view_is in
    let within : length c.args.self.now < short_size c.args.self.now = omega (arith, cut.1, size) in
    rw (p.1, p.2) (cut_judged c.in_err-bytes.field-0.0 (short_number c.args.field) c.args.self.now cut.0 within)

pub returns-in-Some-clause-judged : goal.returns-in-Some-clause-judged
returns-in-Some-clause-judged c = λ fields.
    let taken = c.in_ok-bytes.ensures.part in
    let long = c.in_ok-bytes.ensures.size ∙ c.short_size-size.ensures ∙ ap short_size c.self.view_is ∙ ap short_size taken in
    ap (λ b. first_refusal (short_number c.args.field ∷ fields) b) taken
    ∙ passed (short_number c.args.field) fields _ _ long (ap (λ b. if b then None else Some (errors.BadField c.args.field)) c.in-Some.ensures.number.0)

pub returns-in-None-clause-judged : goal.returns-in-None-clause-judged
returns-in-None-clause-judged c = λ fields.
    let taken = c.in_ok-bytes.ensures.part in
    let long = c.in_ok-bytes.ensures.size ∙ c.short_size-size.ensures ∙ ap short_size c.self.view_is ∙ ap short_size taken in
    ap (λ b. first_refusal (short_number c.args.field ∷ fields) b) taken
    ∙ refused (short_number c.args.field) fields _ _ (errors.BadField c.args.field) long (ap (λ b. if b then None else Some (errors.BadField c.args.field)) c.in-None.ensures.number)

pub returns-in-Some-clause-some : goal.returns-in-Some-clause-some
returns-in-Some-clause-some c =
    let taken = c.in_ok-bytes.ensures.part in
    let long = c.in_ok-bytes.ensures.size ∙ c.short_size-size.ensures ∙ ap short_size c.self.view_is in
    let one = c.in-Some.ensures.number in
    let back = part_back c.args.self.now c.in_ok-bytes.bytes.now _ taken long one.0 c.in-Some.ensures.fit in
    omega (arith, back.1, one.1)

pub returns-in-Some-clause-taken : goal.returns-in-Some-clause-taken
returns-in-Some-clause-taken c =
    let taken = c.in_ok-bytes.ensures.part in
    let long = c.in_ok-bytes.ensures.size ∙ c.short_size-size.ensures ∙ ap short_size c.self.view_is in
    let one = c.in-Some.ensures.number in
    let back = part_back c.args.self.now c.in_ok-bytes.bytes.now _ taken long one.0 c.in-Some.ensures.fit in
    taken ∙ ap (λ b. b ++ c.take.new.self) (sym back.0 ∙ ap short (sym one.1))
