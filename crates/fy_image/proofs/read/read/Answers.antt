use Rattle.std.proofs.Common.{◌≢◌, ◌∙◌, sym, ap, rules}
use Rattle.std.proofs.lemmas.Result.{err_from_is_err_and}
use Rattle.fy_image.specs.declared.version.Version.TheVariants.{One, Two}
use Rattle.fy_image.specs.Refusals.{magic_refusal}
use Rattle.fy_image.proofs.Judging.{cause_some, cause_cut, judged_along}
use Rattle.fy_image.proofs.Spelling.{refusal_large, refusal_magic, refusal_cut, refusal_version, refusal_body}
use Rattle.fy_image.proofs.read.read.Goals as goal

pub returns-then-bytes-gt-MOST_BYTES-clause-judged : goal.returns-then-bytes-gt-MOST_BYTES-clause-judged
returns-then-bytes-gt-MOST_BYTES-clause-judged c = refusal_large c.args.bytes.now c.if-bytes-gt-MOST_BYTES.true

pub returns-in_err-magic-clause-judged : goal.returns-in_err-magic-clause-judged
returns-in_err-magic-clause-judged c =
    let p = err_from_is_err_and c.from_residual.result c.from_residual.ensures.1 in
    let bad = ap (λ b. magic_refusal b) (sym c.new-fields.ensures) ∙ c.in_err-magic.ensures.judged in
    rw (p.1, p.2) (cause_some c.in_err-magic.field-0.0 _ (refusal_magic c.args.bytes.now c.in_err-magic.field-0.0 c.if-bytes-gt-MOST_BYTES.false bad))

pub returns-in_err-version-clause-judged : goal.returns-in_err-version-clause-judged
returns-in_err-version-clause-judged c =
    let p = err_from_is_err_and c.from_residual-in_err-version.result c.from_residual-in_err-version.ensures.1 in
    let good = ap (λ b. magic_refusal b) (sym c.new-fields.ensures) ∙ c.in_ok-magic.ensures.judged in
    let is = sym c.new-fields.ensures ∙ c.in_ok-magic.ensures.taken in
    let cut = c.in_err-version.ensures.cut in
    rw (p.1, p.2) (cause_cut c.in_err-version.field-0.0 _ cut.0 (refusal_cut c.args.bytes.now _ c.if-bytes-gt-MOST_BYTES.false good is cut.1))

pub returns-in-1-clause-judged : goal.returns-in-1-clause-judged
returns-in-1-clause-judged c =
    let good = ap (λ b. magic_refusal b) (sym c.new-fields.ensures) ∙ c.in_ok-magic.ensures.judged in
    let is = sym c.new-fields.ensures ∙ c.in_ok-magic.ensures.taken in
    let version = c.in_ok-version in
    judged_along _ _ _ (refusal_body One c.args.bytes.now _ _ version.version c.if-bytes-gt-MOST_BYTES.false good is version.ensures.taken c.in-1.is) c.read_body.ensures.judged

pub returns-in-2-clause-judged : goal.returns-in-2-clause-judged
returns-in-2-clause-judged c =
    let good = ap (λ b. magic_refusal b) (sym c.new-fields.ensures) ∙ c.in_ok-magic.ensures.judged in
    let is = sym c.new-fields.ensures ∙ c.in_ok-magic.ensures.taken in
    let version = c.in_ok-version in
    judged_along _ _ _ (refusal_body Two c.args.bytes.now _ _ version.version c.if-bytes-gt-MOST_BYTES.false good is version.ensures.taken c.in-2.is) c.read_body-in-2.ensures.judged

pub returns-in_default-clause-judged : goal.returns-in_default-clause-judged
returns-in_default-clause-judged c =
    let good = ap (λ b. magic_refusal b) (sym c.new-fields.ensures) ∙ c.in_ok-magic.ensures.judged in
    let is = sym c.new-fields.ensures ∙ c.in_ok-magic.ensures.taken in
    let version = c.in_ok-version in
    let one : version.version ≢ 1 = (λ e. search rules) in
    let two : version.version ≢ 2 = (λ e. search rules) in
    refusal_version c.args.bytes.now _ _ version.version c.if-bytes-gt-MOST_BYTES.false good is version.ensures.taken version.ensures.fits one two
