use Rattle.std.proofs.Common.{◌≤◌, ◌<◌, ◌*◌, ◌++◌, ◌∷◌, arith, refl, length, ap, ◌∙◌, subst}
use Rattle.std.specs.List.{flat_map}
use Rattle.fy_base.specs.Outside.{Bytes}
use Rattle.fy_image.specs.declared.version.Version.TheVariants.{One}
use Rattle.fy_image.specs.Form.{place_bytes}
use Rattle.fy_image.specs.Refusals.{place_list, first_refusal}
use Rattle.fy_image.proofs.Judging.{cut_off, places_good, places_bad}
use Rattle.fy_image.proofs.Lists.{eights_cut}
use Rattle.fy_image.proofs.fields.Fields.word_places.Goals as goal

pub returns-then-self-count-clause-judged : goal.returns-then-self-count-clause-judged
returns-then-self-count-clause-judged c = λ fields.
    let same = ap (λ b. length b) c.self.view_is in
    let short : length c.args.self.now < 8 * c.args.count = omega arith in
    cut_off (place_list c.args.count c.args.field) fields c.args.self.now short

-- the bytes are there
pub returns-in_err-line-clause-judged : goal.returns-in_err-line-clause-judged
returns-in_err-line-clause-judged c =
    let short = eights_cut (place_bytes One) (λ x. refl) c.loop.places c.args.count c.args.self.now c.loop.self c.loop.invariant.taken (omega (arith, c.loop.invariant.count)) c.in_err-line.ensures.cut.1 in
    absurd (omega (arith, short, c.loop.invariant.there))

pub returns-in-None-clause-judged : goal.returns-in-None-clause-judged
returns-in-None-clause-judged c = λ fields.
    let n = c.in_ok-line.ensures in
    let before = flat_map (place_bytes One) c.loop.places in
    let is = c.loop.invariant.taken ∙ ap (λ b. before ++ b) n.taken in
    let There : Bytes → Type 0 = λ b. 8 * c.args.count ≤ length b in
    ap (λ b. first_refusal (place_list c.args.count c.args.field ∷ fields) b) is
    ∙ places_bad c.args.count c.args.field c.loop.places c.in_ok-line.line c.in_ok-line.col fields c.two_numbers.new.self
    c.loop.invariant.fit n.fit.0 n.fit.1 c.in-None.ensures (omega (arith, c.loop.invariant.count)) (subst There is c.loop.invariant.there)

pub returns-clause-judged : goal.returns-clause-judged
returns-clause-judged c = λ fields.
    ap (λ b. first_refusal (place_list c.args.count c.args.field ∷ fields) b) c.loop.invariant.taken
    ∙ places_good c.args.count c.args.field c.loop.places fields c.loop.self c.loop.invariant.fit (omega (arith, c.loop.invariant.count))
