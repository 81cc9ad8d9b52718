use Rattle.std.proofs.Common.{◌-◌, ◌++◌, append_assoc, option_map, ap, ◌∙◌, subst, rules}
use Rattle.std.specs.Prelude.{◌≡◌, IfOk, codes, slice_get}
use Rattle.fy_phrase.specs.Reads.{reads}
use Rattle.fy_show.specs.Reading.{part_in}
use Rattle.fy_why.specs.Carets.{two}
use Rattle.fy_why.specs.Readings.{span_read}
use Rattle.fy_why.proofs.SpanLemmas.{span-later}
use Rattle.fy_why.proofs.carets.cond_span.Goals as goal

pub returns : goal.returns
returns c =
    let i = c.args.index in
    let v = c.args.view.now in
    let b = part_in v 3 (reads c.args.test.now) in
    let p = part_in v 3 (reads c.args.p.now) in
    let q = part_in v 3 (reads c.args.q.now) in
    let begins : c.in_ok-front.front.items ≡ codes "if " = search rules in
    let front =
    c.deref.ensures.value
    ∙ (c.in_ok-put.ensures
    ∙ (ap (λ ys. ys ++ codes " then ") (c.in_ok-put_part.ensures ∙ ap (λ ys. ys ++ b) begins) ∙ append_assoc (codes "if ") b (codes " then "))) in
    subst (λ X. IfOk c.two_spans.result (λ o. option_map span_read o ≡ X))
    (ap (λ f. slice_get (two f p (codes " else ") q) (i - 1)) front
    ∙ span-later (codes "if ", b) (two (codes "if " ++ b ++ codes " then ") p (codes " else ") q) i c.if-index-eq0.false) c.two_spans.ensures
