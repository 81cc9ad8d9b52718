use Rattle.std.proofs.Common.{◌-◌, ◌∷◌, ◌++◌, option_map, ap, ◌∙◌, subst, rules}
use Rattle.std.specs.Prelude.{◌≡◌, IfOk, codes, slice_get}
use Rattle.fy_base.specs.Outside.{Bytes}
use Rattle.fy_phrase.specs.Reads.{reads}
use Rattle.fy_show.specs.Entries.{Entry}
use Rattle.fy_show.specs.Reading.{entry_read, known_in, part_in, scope_in}
use Rattle.fy_show.specs.Fresh.{bound}
use Rattle.fy_show.specs.Texts.{entry_name, form, part}
use Rattle.fy_why.specs.Carets.{one}
use Rattle.fy_why.specs.Readings.{span_read}
use Rattle.fy_why.proofs.SpanLemmas.{regroup-five, span-later}
use Rattle.fy_why.proofs.carets.cells_span.Goals as goal

pub returns : goal.returns
returns c =
    let i = c.args.index in
    let v = c.args.view.now in
    let k = known_in v in
    let s = scope_in v in
    let n = part_in v 11 (reads c.args.count.now) in
    let e = entry_read c.in_ok-entry.entry in
    let words : Entry → Bytes = λ x. codes " (\\" ++ entry_name x ++ codes ": intvarseq. " in
    let body : Entry → Bytes = λ x. part v.manner 3 (form k (x ∷ s) (reads c.args.body.now)) in
    let begins : c.in_ok-front.front.items ≡ codes "newintseq " = search rules in
    let front =
    c.deref.ensures.value
    ∙ (c.in_ok-put-2.ensures
    ∙ (ap (λ ys. ys ++ codes ": intvarseq. ") (c.in_ok-put_one.ensures
    ∙ ap (λ ys. ys ++ entry_name e) (c.in_ok-put.ensures
    ∙ ap (λ ys. ys ++ codes " (\\") (c.in_ok-put_part.ensures ∙ ap (λ ys. ys ++ n) begins)))
    ∙ regroup-five (codes "newintseq ") n (codes " (\\") (entry_name e) (codes ": intvarseq. "))) in
    subst (λ X. IfOk c.span_under.result (λ o. option_map span_read o ≡ X))
    (ap (λ f. slice_get (one f (body e)) (i - 1)) front
    ∙ (ap (λ x. slice_get (one (codes "newintseq " ++ n ++ words x) (body x)) (i - 1)) c.in_ok-entry.ensures
    ∙ span-later (codes "newintseq ", n) (one (codes "newintseq " ++ n ++ words (bound k s (reads c.args.p.now))) (body (bound k s (reads c.args.p.now)))) i
    c.if-index-eq0.false)) c.span_under.ensures
