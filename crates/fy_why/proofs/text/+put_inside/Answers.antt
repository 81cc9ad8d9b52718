use Rattle.std.proofs.Common.{◌≡◌, ◌-◌, ◌∷◌, Bor, refl, ap, ◌∙◌}
use Rattle.fy_phrase.specs.Reads.{reads}
use Rattle.fy_show.specs.declared.entries.KnownNames.{KnownNames}
use Rattle.fy_show.specs.Entries.{Known, Scope}
use Rattle.fy_show.specs.Fresh.{bound}
use Rattle.fy_show.specs.Reading.{known_in, known_read, scope_in, scope_read}
use Rattle.fy_show.proofs.ScopeLemmas.{scope-inside}
use Rattle.fy_causes.specs.Readings.{cause_read}
use Rattle.fy_why.specs.Texts.{inside}
use Rattle.fy_why.proofs.InsideLemmas.{inside-body, inside-plain}
use Rattle.fy_why.proofs.TextLemmas.{phrase-put}
use Rattle.fy_why.proofs.text.+put_inside.Goals as goal

pub returns-in-None : goal.returns-in-None
returns-in-None t c =
    let k = known_in c.args.view.now in
    let s = scope_in c.args.view.now in
    let p = reads c.args.p.now in
    phrase-put c.put_phrase_lines-in-None.result c.put_phrase_lines-in-None.new.text.items c.args.text.now.items c.args.width c.args.lead.now (cause_read c.args.cause.now) k k
    (s, p) (inside k c.args.count s p) c.put_phrase_lines-in-None.ensures refl (inside-plain k c.args.count s p c.in-None.ensures)

pub returns-in_ok-entry-in-Some : goal.returns-in_ok-entry-in-Some
returns-in_ok-entry-in-Some t c =
    let k = known_in c.args.view.now in
    let s = scope_in c.args.view.now in
    let n = c.args.count in
    let p = reads c.args.p.now in
    let b = reads c.in-Some.body.now in
    let inner = known_in c.in_scope-inner.result in
    let names = scope_in c.in_scope-inner.result in
    let known : inner ≡ k = ap (λ (x : Bor KnownNames). known_read x.now) c.in_scope-inner.ensures.known in
    let scope : names ≡ bound k s p ∷ s =
    ap scope_read c.in_scope-inner.ensures.scope ∙ (scope-inside _ c.args.view.now.scope ∙ ap (λ z. z ∷ s) c.in_ok-entry-in-Some.ensures) in
    phrase-put c.put_inside.result c.put_inside.new.text.items c.args.text.now.items c.args.width c.args.lead.now (cause_read c.args.cause.now) k inner
    (inside inner (n - 1) names b) (inside k n s p) c.put_inside.ensures known
    (ap (λ (l : Known). inside l (n - 1) names b) known
    ∙ (ap (λ (z : Scope). inside k (n - 1) z b) scope ∙ inside-body k n s p b c.if-count-eq0.false c.in-Some.ensures))
