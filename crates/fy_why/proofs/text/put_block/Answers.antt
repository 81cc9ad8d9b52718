use Rattle.std.proofs.Common.{◌≡◌, ◌++◌, refl, ap, ◌∙◌}
use Rattle.std.proofs.lemmas.Result.{on_ok_weaker}
use Rattle.fy_phrase.specs.Reads.{reads}
use Rattle.fy_causes.specs.declared.around.Around.{Around}
use Rattle.fy_causes.specs.Readings.{around_read, cause_read, explained_read, occurrence_read}
use Rattle.fy_show.specs.Entries.{Scope}
use Rattle.fy_show.specs.Reading.{known_in, scope_in}
use Rattle.fy_why.specs.Origins.{beside_all, told_of}
use Rattle.fy_why.specs.Sentences.{sentences}
use Rattle.fy_why.specs.Texts.{hidden_names, inside, lines, phrase_lines, shown_at}
use Rattle.fy_why.proofs.LineLemmas.{two-put}
use Rattle.fy_why.proofs.TextLemmas.{phrase-moved}
use Rattle.fy_why.proofs.text.put_block.Goals as goal

pub returns : goal.returns
returns c =
    let T = c.args.text.now.items in
    let lead = c.args.lead.now in
    let k = known_in c.args.view.now in
    let s = scope_in c.args.view.now in
    let e = c.args.e.now in
    let G = around_read e.at.around.value in
    let p = reads e.at.phrase.now in
    let E = explained_read e in
    let C = cause_read e.cause in
    let A = lines lead (phrase_lines c.args.width k C (shown_at k (occurrence_read e.at))) in
    let B = lines lead (sentences k E C) in
    let D = lines lead (beside_all k c.args.names E (told_of C)) in
    let first : c.put_inside.new.text.items ≡ T ++ A =
    phrase-moved c.put_inside.new.text.items T c.args.width lead C k k (inside k c.hidden_names-hidden.result s p) (shown_at k (occurrence_read e.at)) c.in_ok-put_inside.ensures refl
    (ap (λ n. inside k n s p) (c.hidden_names-hidden.ensures ∙ ap (λ (a : Around). hidden_names (around_read a)) c.deref.ensures)
    ∙ ap (λ (z : Scope). inside k (hidden_names G) z p) c.requires.scope) in
    on_ok_weaker c.put_beside_all.result
    (λ f. two-put T (A ++ B) D c.put_sentences.new.text.items c.put_beside_all.new.text.items
    (two-put T A B c.put_inside.new.text.items c.put_sentences.new.text.items first c.in_ok-put_sentences.ensures) f)
    c.put_beside_all.ensures
