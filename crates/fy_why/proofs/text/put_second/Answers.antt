use Rattle.std.proofs.Common.{◌≡◌, List, ◌++◌, take, Bor, false, ap, ◌∙◌}
use Rattle.std.specs.Prelude.{codes}
use Rattle.std.proofs.lemmas.Result.{on_ok_weaker}
use Rattle.fy_base.specs.declared.data.Place.{Place}
use Rattle.fy_phrase.specs.declared.phrase.Phrase.{Phrase}
use Rattle.fy_phrase.specs.Reads.{reads}
use Rattle.fy_phrase.specs.Tree.{place_of}
use Rattle.fy_causes.specs.declared.around.Around.{Around}
use Rattle.fy_causes.specs.Readings.{around_read, explained_read}
use Rattle.fy_show.specs.Entries.{Scope}
use Rattle.fy_show.specs.Reading.{known_in, scope_in}
use Rattle.fy_why.specs.Sentences.{phrase_told, place_text, scope_of}
use Rattle.fy_why.specs.Texts.{block}
use Rattle.fy_why.specs.Readings.{binders_of, named}
use Rattle.fy_why.proofs.LineLemmas.{six-put}
use Rattle.fy_why.proofs.ScopeLemmas.{named-whole, read_each}
use Rattle.fy_why.proofs.text.put_second.Goals as goal

pub returns : goal.returns
returns c =
    let T = c.args.text.now.items in
    let k = known_in c.args.view.now in
    let s = scope_in c.args.view.now in
    let second = c.args.second.now in
    let G = around_read second.inside.around.value in
    let p = reads second.inside.phrase.now in
    let xs = c.in_ok-binders.binders.items in
    let P = phrase_told k (scope_of k G) p in
    let A = place_text (place_of (reads second.blame.at.phrase.now)) in
    let B = block c.args.width k false (codes "    ") (explained_read second.blame) in
    let whole : named k (take c.len.result (read_each c.deref-2.result.now)) s ≡ scope_of k G =
    ap (λ (ps : List (Bor Phrase)). named k (take c.len.result (read_each ps)) s) c.deref-2.ensures.value
    ∙ (ap (λ n. named k (take n (read_each xs)) s) (c.len.ensures ∙ c.in_ok-binders.binders.ok.0)
    ∙ named-whole k G xs s (c.in_ok-binders.ensures ∙ ap (λ (a : Around). binders_of (around_read a)) c.deref.ensures) c.requires.outside) in
    let phrase : c.put_phrase_in.new.text.items ≡ c.put.new.text.items ++ P =
    c.in_ok-put_phrase_in.ensures ∙ ap (λ (z : Scope). c.put.new.text.items ++ phrase_told k z p) whole in
    let place : c.put_place.new.text.items ≡ c.put-2.new.text.items ++ A =
    c.in_ok-put_place.ensures ∙ ap (λ (a : Place). c.put-2.new.text.items ++ place_text a) c.place.ensures in
    on_ok_weaker c.put_blame.result
    (λ f. six-put T (codes "  ") P (codes " has only ns, by this, at ") A (codes ":\n") B c.put.new.text.items c.put_phrase_in.new.text.items c.put-2.new.text.items
    c.put_place.new.text.items c.put-3.new.text.items c.put_blame.new.text.items c.in_ok-put.ensures phrase c.in_ok-put-2.ensures place c.in_ok-put-3.ensures f)
    c.put_blame.ensures
