use Rattle.std.proofs.Common.{List, take, Bor, ap, ◌∙◌}
use Rattle.fy_phrase.specs.declared.phrase.Phrase.{Phrase}
use Rattle.fy_causes.specs.declared.around.Around.{Around}
use Rattle.fy_causes.specs.Readings.{around_read}
use Rattle.fy_show.specs.Reading.{known_in, scope_in}
use Rattle.fy_why.specs.Readings.{binders_of, named}
use Rattle.fy_why.proofs.ScopeLemmas.{named-whole, read_each}
use Rattle.fy_why.proofs.text.put_blame.Goals as goal

pub put_blame_in-requires-clause-scope : goal.put_blame_in-requires-clause-scope
put_blame_in-requires-clause-scope c =
    let k = known_in c.args.view.now in
    let s = scope_in c.args.view.now in
    let G = around_read c.args.e.now.at.around.value in
    let xs = c.in_ok-binders.binders.items in
    ap (λ (ps : List (Bor Phrase)). named k (take c.len.result (read_each ps)) s) c.deref-2.ensures.value
    ∙ (ap (λ n. named k (take n (read_each xs)) s) (c.len.ensures ∙ c.in_ok-binders.binders.ok.0)
    ∙ named-whole k G xs s (c.in_ok-binders.ensures ∙ ap (λ (a : Around). binders_of (around_read a)) c.deref.ensures) c.requires.outside)
