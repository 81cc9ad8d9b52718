use Rattle.std.proofs.Common.{◌≡◌, ◌<◌, ◌+◌, ◌-◌, ◌∷◌, Bor, length, take, subst, sym, ap, ◌∙◌, arith}
use Rattle.fy_phrase.specs.Reads.{reads}
use Rattle.fy_causes.specs.Readings.{around_read, explained_read}
use Rattle.fy_show.specs.declared.entries.KnownNames.{KnownNames}
use Rattle.fy_show.specs.Entries.{Known, Scope}
use Rattle.fy_show.specs.Fresh.{bound}
use Rattle.fy_show.specs.Reading.{known_in, known_read, scope_in, scope_read}
use Rattle.fy_show.proofs.ScopeLemmas.{scope-inside}
use Rattle.fy_why.specs.Sentences.{scope_of}
use Rattle.fy_why.specs.Readings.{named}
use Rattle.fy_why.proofs.ScopeLemmas.{named-step, read_each}
use Rattle.fy_why.proofs.TextLemmas.{block-put}
use Rattle.fy_why.proofs.text.+put_blame_in.Goals as goal

pub put_block-requires-clause-scope : goal.put_block-requires-clause-scope
put_block-requires-clause-scope t c =
    let k = known_in c.args.view.now in
    let s = scope_in c.args.view.now in
    subst (λ m. named k (take m (read_each c.args.binders.now)) s ≡ scope_of k (around_read c.args.e.now.at.around.value)) c.if-count-eq0.true c.requires.scope

pub put_blame_in-requires : goal.put_blame_in-requires
put_blame_in-requires t c =
    let k = known_in c.args.view.now in
    let s = scope_in c.args.view.now in
    let G = around_read c.args.e.now.at.around.value in
    let bs = c.args.binders.now in
    let n = c.args.count - 1 in
    let x = c.index-binders-count.result in
    let within : n < length bs = omega (arith, c.requires.few, c.if-count-eq0.false) in
    let next : n + 1 ≡ c.args.count = omega (arith, c.if-count-eq0.false) in
    let inner = known_in c.in_scope-inner.result in
    let inside = scope_in c.in_scope-inner.result in
    let known : inner ≡ k = ap (λ (b : Bor KnownNames). known_read b.now) c.in_scope-inner.ensures.known in
    let scope : inside ≡ bound k s (reads x.now) ∷ s = ap scope_read c.in_scope-inner.ensures.scope ∙ (scope-inside _ c.args.view.now.scope ∙ ap (λ z. z ∷ s) c.in_ok-entry.ensures) in
    let names : named k (take n (read_each bs)) (bound k s (reads x.now) ∷ s) ≡ named k (take c.args.count (read_each bs)) s =
    named-step k bs n x s within c.index-binders-count.is ∙ ap (λ m. named k (take m (read_each bs)) s) next in (
      omega (arith, c.decreases, c.if-count-eq0.false),
      (
        c.requires.parts,
        (
          omega (arith, c.requires.few, c.if-count-eq0.false),
          ap (λ (l : Known). named l (take n (read_each bs)) inside) known
              ∙ (ap (λ (z : Scope). named k (take n (read_each bs)) z) scope
              ∙ (names ∙ (c.requires.scope ∙ ap (λ (l : Known). scope_of l G) (sym known)))),
        ),
      ),
    )

pub returns : goal.returns
returns t c =
    let known : known_in c.in_scope-inner.result ≡ known_in c.args.view.now = ap (λ (b : Bor KnownNames). known_read b.now) c.in_scope-inner.ensures.known in
    block-put c.put_blame_in.result c.put_blame_in.new.text.items c.args.text.now.items c.args.width (known_in c.args.view.now) (known_in c.in_scope-inner.result) c.args.names c.args.lead.now
    (explained_read c.args.e.now) c.put_blame_in.ensures known
