use Rattle.std.proofs.Common.{◌≡◌, ◌<◌, ◌+◌, ◌-◌, ◌∷◌, Bor, length, take, refl, ap, ◌∙◌, arith}
use Rattle.fy_phrase.specs.Reads.{reads}
use Rattle.fy_show.specs.declared.entries.KnownNames.{KnownNames}
use Rattle.fy_show.specs.Entries.{Known, Scope}
use Rattle.fy_show.specs.Fresh.{bound}
use Rattle.fy_show.specs.Reading.{known_in, known_read, scope_in, scope_read}
use Rattle.fy_show.proofs.ScopeLemmas.{scope-inside}
use Rattle.fy_why.specs.Readings.{named}
use Rattle.fy_why.specs.Sentences.{phrase_told}
use Rattle.fy_why.proofs.PartLemmas.{put-phrase}
use Rattle.fy_why.proofs.ScopeLemmas.{named-step, read_each}
use Rattle.fy_why.proofs.scopes.+put_phrase_in.Goals as goal

pub returns : goal.returns
returns t c =
    let k = known_in c.args.view.now in
    let s = scope_in c.args.view.now in
    let bs = c.args.binders.now in
    let n = c.args.count - 1 in
    let x = c.index-binders-count.result in
    let q = reads c.args.p.now in
    let within : n < length bs = omega (arith, c.requires, c.if-count-eq0.false) in
    let next : n + 1 ≡ c.args.count = omega (arith, c.if-count-eq0.false) in
    let inner = known_in c.in_scope.result in
    let inside = scope_in c.in_scope.result in
    let known : inner ≡ k = ap (λ (b : Bor KnownNames). known_read b.now) c.in_scope.ensures.known in
    let scope : inside ≡ bound k s (reads x.now) ∷ s = ap scope_read c.in_scope.ensures.scope ∙ (scope-inside _ c.args.view.now.scope ∙ ap (λ z. z ∷ s) c.in_ok-entry.ensures) in
    let names : named k (take n (read_each bs)) (bound k s (reads x.now) ∷ s) ≡ named k (take c.args.count (read_each bs)) s =
    named-step k bs n x s within c.index-binders-count.is ∙ ap (λ m. named k (take m (read_each bs)) s) next in
    let all : Scope = named k (take c.args.count (read_each bs)) s in
    let moved : named inner (take n (read_each bs)) inside ≡ all = ap (λ (l : Known). named l (take n (read_each bs)) inside) known ∙ (ap (λ (z : Scope). named k (take n (read_each bs)) z) scope ∙ names) in
    put-phrase c.put_phrase_in.result c.put_phrase_in.new.text.items c.args.text.now.items (phrase_told k all q) k inner all (named inner (take n (read_each bs)) inside) q c.put_phrase_in.ensures known moved refl
