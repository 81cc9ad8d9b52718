use Rattle.std.proofs.Common.{◌≡◌, ◌<◌, ◌∷◌, Bor, length, refl, sym, ap, ◌∙◌, arith, true, false}
use Rattle.fy_phrase.specs.Reads.{reads}
use Rattle.fy_causes.specs.Readings.{explained_read}
use Rattle.fy_show.specs.declared.entries.KnownNames.{KnownNames}
use Rattle.fy_show.specs.Fresh.{bound}
use Rattle.fy_show.specs.Reading.{known_in, known_read, scope_in, scope_read}
use Rattle.fy_show.proofs.ScopeLemmas.{scope-inside}
use Rattle.fy_why.specs.Sentences.{part_text}
use Rattle.fy_why.specs.Readings.{is_under_binder}
use Rattle.fy_why.proofs.PartLemmas.{put-phrase, told-here, told-under}
use Rattle.fy_why.proofs.parts.put_part_phrase.Goals as goal

pub returns-then-not-is_under : goal.returns-then-not-is_under
returns-then-not-is_under c =
    let k = known_in c.args.view.now in
    let s = scope_in c.args.view.now in
    let p = reads c.args.e.now.at.phrase.now in
    let x = c.index.result.now in
    let within : c.args.index < length c.args.e.now.parts.items = omega (arith, c.len.ensures, c.if-index-len.false) in
    let not : is_under_binder p c.args.index ≡ false = sym c.is_under.ensures ∙ c.if-not-is_under.true in
    put-phrase c.put_phrase.result c.put_phrase.new.text.items c.args.text.now.items (part_text k (explained_read c.args.e.now) c.args.index) k k s s (reads x.at.phrase.now) c.put_phrase.ensures refl refl
    (told-here k c.args.e.now c.args.index x s c.requires.scope c.requires.parts within c.index.ensures not)

pub returns : goal.returns
returns c =
    let k = known_in c.args.view.now in
    let s = scope_in c.args.view.now in
    let p = reads c.args.e.now.at.phrase.now in
    let x = c.index.result.now in
    let within : c.args.index < length c.args.e.now.parts.items = omega (arith, c.len.ensures, c.if-index-len.false) in
    let under : is_under_binder p c.args.index ≡ true = sym c.is_under.ensures ∙ c.if-not-is_under.false in
    let inner = known_in c.in_scope.result in
    let inside = scope_in c.in_scope.result in
    let known : inner ≡ k = ap (λ (b : Bor KnownNames). known_read b.now) c.in_scope.ensures.known in
    let scope : inside ≡ bound k s p ∷ s = ap scope_read c.in_scope.ensures.scope ∙ (scope-inside _ c.args.view.now.scope ∙ ap (λ z. z ∷ s) c.in_ok-entry.ensures) in
    put-phrase c.put_phrase-2.result c.put_phrase-2.new.text.items c.args.text.now.items (part_text k (explained_read c.args.e.now) c.args.index) k inner (bound k s p ∷ s) inside (reads x.at.phrase.now) c.put_phrase-2.ensures known scope
    (told-under k c.args.e.now c.args.index x s c.requires.scope c.requires.parts within c.index.ensures under)
