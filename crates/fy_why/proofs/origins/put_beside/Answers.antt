use Rattle.std.proofs.Common.{◌≡◌, ◌<◌, ◌∷◌, Bor, length, true, false, sym, ap, ◌∙◌, arith}
use Rattle.std.specs.Prelude.{if◌then◌else◌}
use Rattle.fy_phrase.specs.Reads.{reads}
use Rattle.fy_causes.specs.Readings.{around_read, explained_read, occurrence_read}
use Rattle.fy_show.specs.declared.entries.KnownNames.{KnownNames}
use Rattle.fy_show.specs.Entries.{Known, Scope}
use Rattle.fy_show.specs.Fresh.{bound}
use Rattle.fy_show.specs.Reading.{known_in, known_read, scope_in, scope_read}
use Rattle.fy_show.proofs.ScopeLemmas.{scope-inside}
use Rattle.fy_why.specs.Origins.{beside, beside_part}
use Rattle.fy_why.specs.Readings.{is_under_binder}
use Rattle.fy_why.specs.Sentences.{part_of, scope_of}
use Rattle.fy_why.specs.Texts.{lines}
use Rattle.fy_why.proofs.LineLemmas.{put-text}
use Rattle.fy_why.proofs.PartLemmas.{part-here, part-scope}
use Rattle.fy_why.proofs.origins.put_beside.Goals as goal

pub put_beside_at-requires : goal.put_beside_at-requires
put_beside_at-requires c =
    let k = known_in c.args.view.now in
    let e = c.args.e.now in
    let G = around_read e.at.around.value in
    let p = reads e.at.phrase.now in
    let i = c.args.index in
    let x = c.index.result.now in
    let within : i < length e.parts.items = omega (arith, c.len.ensures, c.if-index-len.false) in
    let not : is_under_binder p i ≡ false = sym c.is_under.ensures ∙ c.if-not-is_under.true in
    c.requires.scope
    ∙ sym (part-scope k G p e.parts.items i x c.requires.parts within c.index.ensures ∙ ap (λ b. if b then bound k (scope_of k G) p ∷ scope_of k G else scope_of k G) not)

pub returns-then-not-is_under : goal.returns-then-not-is_under
returns-then-not-is_under c =
    let T = c.args.text.now.items in
    let lead = c.args.lead.now in
    let k = known_in c.args.view.now in
    let e = c.args.e.now in
    let i = c.args.index in
    let x = c.index.result.now in
    let within : i < length e.parts.items = omega (arith, c.len.ensures, c.if-index-len.false) in
    put-text c.put_beside_at.result c.put_beside_at.new.text.items T (lines lead (beside k c.args.names (occurrence_read x.at) (reads x.at.phrase.now)))
    (lines lead (beside_part k c.args.names (part_of (explained_read e) i))) c.put_beside_at.ensures
    (ap (λ o. lines lead (beside_part k c.args.names o)) (sym (part-here e.parts.items i x within c.index.ensures)))

pub put_beside_at-requires-2 : goal.put_beside_at-requires-2
put_beside_at-requires-2 c =
    let k = known_in c.args.view.now in
    let s = scope_in c.args.view.now in
    let e = c.args.e.now in
    let G = around_read e.at.around.value in
    let p = reads e.at.phrase.now in
    let i = c.args.index in
    let x = c.index.result.now in
    let within : i < length e.parts.items = omega (arith, c.len.ensures, c.if-index-len.false) in
    let under : is_under_binder p i ≡ true = sym c.is_under.ensures ∙ c.if-not-is_under.false in
    let inner = known_in c.in_scope.result in
    let inside = scope_in c.in_scope.result in
    let known : inner ≡ k = ap (λ (b : Bor KnownNames). known_read b.now) c.in_scope.ensures.known in
    let scope : inside ≡ bound k s p ∷ s = ap scope_read c.in_scope.ensures.scope ∙ (scope-inside _ c.args.view.now.scope ∙ ap (λ z. z ∷ s) c.in_ok-entry.ensures) in
    scope
    ∙ (ap (λ (z : Scope). bound k z p ∷ z) c.requires.scope
    ∙ (sym (part-scope k G p e.parts.items i x c.requires.parts within c.index.ensures ∙ ap (λ b. if b then bound k (scope_of k G) p ∷ scope_of k G else scope_of k G) under)
    ∙ ap (λ (l : Known). scope_of l (around_read x.at.around.value)) (sym known)))

pub returns : goal.returns
returns c =
    let T = c.args.text.now.items in
    let lead = c.args.lead.now in
    let k = known_in c.args.view.now in
    let e = c.args.e.now in
    let i = c.args.index in
    let x = c.index.result.now in
    let within : i < length e.parts.items = omega (arith, c.len.ensures, c.if-index-len.false) in
    let inner = known_in c.in_scope.result in
    let known : inner ≡ k = ap (λ (b : Bor KnownNames). known_read b.now) c.in_scope.ensures.known in
    put-text c.put_beside_at-2.result c.put_beside_at-2.new.text.items T (lines lead (beside inner c.args.names (occurrence_read x.at) (reads x.at.phrase.now)))
    (lines lead (beside_part k c.args.names (part_of (explained_read e) i))) c.put_beside_at-2.ensures
    (ap (λ (l : Known). lines lead (beside l c.args.names (occurrence_read x.at) (reads x.at.phrase.now))) known
    ∙ ap (λ o. lines lead (beside_part k c.args.names o)) (sym (part-here e.parts.items i x within c.index.ensures)))
