use Rattle.std.proofs.Common.{◌≡◌, ◌+◌, ◌-◌, ◌*◌, ◌<◌, ◌++◌, ◌∷◌, [], ℕ, List, Bor, Option, Some, None, codes, refl, sym, subst, ap, ◌∙◌, arith}
use Rattle.std.specs.Prelude.{option_map}
use Rattle.fy_base.specs.Outside.{Bytes}
use Rattle.fy_types.specs.Types.{PlainType}
use Rattle.fy_phrase.specs.Reads.{reads}
use Rattle.fy_phrase.specs.declared.phrase.Phrase.{Phrase}
use Rattle.fy_derive.specs.declared.derivation.Derivation.{Derivation}
use Rattle.fy_derive.specs.Contexts.{numbers}
use Rattle.fy_derive.specs.Derivations.{PlainDerivation, nodes}
use Rattle.fy_derive.specs.Reading.{plain_derivation}
use Rattle.fy_derive.specs.Shown.{shown, all_shown, total, AreIn}
use Rattle.fy_derive.proofs.ContextLemmas.{numbers-under}
use Rattle.fy_derive.proofs.Standings.{AreIn-kept, AreIn-cons, all_shown-kept}
use Rattle.fy_show.specs.declared.entries.KnownNames.{KnownNames}
use Rattle.fy_show.specs.Entries.{Known, Scope}
use Rattle.fy_show.specs.Fresh.{bound}
use Rattle.fy_show.specs.Reading.{entry_read, known_in, known_read, scope_in, scope_read}
use Rattle.fy_show.proofs.ScopeLemmas.{scope-inside}
use Rattle.fy_told.specs.ReasonTexts.{variable_text}
use Rattle.fy_tree.specs.Reading.{look_in, raised_part, two_below, let_parts}
use Rattle.fy_tree.specs.Whole.{below_lets, if_plain}
use Rattle.fy_tree.proofs.TreeLemmas.{part-nodes, put-as, two-put}
use Rattle.fy_tree.proofs.WholeLemmas.{below-raised, below-next, put-other, put-no_let, two-nodes}
use Rattle.fy_tree.proofs.whole.+lets.Goals as goal

pub put_below_lets-returns-then-place-eq0 : goal.put_below_lets-returns-then-place-eq0
put_below_lets-returns-then-place-eq0 t c =
    let v = c.args.view.now in
    let place = c.args.place.now in
    put-as c.put_behind.result c.put_behind.new.text.items c.args.text.now.items _ _ c.put_behind.ensures
    (ap (λ (n : ℕ). below_lets (look_in c.args.style v) place.more n place.before.now (plain_derivation c.args.d.now) place.at (all_shown c.args.table.now (numbers c.args.context.now)) (scope_in v) (reads c.args.p.now))
    (sym c.if-place-eq0.true))

pub put_below_lets-put_below_lets-requires : goal.put_below_lets-put_below_lets-requires
put_below_lets-put_below_lets-requires t c =
    let d = plain_derivation c.args.d.now in
    let e = plain_derivation c.in-Some.inner.now in
    let part : raised_part d ≡ Some e = sym c.part_of.ensures.part ∙ ap (option_map (λ (x : Bor Derivation). plain_derivation x.now)) c.in-Some.is in
    (omega (arith, part-nodes d e part, c.decreases), (c.requires.context, omega (arith, part-nodes d e part, c.requires.room)))

pub put_below_lets-put_let-requires : goal.put_below_lets-put_let-requires
put_below_lets-put_let-requires t c =
    let none : raised_part (plain_derivation c.args.d.now) ≡ None = sym c.part_of.ensures.part ∙ ap (option_map (λ (x : Bor Derivation). plain_derivation x.now)) c.in-None.is in
    (omega (arith, c.decreases), (c.requires.context, (c.requires.room, (omega (arith, c.if-place-eq0.false), none))))

pub put_below_lets-returns-in-Some : goal.put_below_lets-returns-in-Some
put_below_lets-returns-in-Some t c =
    let v = c.args.view.now in
    let place = c.args.place.now in
    let d = plain_derivation c.args.d.now in
    let e = plain_derivation c.in-Some.inner.now in
    let part : raised_part d ≡ Some e = sym c.part_of.ensures.part ∙ ap (option_map (λ (x : Bor Derivation). plain_derivation x.now)) c.in-Some.is in
    let some : 0 < place.count = omega (arith, c.if-place-eq0.false) in
    put-as c.put_below_lets.result c.put_below_lets.new.text.items c.args.text.now.items _ _ c.put_below_lets.ensures
    (below-raised (look_in c.args.style v) place.more place.count place.before.now d e place.at (all_shown c.args.table.now (numbers c.args.context.now)) (scope_in v) (reads c.args.p.now) some part)

pub put_let-returns-in_default : goal.put_let-returns-in_default
put_let-returns-in_default t c =
    let v = c.args.view.now in
    let place = c.args.place.now in
    let none : two_below (plain_derivation c.args.d.now) ≡ None =
    sym c.two_below.ensures ∙ ap (option_map (λ (x : Bor Derivation × Bor Derivation). (plain_derivation x.0.now, plain_derivation x.1.now))) c.in_default.is in
    put-other c.args.text.now.items (look_in c.args.style v) place.more place.count place.before.now (plain_derivation c.args.d.now) place.at (all_shown c.args.table.now (numbers c.args.context.now)) (scope_in v)
    (reads c.args.p.now) c.requires.some c.requires.own none

pub put_let-returns-in_default-let_parts : goal.put_let-returns-in_default-let_parts
put_let-returns-in_default-let_parts t c =
    let v = c.args.view.now in
    let place = c.args.place.now in
    let none : let_parts (reads c.args.p.now) ≡ None =
    sym c.let_parts.ensures ∙ ap (option_map (λ (x : Bor Phrase × Bor Phrase). (reads x.0.now, reads x.1.now))) c.in_default-let_parts.is in
    put-no_let c.args.text.now.items (look_in c.args.style v) place.more place.count place.before.now (plain_derivation c.args.d.now) place.at (all_shown c.args.table.now (numbers c.args.context.now)) (scope_in v)
    (reads c.args.p.now) c.requires.some c.requires.own none

pub put_let-put_named-requires : goal.put_let-put_named-requires
put_let-put_named-requires t c =
    let one = c.in_ok-number.ensures in
    let size = two-nodes (plain_derivation c.args.d.now) (plain_derivation c.in-Some.first.now) (plain_derivation c.in-Some.below.now) (sym c.in-Some.ensures) in
    let room = c.requires.room in (
      omega (arith, size, c.decreases),
      (AreIn-kept one.extends c.requires.context, (one.within, omega (arith, size, room, c.saturating_add.ensures, c.nodes_of.ensures))),
    )

pub put_let-returns : goal.put_let-returns
put_let-returns t c =
    let v = c.args.view.now in
    let place = c.args.place.now in
    let look = look_in c.args.style v in
    let s = scope_in v in
    let e = plain_derivation c.in-Some.first.now in
    let d = plain_derivation c.in-Some.below.now in
    let b = reads c.in-Some-let_parts.body.now in
    let one = c.in_ok-number.ensures in
    let G = all_shown c.args.table.now (numbers c.args.context.now) in
    let kept = all_shown-kept (numbers c.args.context.now) one.extends c.requires.context in
    let A : PlainType = shown c.concluded.new.table c.in_ok-number.number in
    let entry = bound (known_in v) s (reads c.args.p.now) in
    let size = two-nodes (plain_derivation c.args.d.now) e d (sym c.in-Some.ensures) in
    let room = c.requires.room in
    let next : c.saturating_add.result ≡ place.at + 1 + nodes e = omega (arith, size, room, c.saturating_add.ensures, c.nodes_of.ensures) in
    put-as c.put_named.result c.put_named.new.text.items c.args.text.now.items _ _ c.put_named.ensures
    (ap (λ (H : List PlainType). if_plain c.args.style.form (place.before.now ++ variable_text (known_in v) entry A) ++ below_lets look place.more (place.count - 1) (codes ", ") d c.saturating_add.result (A ∷ H) (entry ∷ s) b) kept
    ∙ below-next look place.more place.count (place.count - 1) place.before.now (plain_derivation c.args.d.now) e d place.at c.saturating_add.result G s (reads c.args.p.now) (reads c.in-Some-let_parts.defined.now) b A
    c.requires.some refl next one.stands (sym c.in-Some.ensures) (sym c.in-Some-let_parts.ensures))

pub put_named-put_below_lets-requires : goal.put_named-put_below_lets-requires
put_named-put_below_lets-requires t c = (
  omega (arith, c.decreases),
  (subst (λ ks. AreIn c.args.table.now ks) (sym (numbers-under _ _ _ refl)) (AreIn-cons c.args.number c.requires.within c.requires.context), c.requires.room),
)

pub put_named-returns : goal.put_named-returns
put_named-returns t c =
    let v = c.args.view.now in
    let place = c.args.place.now in
    let inner = c.in_scope-inside.result in
    let d = plain_derivation c.args.d.now in
    let b = reads c.args.body.now in
    let k = known_in v in
    let s = scope_in v in
    let G = all_shown c.args.table.now (numbers c.args.context.now) in
    let A : PlainType = shown c.args.table.now c.args.number in
    let entry = bound k s (reads c.args.p.now) in
    let known : known_in inner ≡ k = ap (λ (x : Bor KnownNames). known_read x.now) c.in_scope-inside.ensures.known in
    let scope : scope_in inner ≡ entry ∷ s = ap scope_read c.in_scope-inside.ensures.scope ∙ (scope-inside _ c.args.view.now.scope ∙ ap (λ e. e ∷ s) c.in_ok-entry.ensures) in
    let B : Known → List PlainType → Scope → Bytes = λ l H z.
    below_lets (record { known = l; form = c.args.style.form; width = c.args.style.width }) place.more place.count (codes ", ") d place.at H z b in
    let first = c.in_ok-put_name.ensures ∙ ap (λ e. c.args.text.now.items ++ if_plain c.args.style.form (place.before.now ++ variable_text k e A)) c.in_ok-entry.ensures in
    two-put c.put_below_lets.result c.args.text.now.items c.put_name.new.text.items c.put_below_lets.new.text.items _ _ first
    (put-as c.put_below_lets.result c.put_below_lets.new.text.items c.put_name.new.text.items _ _ c.put_below_lets.ensures
    (ap (λ (ks : List ℕ). B (known_in inner) (all_shown c.args.table.now ks) (scope_in inner)) (numbers-under _ _ _ refl) ∙ (ap (λ l. B l (A ∷ G) (scope_in inner)) known ∙ ap (B k (A ∷ G)) scope)))
