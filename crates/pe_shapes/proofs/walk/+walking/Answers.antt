use Rattle.std.proofs.Common.{◌≡◌, ◌≢◌, ◌+◌, ◌<◌, [], ◌∷◌, ◌++◌, length, get_or, map, drop, sym, ap, ◌∙◌, subst, refl, arith}
use Rattle.std.proofs.lemmas.List.{length_push, map_push, drop_all}
use Rattle.std.proofs.lemmas.Result.{err_from_is_err_and}
use Rattle.fy_types.specs.Reading.{plain_type}
use Rattle.fy_phrase.specs.Reads.{reads}
use Rattle.fy_phrase.specs.Sizes.{nodes}
use Rattle.fy_derive.specs.Derivations.{count}
use Rattle.fy_derive.specs.Reading.{plain_derivation, plain_derivations, derivations_from}
use Rattle.fy_derive.proofs.DerivationSizes.{member_size}
use Rattle.fy_derive.proofs.ReadLemmas.{count-in}
use Rattle.fy_types.proofs.Steps.{drop_item}
use Rattle.fy_phrase.specs.Premises.{premise_shown, plain_binder}
use Rattle.pe_shapes.specs.Contexts.{bounds, by_type, numbers_of, bounds_under}
use Rattle.fy_types.specs.Types.{meet}
use Rattle.fy_types.specs.Reading.{types_from}
use Rattle.fy_derive.specs.Judging.{under}
use Rattle.fy_derive.specs.Shapes.{HasPair, OneHasPair, PremiseHasPair}
use Rattle.pe_shapes.specs.Finding.{Adds, NoPair}
use Rattle.fy_phrase.specs.declared.shapes.ShapeElem.TheVariants as elem
use Rattle.pe_shapes.specs.Numbering.{in_front}
use Rattle.pe_shapes.specs.Parts.{parts_in, AreSizes}
use Rattle.pe_shapes.specs.Shown.{all_shown, AreIn, AreAllIn}
use Rattle.pe_shapes.specs.Standing.{AreBound, AreFit, AreJust, AreShapesOfEach}
use Rattle.pe_shapes.proofs.Arms.{ns-arm, sub-arm, sub-stop, sub-type-stop, meet-arm, meet-stop, alt-arm, alt-stop, alt-none, left-arm, left-stop, left-none, right-arm, right-stop, right-none, rule-misfit, rule-each-stop, rule-each-own, rule-each-arm, none-of}
use Rattle.pe_shapes.proofs.ContextLemmas.{bounds-under}
use Rattle.pe_shapes.proofs.FoundLemmas.{IsFound-numbers, Stays-recorded}
use Rattle.pe_shapes.proofs.PartLemmas.{sizes-body, sizes-left, sizes-right, sizes-first, sizes-at, sizes-within, sizes-parts, sizes-rest, parts_in-made, made-read, parts_in-next}
use Rattle.pe_shapes.proofs.Standings.{Extends-itself, Extends-trans, AreIn-none, AreIn-kept, AreIn-added, AreBound-cons, AreBound-kept, AreBound-under, AreFit-cons, AreFit-kept, AreFit-under, AreAllIn-none, AreAllIn-kept, AreAllIn-push}
use Rattle.pe_shapes.proofs.WalkLemmas.{Ns-derivation, Sub-read, Meet-derivation, Alt-read, Left-read, Right-read, Rule-derivation, AreWalkedSo, all-walked-init, all-walked-next, all-walked-stop, all-walked-end, ArePremisesWalkedSo, premises-walked-init, premises-at, premise-walked-next, premise-walked-stop, premises-walked-end}
use Rattle.pe_shapes.proofs.WalkSizes.{meet-size, alt-size, left-size, right-size, rule-size}
use Rattle.pe_shapes.proofs.walk.+walking.Goals as goal

-- ---- `ns`

pub walk-recorded-requires-clause-set : goal.walk-recorded-requires-clause-set
walk-recorded-requires-clause-set t c = subst (AreIn c.args.found.now.numbers) (sym c.new.ensures.items) (AreIn-none c.args.found.now.numbers)

pub walk-returns-in-Ns-clause-walked : goal.walk-returns-in-Ns-clause-walked
walk-returns-in-Ns-clause-walked t c = λ G A fit j.
    ns-arm c.recorded.result c.args.found.now c.recorded.new.self (plain_derivation c.args.d.now) c.args.node G (reads c.args.p.now) A c.new.result.items c.new.ensures.items
    (Ns-derivation c.args.d.now c.in-Ns.is) j c.requires.sound c.recorded.ensures.recorded c.recorded.ensures.same c.recorded.ensures.numbers

pub walk-returns-in-Ns-clause-stays : goal.walk-returns-in-Ns-clause-stays
walk-returns-in-Ns-clause-stays t c =
    Stays-recorded c.recorded.result c.args.found.now c.args.found.now c.recorded.new.self c.new.result.items (Extends-itself c.args.found.now.numbers)
    (subst (AreIn c.args.found.now.numbers) (sym c.new.ensures.items) (AreIn-none c.args.found.now.numbers))
    c.recorded.ensures.same c.recorded.ensures.sound c.recorded.ensures.numbers

-- ---- subsumption

pub walk-returns-in_err-walk-in-Sub-clause-walked : goal.walk-returns-in_err-walk-in-Sub-clause-walked
walk-returns-in_err-walk-in-Sub-clause-walked t c = λ G A fit j.
    let p = err_from_is_err_and c.from_residual.result c.from_residual.ensures.1 in
    rw (p.1, p.2)
    (sub-stop c.args.found.now (plain_derivation c.args.d.now) (plain_derivation c.deref.result.now) (plain_type c.in-Sub.ty) c.args.node G (reads c.args.p.now) A
    c.in_err-walk-in-Sub.field-0.0 (Sub-read c.args.d.now c.deref.result.now c.in-Sub.ty c.in-Sub.inner c.in-Sub.is c.deref.ensures)
    (λ C k. c.in_err-walk-in-Sub.ensures.walked G C fit k) j)

pub walk-returns-in_err-set-in-Sub-clause-walked : goal.walk-returns-in_err-set-in-Sub-clause-walked
walk-returns-in_err-set-in-Sub-clause-walked t c = λ G A fit j.
    let p = err_from_is_err_and c.from_residual-in_err-set-in-Sub.result c.from_residual-in_err-set-in-Sub.ensures.1 in
    rw (p.1, p.2)
    (sub-type-stop c.args.found.now (plain_derivation c.args.d.now) (plain_derivation c.deref.result.now) (plain_type c.in-Sub.ty) c.args.node G (reads c.args.p.now) A
    c.in_err-set-in-Sub.field-0.0 (Sub-read c.args.d.now c.deref.result.now c.in-Sub.ty c.in-Sub.inner c.in-Sub.is c.deref.ensures) j c.in_err-set-in-Sub.ensures.made)

pub walk-recorded-requires-in-Sub-clause-sound : goal.walk-recorded-requires-in-Sub-clause-sound
walk-recorded-requires-in-Sub-clause-sound t c =
    IsFound-numbers c.walk.new.found c.shapes_of_type.new.numbers c.in_ok-walk-in-Sub.ensures.stays.sound c.in_ok-set-in-Sub.ensures.extends

pub walk-recorded-requires-in-Sub-clause-set : goal.walk-recorded-requires-in-Sub-clause-set
walk-recorded-requires-in-Sub-clause-set t c = c.in_ok-set-in-Sub.ensures.within

pub walk-returns-in_ok-set-in-Sub-clause-walked : goal.walk-returns-in_ok-set-in-Sub-clause-walked
walk-returns-in_ok-set-in-Sub-clause-walked t c = λ G A fit j.
    sub-arm c.recorded-in-Sub.result c.args.found.now c.walk.new.found c.recorded-in-Sub.new.self c.shapes_of_type.new.numbers
    (plain_derivation c.args.d.now) (plain_derivation c.deref.result.now) (plain_type c.in-Sub.ty) c.args.node G (reads c.args.p.now) A
    c.in_ok-walk-in-Sub.field-0.items c.in_ok-set-in-Sub.set.items
    (Sub-read c.args.d.now c.deref.result.now c.in-Sub.ty c.in-Sub.inner c.in-Sub.is c.deref.ensures)
    (λ C k. c.in_ok-walk-in-Sub.ensures.walked G C fit k) j c.in_ok-set-in-Sub.ensures.extends c.in_ok-walk-in-Sub.ensures.stays.sound
    c.in_ok-set-in-Sub.ensures.made c.recorded-in-Sub.ensures.recorded c.recorded-in-Sub.ensures.same c.recorded-in-Sub.ensures.numbers

pub walk-returns-in_ok-set-in-Sub-clause-stays : goal.walk-returns-in_ok-set-in-Sub-clause-stays
walk-returns-in_ok-set-in-Sub-clause-stays t c =
    Stays-recorded c.recorded-in-Sub.result c.args.found.now (record c.walk.new.found { numbers = c.shapes_of_type.new.numbers }) c.recorded-in-Sub.new.self c.in_ok-set-in-Sub.set.items
    (Extends-trans c.in_ok-walk-in-Sub.ensures.stays.extends c.in_ok-set-in-Sub.ensures.extends) c.in_ok-set-in-Sub.ensures.within
    c.recorded-in-Sub.ensures.same c.recorded-in-Sub.ensures.sound c.recorded-in-Sub.ensures.numbers

-- ---- meets

pub walk-walk_all-requires : goal.walk-walk_all-requires
walk-walk_all-requires t c =
    (omega (arith, meet-size c.args.d.now c.in-Meet.list c.in-Meet.is, c.decreases), (c.requires.sound, (c.requires.context, (c.requires.sizes, c.requires.few))))

pub walk-returns-in_err-set-in-Meet-clause-walked : goal.walk-returns-in_err-set-in-Meet-clause-walked
walk-returns-in_err-set-in-Meet-clause-walked t c = λ G A fit j.
    let p = err_from_is_err_and c.from_residual-in_err-set-in-Meet.result c.from_residual-in_err-set-in-Meet.ensures.1 in
    rw (p.1, p.2)
    (meet-stop c.args.found.now (plain_derivation c.args.d.now) (plain_derivations c.in-Meet.list) c.args.node G (reads c.args.p.now) A
    c.in_err-set-in-Meet.field-0.0 (Meet-derivation c.args.d.now c.in-Meet.list c.in-Meet.is) (λ As n k. c.in_err-set-in-Meet.ensures.walked G As n fit k) j)

pub walk-recorded-requires-in-Meet-clause-sound : goal.walk-recorded-requires-in-Meet-clause-sound
walk-recorded-requires-in-Meet-clause-sound t c = c.in_ok-set-in-Meet.ensures.stays.sound

pub walk-recorded-requires-in-Meet-clause-set : goal.walk-recorded-requires-in-Meet-clause-set
walk-recorded-requires-in-Meet-clause-set t c = c.in_ok-set-in-Meet.ensures.stays.within

pub walk-returns-in_ok-set-in-Meet-clause-walked : goal.walk-returns-in_ok-set-in-Meet-clause-walked
walk-returns-in_ok-set-in-Meet-clause-walked t c = λ G A fit j.
    meet-arm c.recorded-in-Meet.result c.args.found.now c.walk_all.new.found c.recorded-in-Meet.new.self
    (plain_derivation c.args.d.now) (plain_derivations c.in-Meet.list) c.args.node G (reads c.args.p.now) A c.in_ok-set-in-Meet.set.items
    (Meet-derivation c.args.d.now c.in-Meet.list c.in-Meet.is) (λ As n k. c.in_ok-set-in-Meet.ensures.walked G As n fit k) j
    c.in_ok-set-in-Meet.ensures.stays.sound c.recorded-in-Meet.ensures.recorded c.recorded-in-Meet.ensures.same c.recorded-in-Meet.ensures.numbers

pub walk-returns-in_ok-set-in-Meet-clause-stays : goal.walk-returns-in_ok-set-in-Meet-clause-stays
walk-returns-in_ok-set-in-Meet-clause-stays t c =
    let one = c.in_ok-set-in-Meet.ensures.stays in
    Stays-recorded c.recorded-in-Meet.result c.args.found.now c.walk_all.new.found c.recorded-in-Meet.new.self c.in_ok-set-in-Meet.set.items one.extends one.within
    c.recorded-in-Meet.ensures.same c.recorded-in-Meet.ensures.sound c.recorded-in-Meet.ensures.numbers

-- ---- alternatives

pub walk-returns-in_default-clause-walked : goal.walk-returns-in_default-clause-walked
walk-returns-in_default-clause-walked t c = λ G A fit j.
    absurd (alt-none (plain_derivation c.args.d.now) (plain_derivation c.in-Alt.inner.value) c.in-Alt.index G (reads c.args.p.now) A
    (Alt-read c.args.d.now c.in-Alt.inner.value c.in-Alt.index c.in-Alt.inner c.in-Alt.is refl)
    (none-of _ c.alternative.result _ c.in_default.not-Some c.alternative.ensures) j)

pub walk-returns-in_default-clause-stays : goal.walk-returns-in_default-clause-stays
walk-returns-in_default-clause-stays t c = record {
  sound = c.requires.sound;
  extends = Extends-itself c.args.found.now.numbers;
  within = subst (AreIn c.args.found.now.numbers) (sym c.new-in_default.ensures.items) (AreIn-none c.args.found.now.numbers);
}

pub walk-walk-requires-in-Alt : goal.walk-walk-requires-in-Alt
walk-walk-requires-in-Alt t c = (
  omega (arith, alt-size c.args.d.now c.deref-in-Alt.result.now c.in-Alt.index c.in-Alt.inner c.in-Alt.is c.deref-in-Alt.ensures, c.decreases),
  (
    c.requires.sound,
    (
      subst (AreBound c.args.found.now.numbers) (sym (bounds-under _ _ _ refl)) (AreBound-cons (by_type (plain_type c.in-Some.ty.now)) tt c.requires.context),
      (sizes-body c.args.sizes.now c.args.node c.in-Alt.index (reads c.args.p.now) (plain_type c.in-Some.ty.now, reads c.in-Some.body.now) (sym c.in-Some.ensures) c.requires.sizes, c.requires.few),
    ),
  ),
)

pub walk-returns-in_err-behind-in-Alt-clause-walked : goal.walk-returns-in_err-behind-in-Alt-clause-walked
walk-returns-in_err-behind-in-Alt-clause-walked t c = λ G A fit j.
    let p = err_from_is_err_and c.from_residual-in_err-behind-in-Alt.result c.from_residual-in_err-behind-in-Alt.ensures.1 in
    let T = plain_type c.in-Some.ty.now in
    let u = c.args.found.now.numbers in
    let inside : AreFit u (by_type T ∷ bounds c.args.context.now) (T ∷ G) = AreFit-cons (by_type T) T refl fit in
    rw (p.1, p.2)
    (alt-stop c.args.found.now (plain_derivation c.args.d.now) (plain_derivation c.deref-in-Alt.result.now) c.in-Alt.index c.args.node G (reads c.args.p.now) A
    (T, reads c.in-Some.body.now) c.in_err-behind-in-Alt.field-0.0 (Alt-read c.args.d.now c.deref-in-Alt.result.now c.in-Alt.index c.in-Alt.inner c.in-Alt.is c.deref-in-Alt.ensures)
    (sym c.in-Some.ensures) (λ C k. c.in_err-behind-in-Alt.ensures.walked (T ∷ G) C (subst (λ bs. AreFit u bs (T ∷ G)) (sym (bounds-under _ _ _ refl)) inside) k) j)

pub walk-fronted-requires : goal.walk-fronted-requires
walk-fronted-requires t c = subst (AreIn c.walk-in-Alt.new.found.numbers) (sym c.deref-in-Alt-2.ensures.value) c.in_ok-behind-in-Alt.ensures.stays.within

pub walk-recorded-requires-in-Alt-clause-sound : goal.walk-recorded-requires-in-Alt-clause-sound
walk-recorded-requires-in-Alt-clause-sound t c =
    IsFound-numbers c.walk-in-Alt.new.found c.fronted.new.numbers c.in_ok-behind-in-Alt.ensures.stays.sound c.in_ok-set-in-Alt.ensures.extends

pub walk-recorded-requires-in-Alt-clause-set : goal.walk-recorded-requires-in-Alt-clause-set
walk-recorded-requires-in-Alt-clause-set t c = c.in_ok-set-in-Alt.ensures.within

pub walk-returns-in_ok-set-in-Alt-clause-walked : goal.walk-returns-in_ok-set-in-Alt-clause-walked
walk-returns-in_ok-set-in-Alt-clause-walked t c = λ G A fit j.
    let T = plain_type c.in-Some.ty.now in
    let u = c.args.found.now.numbers in
    let inside : AreFit u (by_type T ∷ bounds c.args.context.now) (T ∷ G) = AreFit-cons (by_type T) T refl fit in
    alt-arm c.recorded-in-Alt.result c.args.found.now c.walk-in-Alt.new.found c.recorded-in-Alt.new.self c.fronted.new.numbers
    (plain_derivation c.args.d.now) (plain_derivation c.deref-in-Alt.result.now) c.in-Alt.index c.args.node G (reads c.args.p.now) A
    (T, reads c.in-Some.body.now) c.in_ok-behind-in-Alt.behind.items c.in_ok-set-in-Alt.set.items
    (Alt-read c.args.d.now c.deref-in-Alt.result.now c.in-Alt.index c.in-Alt.inner c.in-Alt.is c.deref-in-Alt.ensures) (sym c.in-Some.ensures)
    (λ C k. c.in_ok-behind-in-Alt.ensures.walked (T ∷ G) C (subst (λ bs. AreFit u bs (T ∷ G)) (sym (bounds-under _ _ _ refl)) inside) k) j
    c.in_ok-set-in-Alt.ensures.extends c.in_ok-behind-in-Alt.ensures.stays.sound
    (c.in_ok-set-in-Alt.ensures.shown ∙ ap (λ ks. map (in_front elem.Call) (all_shown c.walk-in-Alt.new.found.numbers ks)) c.deref-in-Alt-2.ensures.value)
    c.recorded-in-Alt.ensures.recorded c.recorded-in-Alt.ensures.same c.recorded-in-Alt.ensures.numbers

pub walk-returns-in_ok-set-in-Alt-clause-stays : goal.walk-returns-in_ok-set-in-Alt-clause-stays
walk-returns-in_ok-set-in-Alt-clause-stays t c =
    Stays-recorded c.recorded-in-Alt.result c.args.found.now (record c.walk-in-Alt.new.found { numbers = c.fronted.new.numbers }) c.recorded-in-Alt.new.self c.in_ok-set-in-Alt.set.items
    (Extends-trans c.in_ok-behind-in-Alt.ensures.stays.extends c.in_ok-set-in-Alt.ensures.extends) c.in_ok-set-in-Alt.ensures.within
    c.recorded-in-Alt.ensures.same c.recorded-in-Alt.ensures.sound c.recorded-in-Alt.ensures.numbers

-- ---- the left operand

pub walk-returns-in_default-as_merge-clause-walked : goal.walk-returns-in_default-as_merge-clause-walked
walk-returns-in_default-as_merge-clause-walked t c = λ G A fit j.
    absurd (left-none (plain_derivation c.args.d.now) (plain_derivation c.in-Left.inner.value) G (reads c.args.p.now) A
    (Left-read c.args.d.now c.in-Left.inner.value c.in-Left.inner c.in-Left.is refl)
    (none-of _ c.as_merge.result _ c.in_default-as_merge.not-Some c.as_merge.ensures) j)

pub walk-returns-in_default-as_merge-clause-stays : goal.walk-returns-in_default-as_merge-clause-stays
walk-returns-in_default-as_merge-clause-stays t c = record {
  sound = c.requires.sound;
  extends = Extends-itself c.args.found.now.numbers;
  within = subst (AreIn c.args.found.now.numbers) (sym c.new-in_default-as_merge.ensures.items) (AreIn-none c.args.found.now.numbers);
}

pub walk-walk-requires-in-Left : goal.walk-walk-requires-in-Left
walk-walk-requires-in-Left t c = (
  omega (arith, left-size c.args.d.now c.deref-in-Left.result.now c.in-Left.inner c.in-Left.is c.deref-in-Left.ensures, c.decreases),
  (c.requires.sound, (c.requires.context, (sizes-first (sizes-left c.args.sizes.now c.args.node (reads c.args.p.now) (reads c.in-Some-as_merge.left.now, reads c.in-Some-as_merge.field-0-1.now) (sym c.in-Some-as_merge.ensures) c.requires.sizes), c.requires.few))),
)

pub walk-returns-in_err-set-in-Left-clause-walked : goal.walk-returns-in_err-set-in-Left-clause-walked
walk-returns-in_err-set-in-Left-clause-walked t c = λ G A fit j.
    let p = err_from_is_err_and c.from_residual-in_err-set-in-Left.result c.from_residual-in_err-set-in-Left.ensures.1 in
    rw (p.1, p.2)
    (left-stop c.args.found.now (plain_derivation c.args.d.now) (plain_derivation c.deref-in-Left.result.now) c.args.node G (reads c.args.p.now) A
    (reads c.in-Some-as_merge.left.now, reads c.in-Some-as_merge.field-0-1.now) c.in_err-set-in-Left.field-0.0 (Left-read c.args.d.now c.deref-in-Left.result.now c.in-Left.inner c.in-Left.is c.deref-in-Left.ensures) (sym c.in-Some-as_merge.ensures)
    (λ C k. c.in_err-set-in-Left.ensures.walked G C fit k) j)

pub walk-recorded-requires-in-Left-clause-sound : goal.walk-recorded-requires-in-Left-clause-sound
walk-recorded-requires-in-Left-clause-sound t c = c.in_ok-set-in-Left.ensures.stays.sound

pub walk-recorded-requires-in-Left-clause-set : goal.walk-recorded-requires-in-Left-clause-set
walk-recorded-requires-in-Left-clause-set t c = c.in_ok-set-in-Left.ensures.stays.within

pub walk-returns-in_ok-set-in-Left-clause-walked : goal.walk-returns-in_ok-set-in-Left-clause-walked
walk-returns-in_ok-set-in-Left-clause-walked t c = λ G A fit j.
    left-arm c.recorded-in-Left.result c.args.found.now c.walk-in-Left.new.found c.recorded-in-Left.new.self
    (plain_derivation c.args.d.now) (plain_derivation c.deref-in-Left.result.now) c.args.node G (reads c.args.p.now) A
    (reads c.in-Some-as_merge.left.now, reads c.in-Some-as_merge.field-0-1.now) c.in_ok-set-in-Left.set.items (Left-read c.args.d.now c.deref-in-Left.result.now c.in-Left.inner c.in-Left.is c.deref-in-Left.ensures) (sym c.in-Some-as_merge.ensures)
    (λ C k. c.in_ok-set-in-Left.ensures.walked G C fit k) j c.in_ok-set-in-Left.ensures.stays.sound
    c.recorded-in-Left.ensures.recorded c.recorded-in-Left.ensures.same c.recorded-in-Left.ensures.numbers

pub walk-returns-in_ok-set-in-Left-clause-stays : goal.walk-returns-in_ok-set-in-Left-clause-stays
walk-returns-in_ok-set-in-Left-clause-stays t c =
    let one = c.in_ok-set-in-Left.ensures.stays in
    Stays-recorded c.recorded-in-Left.result c.args.found.now c.walk-in-Left.new.found c.recorded-in-Left.new.self c.in_ok-set-in-Left.set.items one.extends one.within
    c.recorded-in-Left.ensures.same c.recorded-in-Left.ensures.sound c.recorded-in-Left.ensures.numbers

-- ---- the right operand

pub walk-returns-in_default-as_merge-2-clause-walked : goal.walk-returns-in_default-as_merge-2-clause-walked
walk-returns-in_default-as_merge-2-clause-walked t c = λ G A fit j.
    absurd (right-none (plain_derivation c.args.d.now) (plain_derivation c.in-Right.inner.value) G (reads c.args.p.now) A
    (Right-read c.args.d.now c.in-Right.inner.value c.in-Right.inner c.in-Right.is refl)
    (none-of _ c.as_merge-in-Right.result _ c.in_default-as_merge-2.not-Some c.as_merge-in-Right.ensures) j)

pub walk-returns-in_default-as_merge-2-clause-stays : goal.walk-returns-in_default-as_merge-2-clause-stays
walk-returns-in_default-as_merge-2-clause-stays t c = record {
  sound = c.requires.sound;
  extends = Extends-itself c.args.found.now.numbers;
  within = subst (AreIn c.args.found.now.numbers) (sym c.new-in_default-as_merge-2.ensures.items) (AreIn-none c.args.found.now.numbers);
}

pub walk-walk-requires-in-Right : goal.walk-walk-requires-in-Right
walk-walk-requires-in-Right t c = (
  omega (arith, right-size c.args.d.now c.deref-in-Right.result.now c.in-Right.inner c.in-Right.is c.deref-in-Right.ensures, c.decreases),
  (c.requires.sound, (c.requires.context, (sizes-right c.args.sizes.now c.args.node _ (reads c.args.p.now) (reads c.in-Some-as_merge-2.field-0-0.now, reads c.in-Some-as_merge-2.right.now) (sym c.in-Some-as_merge-2.ensures) c.requires.sizes (ap (λ n. c.args.node + 1 + n) (sizes-at c.args.sizes.now (c.args.node + 1) (reads c.in-Some-as_merge-2.field-0-0.now) _ (sizes-left c.args.sizes.now c.args.node (reads c.args.p.now) (reads c.in-Some-as_merge-2.field-0-0.now, reads c.in-Some-as_merge-2.right.now) (sym c.in-Some-as_merge-2.ensures) c.requires.sizes))), c.requires.few))),
)

pub walk-returns-in_err-set-in-Right-clause-walked : goal.walk-returns-in_err-set-in-Right-clause-walked
walk-returns-in_err-set-in-Right-clause-walked t c = λ G A fit j.
    let p = err_from_is_err_and c.from_residual-in_err-set-in-Right.result c.from_residual-in_err-set-in-Right.ensures.1 in
    rw (p.1, p.2)
    (right-stop c.args.found.now (plain_derivation c.args.d.now) (plain_derivation c.deref-in-Right.result.now) c.args.node _ G (reads c.args.p.now) A
    (reads c.in-Some-as_merge-2.field-0-0.now, reads c.in-Some-as_merge-2.right.now) c.in_err-set-in-Right.field-0.0 (Right-read c.args.d.now c.deref-in-Right.result.now c.in-Right.inner c.in-Right.is c.deref-in-Right.ensures) (sym c.in-Some-as_merge-2.ensures) (ap (λ n. c.args.node + 1 + n) (sizes-at c.args.sizes.now (c.args.node + 1) (reads c.in-Some-as_merge-2.field-0-0.now) _ (sizes-left c.args.sizes.now c.args.node (reads c.args.p.now) (reads c.in-Some-as_merge-2.field-0-0.now, reads c.in-Some-as_merge-2.right.now) (sym c.in-Some-as_merge-2.ensures) c.requires.sizes)))
    (λ C k. c.in_err-set-in-Right.ensures.walked G C fit k) j)

pub walk-recorded-requires-in-Right-clause-sound : goal.walk-recorded-requires-in-Right-clause-sound
walk-recorded-requires-in-Right-clause-sound t c = c.in_ok-set-in-Right.ensures.stays.sound

pub walk-recorded-requires-in-Right-clause-set : goal.walk-recorded-requires-in-Right-clause-set
walk-recorded-requires-in-Right-clause-set t c = c.in_ok-set-in-Right.ensures.stays.within

pub walk-returns-in_ok-set-in-Right-clause-walked : goal.walk-returns-in_ok-set-in-Right-clause-walked
walk-returns-in_ok-set-in-Right-clause-walked t c = λ G A fit j.
    right-arm c.recorded-in-Right.result c.args.found.now c.walk-in-Right.new.found c.recorded-in-Right.new.self
    (plain_derivation c.args.d.now) (plain_derivation c.deref-in-Right.result.now) c.args.node _ G (reads c.args.p.now) A
    (reads c.in-Some-as_merge-2.field-0-0.now, reads c.in-Some-as_merge-2.right.now) c.in_ok-set-in-Right.set.items (Right-read c.args.d.now c.deref-in-Right.result.now c.in-Right.inner c.in-Right.is c.deref-in-Right.ensures) (sym c.in-Some-as_merge-2.ensures) (ap (λ n. c.args.node + 1 + n) (sizes-at c.args.sizes.now (c.args.node + 1) (reads c.in-Some-as_merge-2.field-0-0.now) _ (sizes-left c.args.sizes.now c.args.node (reads c.args.p.now) (reads c.in-Some-as_merge-2.field-0-0.now, reads c.in-Some-as_merge-2.right.now) (sym c.in-Some-as_merge-2.ensures) c.requires.sizes)))
    (λ C k. c.in_ok-set-in-Right.ensures.walked G C fit k) j c.in_ok-set-in-Right.ensures.stays.sound
    c.recorded-in-Right.ensures.recorded c.recorded-in-Right.ensures.same c.recorded-in-Right.ensures.numbers

pub walk-returns-in_ok-set-in-Right-clause-stays : goal.walk-returns-in_ok-set-in-Right-clause-stays
walk-returns-in_ok-set-in-Right-clause-stays t c =
    let one = c.in_ok-set-in-Right.ensures.stays in
    Stays-recorded c.recorded-in-Right.result c.args.found.now c.walk-in-Right.new.found c.recorded-in-Right.new.self c.in_ok-set-in-Right.set.items one.extends one.within
    c.recorded-in-Right.ensures.same c.recorded-in-Right.ensures.sound c.recorded-in-Right.ensures.numbers

pub walk-bounds-sizes-node : goal.walk-bounds-sizes-node
walk-bounds-sizes-node t c =
    sizes-within (sizes-left c.args.sizes.now c.args.node (reads c.args.p.now) (reads c.in-Some-as_merge-2.field-0-0.now, reads c.in-Some-as_merge-2.right.now) (sym c.in-Some-as_merge-2.ensures) c.requires.sizes)

pub walk-overflow_add-behind-in-Right-2 : goal.walk-overflow_add-behind-in-Right-2
walk-overflow_add-behind-in-Right-2 t c =
    let s = sizes-left c.args.sizes.now c.args.node (reads c.args.p.now) (reads c.in-Some-as_merge-2.field-0-0.now, reads c.in-Some-as_merge-2.right.now) (sym c.in-Some-as_merge-2.ensures) c.requires.sizes in
    omega (arith, sizes-at c.args.sizes.now (c.args.node + 1) (reads c.in-Some-as_merge-2.field-0-0.now) _ s, s.fits, c.requires.few)

-- ---- rules

pub walk-returns-then-len-clause-walked : goal.walk-returns-then-len-clause-walked
walk-returns-then-len-clause-walked t c = λ G A fit j.
    let unfit : count (plain_derivations c.in-Rule.list) ≢ length c.in_ok-premises-in-Rule.premises.items =
    λ e. c.if-len.true (c.len.ensures ∙ (e ∙ (sym c.in_ok-premises-in-Rule.premises.ok.0 ∙ sym c.len-in-Rule.ensures))) in
    absurd (rule-misfit (plain_derivation c.args.d.now) (plain_derivations c.in-Rule.list) G (reads c.args.p.now) A c.in_ok-premises-in-Rule.premises.items
    (Rule-derivation c.args.d.now c.in-Rule.list c.in-Rule.is) c.in_ok-premises-in-Rule.ensures unfit j)

pub walk-returns-then-len-clause-stays : goal.walk-returns-then-len-clause-stays
walk-returns-then-len-clause-stays t c = record {
  sound = c.requires.sound;
  extends = Extends-itself c.args.found.now.numbers;
  within = subst (AreIn c.args.found.now.numbers) (sym c.new-then-len.ensures.items) (AreIn-none c.args.found.now.numbers);
}

pub walk-walk_each-requires : goal.walk-walk_each-requires
walk-walk_each-requires t c =
    let made = made-read c.in_ok-premises-in-Rule.premises.items c.deref-in-Rule.result.now (reads c.args.p.now) c.deref-in-Rule.ensures.value c.in_ok-premises-in-Rule.ensures in (
      omega (arith, rule-size c.args.d.now c.in-Rule.list c.in-Rule.is, c.decreases),
      (
        c.requires.sound,
        (
          c.requires.context,
          (
            subst (AreSizes c.args.sizes.now (c.args.node + 1)) (sym (parts_in-made c.deref-in-Rule.result.now (reads c.args.p.now) made)) (sizes-parts c.requires.sizes),
            (c.requires.few, c.deref-in-Rule.ensures.len ∙ (sym c.len-in-Rule.ensures ∙ (sym c.if-len.false ∙ c.len.ensures))),
          ),
        ),
      ),
    )

pub walk-returns-in_err-done-in-Rule-clause-walked : goal.walk-returns-in_err-done-in-Rule-clause-walked
walk-returns-in_err-done-in-Rule-clause-walked t c = λ G A fit j.
    let p = err_from_is_err_and c.from_residual-in_err-done-in-Rule.result c.from_residual-in_err-done-in-Rule.ensures.1 in
    let made = made-read c.in_ok-premises-in-Rule.premises.items c.deref-in-Rule.result.now (reads c.args.p.now) c.deref-in-Rule.ensures.value c.in_ok-premises-in-Rule.ensures in
    rw (p.1, p.2)
    (rule-each-stop c.args.found.now (plain_derivation c.args.d.now) (plain_derivations c.in-Rule.list) c.args.node G (reads c.args.p.now) A c.deref-in-Rule.result.now
    c.in_err-done-in-Rule.field-0.0 (Rule-derivation c.args.d.now c.in-Rule.list c.in-Rule.is) made (λ As n k. c.in_err-done-in-Rule.ensures.walked G As n fit k) j)

pub walk-concluded-requires-clause-context : goal.walk-concluded-requires-clause-context
walk-concluded-requires-clause-context t c = AreBound-kept c.in_ok-done-in-Rule.ensures.stays.extends c.requires.context

pub walk-concluded-requires-clause-done : goal.walk-concluded-requires-clause-done
walk-concluded-requires-clause-done t c =
    subst (λ vs. AreAllIn c.walk_each.new.found.numbers (map numbers_of vs)) (sym c.deref-in-Rule-2.ensures.value) c.in_ok-done-in-Rule.ensures.stays.within

pub walk-returns-in_err-set-in-Rule-clause-walked : goal.walk-returns-in_err-set-in-Rule-clause-walked
walk-returns-in_err-set-in-Rule-clause-walked t c = λ G A fit j.
    let p = err_from_is_err_and c.from_residual-in_err-set-in-Rule.result c.from_residual-in_err-set-in-Rule.ensures.1 in
    let made = made-read c.in_ok-premises-in-Rule.premises.items c.deref-in-Rule.result.now (reads c.args.p.now) c.deref-in-Rule.ensures.value c.in_ok-premises-in-Rule.ensures in
    let u = c.walk_each.new.found.numbers in
    rw (p.1, p.2)
    (rule-each-own c.args.found.now (plain_derivation c.args.d.now) (plain_derivations c.in-Rule.list) c.args.node G (reads c.args.p.now) A c.deref-in-Rule.result.now
    c.in_err-set-in-Rule.field-0.0 (Rule-derivation c.args.d.now c.in-Rule.list c.in-Rule.is) made
    (λ As n k e. c.in_err-set-in-Rule.ensures.made G As A (AreFit-kept c.in_ok-done-in-Rule.ensures.stays.extends c.requires.context fit)
    (subst (λ vs. AreShapesOfEach u (map numbers_of vs) As) (sym c.deref-in-Rule-2.ensures.value) (c.in_ok-done-in-Rule.ensures.walked G As n fit k).0) e) j)

pub walk-recorded-requires-in-Rule-clause-sound : goal.walk-recorded-requires-in-Rule-clause-sound
walk-recorded-requires-in-Rule-clause-sound t c =
    IsFound-numbers c.walk_each.new.found c.concluded.new.numbers c.in_ok-done-in-Rule.ensures.stays.sound c.in_ok-set-in-Rule.ensures.extends

pub walk-recorded-requires-in-Rule-clause-set : goal.walk-recorded-requires-in-Rule-clause-set
walk-recorded-requires-in-Rule-clause-set t c = c.in_ok-set-in-Rule.ensures.within

pub walk-returns-in_ok-set-in-Rule-clause-walked : goal.walk-returns-in_ok-set-in-Rule-clause-walked
walk-returns-in_ok-set-in-Rule-clause-walked t c = λ G A fit j.
    let made = made-read c.in_ok-premises-in-Rule.premises.items c.deref-in-Rule.result.now (reads c.args.p.now) c.deref-in-Rule.ensures.value c.in_ok-premises-in-Rule.ensures in
    let u = c.walk_each.new.found.numbers in
    rule-each-arm c.recorded-in-Rule.result c.args.found.now c.walk_each.new.found c.recorded-in-Rule.new.self c.concluded.new.numbers
    (plain_derivation c.args.d.now) (plain_derivations c.in-Rule.list) c.args.node G (reads c.args.p.now) A c.deref-in-Rule.result.now c.in_ok-set-in-Rule.set.items
    (Rule-derivation c.args.d.now c.in-Rule.list c.in-Rule.is) made (λ As n k. (c.in_ok-done-in-Rule.ensures.walked G As n fit k).1) j
    c.in_ok-set-in-Rule.ensures.extends c.in_ok-done-in-Rule.ensures.stays.sound
    (λ As n k e. c.in_ok-set-in-Rule.ensures.made G As A (AreFit-kept c.in_ok-done-in-Rule.ensures.stays.extends c.requires.context fit)
    (subst (λ vs. AreShapesOfEach u (map numbers_of vs) As) (sym c.deref-in-Rule-2.ensures.value) (c.in_ok-done-in-Rule.ensures.walked G As n fit k).0) e)
    c.recorded-in-Rule.ensures.recorded c.recorded-in-Rule.ensures.same c.recorded-in-Rule.ensures.numbers

pub walk-returns-in_ok-set-in-Rule-clause-stays : goal.walk-returns-in_ok-set-in-Rule-clause-stays
walk-returns-in_ok-set-in-Rule-clause-stays t c =
    Stays-recorded c.recorded-in-Rule.result c.args.found.now (record c.walk_each.new.found { numbers = c.concluded.new.numbers }) c.recorded-in-Rule.new.self c.in_ok-set-in-Rule.set.items
    (Extends-trans c.in_ok-done-in-Rule.ensures.stays.extends c.in_ok-set-in-Rule.ensures.extends) c.in_ok-set-in-Rule.ensures.within
    c.recorded-in-Rule.ensures.same c.recorded-in-Rule.ensures.sound c.recorded-in-Rule.ensures.numbers

-- ---- the derivations of one phrase

pub walk_all-loop-i-init : goal.walk_all-loop-i-init
walk_all-loop-i-init t c = record {
  sound = c.requires.sound;
  extends = Extends-itself c.args.found.now.numbers;
  within = subst (AreIn c.args.found.now.numbers) (sym c.new-met.ensures.empty) (AreIn-none c.args.found.now.numbers);
  walked = λ G As n fit e. subst (λ ds. AreWalkedSo c.args.found.now c.args.found.now ds c.args.node G (reads c.args.p.now) As
      (OneHasPair (plain_derivations c.args.list.now) c.args.node G (reads c.args.p.now)) c.new-met.result.keys) c.as_slice-items.ensures.reading
      (all-walked-init c.args.found.now (plain_derivations c.args.list.now) c.args.node G (reads c.args.p.now) As n c.new-met.result.keys c.new-met.ensures.empty e);
}

pub walk_all-walk-requires : goal.walk_all-walk-requires
walk_all-walk-requires t c =
    let inv = c.loop-i.invariant in
    let deep = member_size c.args.list.now c.loop-i.i c.index-items-i.result
    (rw c.as_slice-items.ensures.members at c.loop-i-test.true) (rw c.as_slice-items.ensures.members at c.index-items-i.is) in
    (omega (arith, deep, c.decreases), (inv.sound, (AreBound-kept inv.extends c.requires.context, (c.requires.sizes, c.requires.few))))

pub walk_all-returns-in_err-set-clause-walked : goal.walk_all-returns-in_err-set-clause-walked
walk_all-returns-in_err-set-clause-walked t c = λ G As n fit e.
    let p = err_from_is_err_and c.from_residual.result c.from_residual.ensures.1 in
    let inv = c.loop-i.invariant in
    let items = c.as_slice-items.result.now in
    let whole = OneHasPair (plain_derivations c.args.list.now) c.args.node G (reads c.args.p.now) in
    let ds = derivations_from (map plain_derivation (drop (c.loop-i.i + 1) items)) in
    let w = subst (λ es. AreWalkedSo c.args.found.now c.loop-i.found (derivations_from es) c.args.node G (reads c.args.p.now) As whole c.loop-i.met.keys)
    (drop_item plain_derivation items c.loop-i.i c.index-items-i.result c.loop-i-test.true c.index-items-i.is) (inv.walked G As n fit e) in
    rw (p.1, p.2)
    (all-walked-stop c.args.found.now c.loop-i.found (plain_derivation c.index-items-i.result) ds c.args.node G (reads c.args.p.now) As whole c.loop-i.met.keys c.in_err-set.field-0.0 w
    (λ A k. c.in_err-set.ensures.walked G A (AreFit-kept inv.extends c.requires.context fit) k))

pub walk_all-loop-i-preserved : goal.walk_all-loop-i-preserved
walk_all-loop-i-preserved t c =
    let inv = c.loop-i.invariant in
    let one = c.in_ok-set.ensures.stays in
    let add = c.in_ok-add_all.ensures in
    let items = c.as_slice-items.result.now in
    let ks = c.deref.result.now in
    let set_in = subst (AreIn c.walk.new.found.numbers) (sym c.deref.ensures.value) one.within in
    record {
      sound = one.sound;
      extends = Extends-trans inv.extends one.extends;
      within = AreIn-added c.walk.new.found.numbers c.loop-i.met.keys ks c.add_all.new.met.keys (AreIn-kept one.extends inv.within) set_in add.known;
      walked = λ G As n fit e.
          let whole = OneHasPair (plain_derivations c.args.list.now) c.args.node G (reads c.args.p.now) in
          let ds = derivations_from (map plain_derivation (drop (c.loop-i.i + 1) items)) in
          let w = subst (λ es. AreWalkedSo c.args.found.now c.loop-i.found (derivations_from es) c.args.node G (reads c.args.p.now) As whole c.loop-i.met.keys)
          (drop_item plain_derivation items c.loop-i.i c.index-items-i.result c.loop-i-test.true c.index-items-i.is) (inv.walked G As n fit e) in
          all-walked-next c.args.found.now c.loop-i.found c.walk.new.found (plain_derivation c.index-items-i.result) ds c.args.node G (reads c.args.p.now) As whole
          c.loop-i.met.keys ks c.add_all.new.met.keys w
          (λ A k. subst (λ zs. AreJust (all_shown c.walk.new.found.numbers zs) A × Adds c.loop-i.found c.walk.new.found (HasPair (plain_derivation c.index-items-i.result) c.args.node G (reads c.args.p.now)) NoPair)
          (sym c.deref.ensures.value) (c.in_ok-set.ensures.walked G A (AreFit-kept inv.extends c.requires.context fit) k))
          one.extends inv.within add.kept add.has add.known;
    }

pub walk_all-returns-clause-walked : goal.walk_all-returns-clause-walked
walk_all-returns-clause-walked t c = λ G As n fit e.
    let items = c.as_slice-items.result.now in
    let whole = OneHasPair (plain_derivations c.args.list.now) c.args.node G (reads c.args.p.now) in
    let w = subst (λ es. AreWalkedSo c.args.found.now c.loop-i.found (derivations_from (map plain_derivation es)) c.args.node G (reads c.args.p.now) As whole c.loop-i.met.keys)
    (drop_all c.loop-i.i items c.loop-i-test.false) (c.loop-i.invariant.walked G As n fit e) in
    let end = all-walked-end c.args.found.now c.loop-i.found c.args.node G (reads c.args.p.now) As whole c.loop-i.met.keys w in
    (subst (λ ks. AreJust (all_shown c.loop-i.found.numbers ks) (meet (types_from As))) (sym c.in_ok-all.ensures) end.0, end.1)

pub walk_all-returns-clause-stays : goal.walk_all-returns-clause-stays
walk_all-returns-clause-stays t c = record {
  sound = c.loop-i.invariant.sound;
  extends = c.loop-i.invariant.extends;
  within = subst (AreIn c.loop-i.found.numbers) (sym c.in_ok-all.ensures) c.loop-i.invariant.within;
}

-- ---- the premises of a rule

pub walk_each-loop-i-init : goal.walk_each-loop-i-init
walk_each-loop-i-init t c =
    let none = ap (map numbers_of) c.new-done.ensures.items in
    record {
      sound = c.requires.sound;
      extends = Extends-itself c.args.found.now.numbers;
      within = subst (AreAllIn c.args.found.now.numbers) (sym none) (AreAllIn-none c.args.found.now.numbers);
      so_far = ap length c.new-done.ensures.items;
      sizes = c.requires.sizes;
      walked = λ G As n fit e. subst (λ ds. ArePremisesWalkedSo c.args.found.now c.args.found.now ds c.args.first G (map premise_shown c.args.premises.now) As
          (PremiseHasPair (plain_derivations c.args.list.now) c.args.first G (map premise_shown c.args.premises.now) []) (map numbers_of c.new-done.result.items)) c.as_slice-items.ensures.reading
          (premises-walked-init c.args.found.now (plain_derivations c.args.list.now) c.args.first G (map premise_shown c.args.premises.now) As n (map numbers_of c.new-done.result.items) none e);
    }

pub walk_each-bounds-premises-i : goal.walk_each-bounds-premises-i
walk_each-bounds-premises-i t c = omega (arith, c.requires.all, count-in c.args.list.now, ap length c.as_slice-items.ensures.members, c.loop-i-test.true)

pub walk_each-walk-requires : goal.walk_each-walk-requires
walk_each-walk-requires t c =
    let inv = c.loop-i.invariant in
    let P = c.index-premises-i.result in
    let here : c.loop-i.i < length c.args.premises.now = omega (arith, c.requires.all, count-in c.args.list.now, ap length c.as_slice-items.ensures.members, c.loop-i-test.true) in
    let deep = member_size c.args.list.now c.loop-i.i c.index-items-i.result
    (rw c.as_slice-items.ensures.members at c.loop-i-test.true) (rw c.as_slice-items.ensures.members at c.index-items-i.is) in
    let inside = c.under-inside.ensures ∙ ap (λ vs. bounds_under P.binds (map numbers_of vs) (bounds c.args.context.now)) c.deref.ensures.value in (
      omega (arith, deep, c.decreases),
      (
        inv.sound,
        (
          subst (AreBound c.loop-i.found.numbers) (sym inside)
              (AreBound-under c.loop-i.found.numbers P.binds (map numbers_of c.loop-i.done.items) (bounds c.args.context.now) inv.within (AreBound-kept inv.extends c.requires.context)),
          (sizes-first (subst (AreSizes c.args.sizes.now c.loop-i.node) (parts_in-next c.args.premises.now c.loop-i.i P here c.index-premises-i.is) inv.sizes), c.requires.few),
        ),
      ),
    )

pub walk_each-bounds-sizes-node : goal.walk_each-bounds-sizes-node
walk_each-bounds-sizes-node t c =
    let here : c.loop-i.i < length c.args.premises.now = omega (arith, c.requires.all, count-in c.args.list.now, ap length c.as_slice-items.ensures.members, c.loop-i-test.true) in
    sizes-within (subst (AreSizes c.args.sizes.now c.loop-i.node) (parts_in-next c.args.premises.now c.loop-i.i c.index-premises-i.result here c.index-premises-i.is) c.loop-i.invariant.sizes)

pub walk_each-overflow_add-node : goal.walk_each-overflow_add-node
walk_each-overflow_add-node t c =
    let here : c.loop-i.i < length c.args.premises.now = omega (arith, c.requires.all, count-in c.args.list.now, ap length c.as_slice-items.ensures.members, c.loop-i-test.true) in
    let s = subst (AreSizes c.args.sizes.now c.loop-i.node) (parts_in-next c.args.premises.now c.loop-i.i c.index-premises-i.result here c.index-premises-i.is) c.loop-i.invariant.sizes in
    omega (arith, sizes-at c.args.sizes.now c.loop-i.node (reads c.index-premises-i.result.part.now) _ s, s.fits, c.requires.few)

pub walk_each-returns-in_err-set-clause-walked : goal.walk_each-returns-in_err-set-clause-walked
walk_each-returns-in_err-set-clause-walked t c = λ G As n fit e.
    let p = err_from_is_err_and c.from_residual.result c.from_residual.ensures.1 in
    let inv = c.loop-i.invariant in
    let items = c.as_slice-items.result.now in
    let P = c.index-premises-i.result in
    let here : c.loop-i.i < length c.args.premises.now = omega (arith, c.requires.all, count-in c.args.list.now, ap length c.as_slice-items.ensures.members, c.loop-i-test.true) in
    let sets = map numbers_of c.loop-i.done.items in
    let inside = c.under-inside.ensures ∙ ap (λ vs. bounds_under P.binds (map numbers_of vs) (bounds c.args.context.now)) c.deref.ensures.value in
    let whole = PremiseHasPair (plain_derivations c.args.list.now) c.args.first G (map premise_shown c.args.premises.now) [] in
    let w = premises-at c.args.found.now c.loop-i.found items c.args.premises.now c.loop-i.i c.index-items-i.result P c.loop-i.node G As whole sets
    c.loop-i-test.true c.index-items-i.is here c.index-premises-i.is (inv.walked G As n fit e) in
    rw (p.1, p.2)
    (premise-walked-stop c.args.found.now c.loop-i.found (plain_derivation c.index-items-i.result) (derivations_from (map plain_derivation (drop (c.loop-i.i + 1) items))) c.loop-i.node G
    (premise_shown P) (map premise_shown (drop (c.loop-i.i + 1) c.args.premises.now)) As whole sets c.in_err-set.field-0.0 w
    (λ A k. c.in_err-set.ensures.walked (under (plain_binder P.binds) w.so_far G) A
    (subst (λ bs. AreFit c.loop-i.found.numbers bs (under (plain_binder P.binds) w.so_far G)) (sym inside)
    (AreFit-under c.loop-i.found.numbers P.binds sets (bounds c.args.context.now) w.so_far G w.shapes (AreFit-kept inv.extends c.requires.context fit))) k))

pub walk_each-loop-i-preserved : goal.walk_each-loop-i-preserved
walk_each-loop-i-preserved t c =
    let inv = c.loop-i.invariant in
    let one = c.in_ok-set.ensures.stays in
    let items = c.as_slice-items.result.now in
    let P = c.index-premises-i.result in
    let here : c.loop-i.i < length c.args.premises.now = omega (arith, c.requires.all, count-in c.args.list.now, ap length c.as_slice-items.ensures.members, c.loop-i-test.true) in
    let sets = map numbers_of c.loop-i.done.items in
    let pushed : map numbers_of c.push.new.self.items ≡ sets ++ c.in_ok-set.set.items ∷ [] =
    ap (map numbers_of) c.in_ok-push.ensures.items ∙ map_push numbers_of c.loop-i.done.items c.in_ok-set.set in
    let s = subst (AreSizes c.args.sizes.now c.loop-i.node) (parts_in-next c.args.premises.now c.loop-i.i P here c.index-premises-i.is) inv.sizes in
    let size : get_or c.args.sizes.now c.loop-i.node 0 ≡ nodes (reads P.part.now) = sizes-at c.args.sizes.now c.loop-i.node (reads P.part.now) _ s in
    let moved : c.loop-i.node + nodes (reads P.part.now) ≡ c.loop-i.node + get_or c.args.sizes.now c.loop-i.node 0 = ap (λ k. c.loop-i.node + k) (sym size) in
    let inside = c.under-inside.ensures ∙ ap (λ vs. bounds_under P.binds (map numbers_of vs) (bounds c.args.context.now)) c.deref.ensures.value in
    record {
      sound = one.sound;
      extends = Extends-trans inv.extends one.extends;
      within = subst (AreAllIn c.walk.new.found.numbers) (sym pushed) (AreAllIn-push c.in_ok-set.set.items (AreAllIn-kept one.extends inv.within) one.within);
      so_far = ap length c.in_ok-push.ensures.items ∙ omega (arith, length_push c.loop-i.done.items c.in_ok-set.set, inv.so_far);
      sizes = subst (λ n. AreSizes c.args.sizes.now n (parts_in (drop (c.loop-i.i + 1) c.args.premises.now))) moved (sizes-rest s);
      walked = λ G As n fit e.
          let whole = PremiseHasPair (plain_derivations c.args.list.now) c.args.first G (map premise_shown c.args.premises.now) [] in
          let w = premises-at c.args.found.now c.loop-i.found items c.args.premises.now c.loop-i.i c.index-items-i.result P c.loop-i.node G As whole sets
          c.loop-i-test.true c.index-items-i.is here c.index-premises-i.is (inv.walked G As n fit e) in
          let ds = derivations_from (map plain_derivation (drop (c.loop-i.i + 1) items)) in
          let Ps = map premise_shown (drop (c.loop-i.i + 1) c.args.premises.now) in
          subst (λ n. ArePremisesWalkedSo c.args.found.now c.walk.new.found ds n G Ps As whole (map numbers_of c.push.new.self.items)) moved
          (subst (λ ss. ArePremisesWalkedSo c.args.found.now c.walk.new.found ds (c.loop-i.node + nodes (reads P.part.now)) G Ps As whole ss) (sym pushed)
          (premise-walked-next c.args.found.now c.loop-i.found c.walk.new.found (plain_derivation c.index-items-i.result) ds c.loop-i.node G (premise_shown P) Ps As whole sets c.in_ok-set.set.items w
          (λ A k. c.in_ok-set.ensures.walked (under (plain_binder P.binds) w.so_far G) A
          (subst (λ bs. AreFit c.loop-i.found.numbers bs (under (plain_binder P.binds) w.so_far G)) (sym inside)
          (AreFit-under c.loop-i.found.numbers P.binds sets (bounds c.args.context.now) w.so_far G w.shapes (AreFit-kept inv.extends c.requires.context fit))) k)
          one.extends inv.within));
    }

pub walk_each-returns-clause-walked : goal.walk_each-returns-clause-walked
walk_each-returns-clause-walked t c = λ G As n fit e.
    let items = c.as_slice-items.result.now in
    let whole = PremiseHasPair (plain_derivations c.args.list.now) c.args.first G (map premise_shown c.args.premises.now) [] in
    let Ps = map premise_shown (drop c.loop-i.i c.args.premises.now) in
    let w = subst (λ es. ArePremisesWalkedSo c.args.found.now c.loop-i.found (derivations_from (map plain_derivation es)) c.loop-i.node G Ps As whole (map numbers_of c.loop-i.done.items))
    (drop_all c.loop-i.i items c.loop-i-test.false) (c.loop-i.invariant.walked G As n fit e) in
    premises-walked-end c.args.found.now c.loop-i.found c.loop-i.node G Ps As whole (map numbers_of c.loop-i.done.items) w

pub walk_each-returns-clause-stays : goal.walk_each-returns-clause-stays
walk_each-returns-clause-stays t c = record {
  sound = c.loop-i.invariant.sound;
  extends = c.loop-i.invariant.extends;
  within = c.loop-i.invariant.within;
}
