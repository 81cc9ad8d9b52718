use Rattle.std.proofs.Common.{◌+◌, map, sym, ap, ◌∙◌, subst, arith, eqb}
use Rattle.std.proofs.lemmas.List.{length-map}
use Rattle.std.proofs.lemmas.Result.{err_from_is_err_and}
use Rattle.fy_phrase.specs.declared.shapes.ShapeElem.TheVariants as elem
use Rattle.fy_types.specs.Types.{arrow, meet}
use Rattle.fy_types.specs.Reading.{plain_type, plain_types}
use Rattle.fy_types.proofs.TypeForms.{reads_atom, reads_arrow, reads_field}
use Rattle.pe_shapes.specs.Shown.{shown, all_shown}
use Rattle.pe_shapes.specs.Standing.{HasShape, AreJust}
use Rattle.pe_shapes.proofs.LoopSteps.{types-next}
use Rattle.pe_shapes.proofs.Members.{Contains-map, HasMany-from, StandOnce-distinct}
use Rattle.pe_shapes.proofs.RecordLemmas.{same_number-refl}
use Rattle.pe_shapes.proofs.ShapeLemmas.{AreJust-end, AreJust-fronted, IsStop-front, IsStop-weaker, HasShape-contained, HasShape-first}
use Rattle.pe_shapes.proofs.Standings.{Extends-trans, AreIn-kept, AreIn-added, StandOnce-shown}
use Rattle.pe_shapes.proofs.types.+types.Goals as goal

pub shapes_of_type-returns-in_err-behind-in-Arrow-clause-made : goal.shapes_of_type-returns-in_err-behind-in-Arrow-clause-made
shapes_of_type-returns-in_err-behind-in-Arrow-clause-made t c =
    let p = err_from_is_err_and c.from_residual-in_err-behind-in-Arrow.result c.from_residual-in_err-behind-in-Arrow.ensures.1 in
    let D = plain_type c.in-Arrow.field-0.value in
    rw (p.1, p.2)
    (IsStop-front c.in_err-behind-in-Arrow.field-0.0 elem.Call (plain_type c.args.ty.now) (plain_type c.deref.result.now)
    (D, reads_arrow c.args.ty.now c.in-Arrow.field-0 c.in-Arrow.rest c.in-Arrow.is ∙ ap (λ x. arrow D (plain_type x)) (sym c.deref.ensures))
    c.in_err-behind-in-Arrow.ensures.made)

pub shapes_of_type-returns-in_err-behind-in-Field-clause-made : goal.shapes_of_type-returns-in_err-behind-in-Field-clause-made
shapes_of_type-returns-in_err-behind-in-Field-clause-made t c =
    let p = err_from_is_err_and c.from_residual-in_err-behind-in-Field.result c.from_residual-in_err-behind-in-Field.ensures.1 in
    rw (p.1, p.2)
    (IsStop-front c.in_err-behind-in-Field.field-0.0 (elem.Field c.in-Field.name) (plain_type c.args.ty.now) (plain_type c.in-Field.part.value)
    (reads_field c.args.ty.now c.in-Field.name c.in-Field.part c.in-Field.is)
    (rw (sym c.deref-in-Field.ensures) c.in_err-behind-in-Field.ensures.made))

pub shapes_of_type-returns-in_ok-all-in-Atom-clause-made : goal.shapes_of_type-returns-in_ok-all-in-Atom-clause-made
shapes_of_type-returns-in_ok-all-in-Atom-clause-made t c =
    AreJust-end _ c.end_of.result c.in-Atom.atom (plain_type c.args.ty.now) (reads_atom c.args.ty.now c.in-Atom.atom c.in-Atom.is)
    (sym c.end_of.ensures) c.in_ok-all-in-Atom.ensures.shown

pub shapes_of_type-returns-in_ok-all-in-Arrow-clause-made : goal.shapes_of_type-returns-in_ok-all-in-Arrow-clause-made
shapes_of_type-returns-in_ok-all-in-Arrow-clause-made t c =
    let D = plain_type c.in-Arrow.field-0.value in
    let u = c.shapes_of_type.new.numbers in
    AreJust-fronted elem.Call (plain_type c.args.ty.now) (plain_type c.deref.result.now)
    (D, reads_arrow c.args.ty.now c.in-Arrow.field-0 c.in-Arrow.rest c.in-Arrow.is ∙ ap (λ x. arrow D (plain_type x)) (sym c.deref.ensures))
    (all_shown u c.deref-in-Arrow.result.now) _
    (subst (λ ks. AreJust (all_shown u ks) (plain_type c.deref.result.now)) (sym c.deref-in-Arrow.ensures.value) c.in_ok-behind-in-Arrow.ensures.made)
    c.in_ok-all-in-Arrow.ensures.shown

pub shapes_of_type-returns-in_ok-all-in-Field-clause-made : goal.shapes_of_type-returns-in_ok-all-in-Field-clause-made
shapes_of_type-returns-in_ok-all-in-Field-clause-made t c =
    let u = c.shapes_of_type-in-Field.new.numbers in
    AreJust-fronted (elem.Field c.in-Field.name) (plain_type c.args.ty.now) (plain_type c.in-Field.part.value)
    (reads_field c.args.ty.now c.in-Field.name c.in-Field.part c.in-Field.is)
    (all_shown u c.deref-in-Field-2.result.now) _
    (subst (λ ks. AreJust (all_shown u ks) (plain_type c.in-Field.part.value)) (sym c.deref-in-Field-2.ensures.value)
    (subst (λ x. AreJust (all_shown u c.in_ok-behind-in-Field.behind.items) (plain_type x)) c.deref-in-Field.ensures c.in_ok-behind-in-Field.ensures.made))
    c.in_ok-all-in-Field.ensures.shown

pub shapes_of_types-returns-in_err-set-clause-made : goal.shapes_of_types-returns-in_err-set-clause-made
shapes_of_types-returns-in_err-set-clause-made t c =
    let p = err_from_is_err_and c.from_residual.result c.from_residual.ensures.1 in
    let items = c.as_slice-ty-items.result.now in
    let x = c.ty-item.result in
    rw (p.1, p.2)
    (IsStop-weaker c.in_err-set.field-0.0 (HasShape (plain_type x)) (HasShape (meet (plain_types c.args.list.now)))
    (λ s h. subst (λ As. HasShape (meet As) s) (sym c.as_slice-ty-items.ensures.reading)
    (HasShape-contained (map plain_type items) (plain_type x) s (Contains-map plain_type items x (c.loop-ty.ty-index, c.loop-ty-test.true, sym c.ty-item.is)) h))
    c.in_err-set.ensures.made)

pub shapes_of_types-returns-then-len-gt-MOST_SHAPES-clause-made : goal.shapes_of_types-returns-then-len-gt-MOST_SHAPES-clause-made
shapes_of_types-returns-then-len-gt-MOST_SHAPES-clause-made t c =
    let items = c.as_slice-ty-items.result.now in
    let i = c.loop-ty.ty-index in
    let u = c.shapes_of_type.new.numbers in
    let x = c.ty-item.result in
    let inv = c.loop-ty.invariant in
    let one = c.in_ok-set.ensures in
    let ks = c.deref.result.now in
    let add = c.in_ok-add_all.ensures in
    let now = c.add_all.new.met.keys in
    let within = AreIn-added u c.loop-ty.met.keys ks now (AreIn-kept one.extends inv.within) (rw c.deref.ensures.value one.within) add.known in
    let made = types-next plain_type c.loop-ty.numbers u c.loop-ty.met.keys ks now items i x c.loop-ty-test.true one.extends inv.within inv.made
    (subst (λ y. AreJust (all_shown u ks) (plain_type y)) c.ty-item.is (subst (λ zs. AreJust (all_shown u zs) (plain_type x)) (sym c.deref.ensures.value) one.made))
    add.kept add.has add.known in
    HasMany-from 257 (HasShape (meet (plain_types c.args.list.now))) (all_shown u now)
    (omega (arith, length-map now (shown u), c.len.ensures.len, c.if-len-gt-MOST_SHAPES.true))
    (StandOnce-shown u now within (StandOnce-distinct eqb same_number-refl now c.len.ensures.unique))
    (λ s h. subst (λ As. HasShape (meet As) s) (sym c.as_slice-ty-items.ensures.reading) (HasShape-first plain_type items (i + 1) s (made.known s h)))

pub shapes_of_types-loop-ty-preserved : goal.shapes_of_types-loop-ty-preserved
shapes_of_types-loop-ty-preserved t c =
    let items = c.as_slice-ty-items.result.now in
    let i = c.loop-ty.ty-index in
    let u = c.shapes_of_type.new.numbers in
    let x = c.ty-item.result in
    let inv = c.loop-ty.invariant in
    let one = c.in_ok-set.ensures in
    let ks = c.deref.result.now in
    let add = c.in_ok-add_all.ensures in
    let now = c.add_all.new.met.keys in
    record {
      within = AreIn-added u c.loop-ty.met.keys ks now (AreIn-kept one.extends inv.within) (rw c.deref.ensures.value one.within) add.known;
      made = types-next plain_type c.loop-ty.numbers u c.loop-ty.met.keys ks now items i x c.loop-ty-test.true one.extends inv.within inv.made
          (subst (λ y. AreJust (all_shown u ks) (plain_type y)) c.ty-item.is (subst (λ zs. AreJust (all_shown u zs) (plain_type x)) (sym c.deref.ensures.value) one.made))
          add.kept add.has add.known;
      extends = Extends-trans inv.extends one.extends;
    }
