use Rattle.std.proofs.Common.{◌≡◌, sym, ap, ◌∙◌, subst, arith}
use Rattle.fy_types.specs.declared.types.Ty.{size-Ty}
use Rattle.fy_types.specs.Paths.{no_paths, pick, append, paths, all_paths}
use Rattle.fy_types.specs.Reading.{plain_type}
use Rattle.fy_types.specs.Rests.{listed, largest, Adds}
use Rattle.fy_types.proofs.TypeForms.{reads_ns, reads_atom, reads_arrow, reads_field, reads_meet}
use Rattle.fy_types.proofs.TypeSizes.{field-size, meet-size, item-size}
use Rattle.fy_types.proofs.Steps.{some-none}
use Rattle.fy_types.proofs.Making.{first_paths-more, first_paths-all}
use Rattle.fy_types.proofs.RestLemmas.{Adds-nothing, Adds-then, Adds-field, no_pick-after_end, no_pick-called, pick-split, listed-push, largest-push}
use Rattle.fy_types.proofs.below.+add_rests_after_field.Goals as goal

pub loop-part-init : goal.loop-part-init
loop-part-init t c = record {
  rests = Adds-nothing (pick c.args.name) (listed c.args.made.now.items) no_paths (λ q some. some-none some);
  size = omega arith;
}

pub loop-part-preserved : goal.loop-part-preserved
loop-part-preserved t c =
    let more = first_paths-more c.as_slice-part-items.result.now c.loop-part.part-index c.part-item.result c.loop-part-test.true c.part-item.is in
    record {
      rests =
          subst (λ P. Adds (pick c.args.name) (listed c.args.made.now.items) (listed c.add_rests_after_field.new.made.items) P) (sym more)
          (Adds-then (pick c.args.name) _ _ _ _ _ c.loop-part.invariant.rests c.in_ok-add_rests_after_field-in-Meet.ensures.rests);
      size =
          let deep = meet-size c.args.ty.now c.in-Meet.all c.in-Meet.is in
          let item = item-size c.in-Meet.all c.loop-part.part-index c.part-item.result
          (rw c.as_slice-part-items.ensures.members at c.loop-part-test.true) (rw c.as_slice-part-items.ensures.members at c.part-item.is) in
          omega (arith, deep, item, c.in_ok-add_rests_after_field-in-Meet.ensures.size, c.loop-part.invariant.size);
    }

pub returns-in-Ns-clause-rests : goal.returns-in-Ns-clause-rests
returns-in-Ns-clause-rests t c =
    rw (ap paths (reads_ns c.args.ty.now c.in-Ns.is)) (Adds-nothing (pick c.args.name) _ _ (λ q some. some-none some))

pub returns-in-Atom-clause-rests : goal.returns-in-Atom-clause-rests
returns-in-Atom-clause-rests t c =
    rw (ap paths (reads_atom c.args.ty.now c.in-Atom.field-0 c.in-Atom.is))
    (Adds-nothing (pick c.args.name) _ _ (λ q some. no_pick-after_end some))

pub returns-in-Arrow-clause-rests : goal.returns-in-Arrow-clause-rests
returns-in-Arrow-clause-rests t c =
    rw (ap paths (reads_arrow c.args.ty.now c.in-Arrow.field-0 c.in-Arrow.field-1 c.in-Arrow.is))
    (Adds-nothing (pick c.args.name) _ _ (λ q some. no_pick-called _ _ some))

pub returns-in_ok-push-in-Field-clause-size : goal.returns-in_ok-push-in-Field-clause-size
returns-in_ok-push-in-Field-clause-size t c =
    let pushed = ap largest c.in_ok-push-in-Field.ensures.items ∙ largest-push c.args.made.now.items c.deref.result in
    let same = ap size-Ty c.deref.ensures in
    omega (arith, pushed, same, field-size c.args.ty.now c.in-Field.other c.in-Field.part c.in-Field.is)

pub returns-in_ok-push-in-Field-clause-rests : goal.returns-in_ok-push-in-Field-clause-rests
returns-in_ok-push-in-Field-clause-rests t c =
    let form = ap paths (reads_field c.args.ty.now c.in-Field.other c.in-Field.part c.in-Field.is) in
    let made : listed c.push.new.self.items ≡ append (listed c.args.made.now.items) (paths (plain_type c.in-Field.part.value)) =
    ap listed c.in_ok-push-in-Field.ensures.items
    ∙ (listed-push c.args.made.now.items c.deref.result
    ∙ ap (λ x. append (listed c.args.made.now.items) (paths (plain_type x))) c.deref.ensures) in
    rw (form, made, c.if-other-name.true) (Adds-field (listed c.args.made.now.items) (paths (plain_type c.in-Field.part.value)) c.args.name)

pub returns-else-other-name-clause-rests : goal.returns-else-other-name-clause-rests
returns-else-other-name-clause-rests t c =
    rw (ap paths (reads_field c.args.ty.now c.in-Field.other c.in-Field.part c.in-Field.is))
    (Adds-nothing (pick c.args.name) _ _ (λ q some. c.if-other-name.false (pick-split _ _ some).0))

pub returns-after-loop-part-clause-rests : goal.returns-after-loop-part-clause-rests
returns-after-loop-part-clause-rests t c =
    let all = first_paths-all c.as_slice-part-items.result.now c.loop-part.part-index c.loop-part-test.false in
    subst (λ P. Adds (pick c.args.name) (listed c.args.made.now.items) (listed c.loop-part.made.items) P)
    (all ∙ (ap all_paths (sym c.as_slice-part-items.ensures.reading) ∙ ap paths (sym (reads_meet c.args.ty.now c.in-Meet.all c.in-Meet.is))))
    c.loop-part.invariant.rests
