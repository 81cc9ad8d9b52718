use Rattle.std.proofs.Common.{Bool, ◌↔◌, IsTrue, ◌≡◌, ◌+◌, ◌++◌, [], ◌∷◌, map, drop, sym, ap, ◌∙◌, subst, arith, rules, refl}
use Rattle.std.proofs.lemmas.Result.{IfOk-weaker}
use Rattle.fy_types.specs.declared.types.Ty.{size-Ty}
use Rattle.fy_types.specs.Paths.{PlainPaths, no_paths, call, pick, append, called, picked, paths, all_paths}
use Rattle.fy_types.specs.PathOrder.{ArePathsBelow, none_left}
use Rattle.fy_types.specs.Reading.{plain_type, types_from}
use Rattle.fy_types.specs.Rests.{listed, largest, Adds}
use Rattle.fy_types.proofs.Laws.{append-none}
use Rattle.fy_types.proofs.Steps.{drop_item, drop_end, not_so, some-none}
use Rattle.fy_types.proofs.TypeForms.{reads_ns, reads_atom, reads_arrow, reads_field, reads_meet}
use Rattle.fy_types.proofs.TypeSizes.{arrow-size, meet-size, item-size}
use Rattle.fy_types.proofs.Making.{first_paths-more, first_paths-all}
use Rattle.fy_types.proofs.RestLemmas.{Adds-nothing, Adds-then, Adds-arrow, none-after_end, no_call-picked, call-split, called-iff, picked-iff, end-iff, append-first, append-iff, listed-push, listed-item, largest-push, largest-item}
use Rattle.fy_types.proofs.below.+below.Goals as goal

-- a test that decides one order decides an order that is equivalent to it
moved : (r : Bool) (P Q R S : PlainPaths) → (ArePathsBelow P Q ↔ ArePathsBelow R S) → (IsTrue r ↔ ArePathsBelow R S) → IsTrue r ↔ ArePathsBelow P Q
moved r P Q R S same both = (λ t. same.1 (both.0 t), λ below. both.1 (same.0 below))

pub is_meet_below-returns-in-Ns : goal.is_meet_below-returns-in-Ns
is_meet_below-returns-in-Ns t c = rw (ap paths (reads_ns c.args.b.now c.in-Ns.is)) (λ r. none_left, λ below. refl)

pub is_meet_below-returns-in-Atom : goal.is_meet_below-returns-in-Atom
is_meet_below-returns-in-Atom t c =
    let same = end-iff (listed c.args.list.now) c.in-Atom.end in
    rw (ap paths (reads_atom c.args.b.now c.in-Atom.end c.in-Atom.is))
    (λ r. same.1 (c.has_listed_end.ensures.0 r), λ below. c.has_listed_end.ensures.1 (same.0 below))

pub is_meet_below-returns-in_ok-rests-in-Arrow : goal.is_meet_below-returns-in_ok-rests-in-Arrow
is_meet_below-returns-in_ok-rests-in-Arrow t c =
    let form = ap paths (reads_arrow c.args.b.now c.in-Arrow.domain c.in-Arrow.rest c.in-Arrow.is) in
    let rests : Adds (call (paths (plain_type c.in-Arrow.domain.value))) no_paths (listed c.deref-in-Arrow.result.now) (listed c.args.list.now) =
    subst (λ P. Adds (call (paths (plain_type c.in-Arrow.domain.value))) no_paths P (listed c.args.list.now)) (ap listed (sym c.deref-in-Arrow.ensures.value))
    (subst (λ x. Adds (call (paths (plain_type x))) no_paths (listed c.in_ok-rests-in-Arrow.rests.items) (listed c.args.list.now)) c.deref.ensures
    c.in_ok-rests-in-Arrow.ensures.rests) in
    let right = ap (λ x. paths (plain_type x)) c.deref-in-Arrow-2.ensures in
    let same = called-iff (listed c.args.list.now) (listed c.deref-in-Arrow.result.now) (paths (plain_type c.in-Arrow.domain.value))
    (paths (plain_type c.in-Arrow.rest.value)) rests in
    IfOk-weaker c.is_meet_below.result _ _
    (λ r both. rw form (moved r (listed c.args.list.now) (called (paths (plain_type c.in-Arrow.domain.value)) (paths (plain_type c.in-Arrow.rest.value)))
    (listed c.deref-in-Arrow.result.now) (paths (plain_type c.in-Arrow.rest.value)) same
    (subst (λ Y. IsTrue r ↔ ArePathsBelow (listed c.deref-in-Arrow.result.now) Y) right both))) c.is_meet_below.ensures

pub is_meet_below-returns-in_ok-rests-in-Field : goal.is_meet_below-returns-in_ok-rests-in-Field
is_meet_below-returns-in_ok-rests-in-Field t c =
    let form = ap paths (reads_field c.args.b.now c.in-Field.name c.in-Field.part c.in-Field.is) in
    let rests : Adds (pick c.in-Field.name) no_paths (listed c.deref-in-Field.result.now) (listed c.args.list.now) =
    subst (λ P. Adds (pick c.in-Field.name) no_paths P (listed c.args.list.now)) (ap listed (sym c.deref-in-Field.ensures.value))
    c.in_ok-rests-in-Field.ensures.rests in
    let right = ap (λ x. paths (plain_type x)) c.deref-in-Field-2.ensures in
    let same = picked-iff (listed c.args.list.now) (listed c.deref-in-Field.result.now) c.in-Field.name (paths (plain_type c.in-Field.part.value)) rests in
    IfOk-weaker c.is_meet_below-in-Field.result _ _
    (λ r both. rw form (moved r (listed c.args.list.now) (picked c.in-Field.name (paths (plain_type c.in-Field.part.value)))
    (listed c.deref-in-Field.result.now) (paths (plain_type c.in-Field.part.value)) same
    (subst (λ Y. IsTrue r ↔ ArePathsBelow (listed c.deref-in-Field.result.now) Y) right both))) c.is_meet_below-in-Field.ensures

pub is_meet_below_all-returns-then-not-branch : goal.is_meet_below_all-returns-then-not-branch
is_meet_below_all-returns-then-not-branch t c =
    let rest = drop_item plain_type c.as_slice-b-items.result.now c.loop-b.b-index c.b-item.result c.loop-b-test.true c.b-item.is in
    let now = rw rest at c.loop-b.invariant in
    (λ r. cc, λ below. absurd (not_so c.if-not-branch.true c.in_ok-is_meet_below.ensures.1 (append-first _ _ _ (now.1 below))))

pub is_meet_below_all-loop-b-preserved : goal.is_meet_below_all-loop-b-preserved
is_meet_below_all-loop-b-preserved t c =
    let rest = drop_item plain_type c.as_slice-b-items.result.now c.loop-b.b-index c.b-item.result c.loop-b-test.true c.b-item.is in
    let now = rw rest at c.loop-b.invariant in
    let step = append-iff (listed c.args.list.now) (paths (plain_type c.b-item.result))
    (all_paths (types_from (map plain_type (drop (c.loop-b.b-index + 1) c.as_slice-b-items.result.now))))
    (c.in_ok-is_meet_below.ensures.0 c.if-not-branch.false) in
    (λ below. now.0 (step.1 below), λ below. step.0 (now.1 below))

pub is_meet_below_all-returns : goal.is_meet_below_all-returns
is_meet_below_all-returns t c =
    let none = drop_end plain_type c.as_slice-b-items.result.now c.loop-b.b-index c.loop-b-test.false in
    let now = rw none at c.loop-b.invariant in
    (λ r. now.0 none_left, λ below. refl)

pub is_one_below-returns : goal.is_one_below-returns
is_one_below-returns t c =
    let list = c.deref.ensures.value ∙ (c.in_ok-push.ensures.items ∙ ap (λ xs. xs ++ (c.args.a ∷ [])) c.new-list.ensures.items) in
    let one = ap listed list ∙ append-none (paths (plain_type c.args.a.now)) in
    IfOk-weaker c.is_meet_below.result _ _
    (λ r both. subst (λ X. IsTrue r ↔ ArePathsBelow X (paths (plain_type c.args.b.now))) one both) c.is_meet_below.ensures

pub add_rests_after_call-loop-part-init : goal.add_rests_after_call-loop-part-init
add_rests_after_call-loop-part-init t c = record {
  rests = Adds-nothing (call (paths (plain_type c.args.argument.now))) (listed c.args.made.now.items) no_paths (λ q some. some-none some);
  size = omega arith;
}

pub add_rests_after_call-loop-part-preserved : goal.add_rests_after_call-loop-part-preserved
add_rests_after_call-loop-part-preserved t c =
    let more = first_paths-more c.as_slice-part-items.result.now c.loop-part.part-index c.part-item.result c.loop-part-test.true c.part-item.is in
    record {
      rests =
          subst (λ P. Adds (call (paths (plain_type c.args.argument.now))) (listed c.args.made.now.items) (listed c.add_rests_after_call.new.made.items) P) (sym more)
          (Adds-then (call (paths (plain_type c.args.argument.now))) _ _ _ _ _ c.loop-part.invariant.rests c.in_ok-add_rests_after_call-in-Meet.ensures.rests);
      size =
          let deep = meet-size c.args.ty.now c.in-Meet.all c.in-Meet.is in
          let item = item-size c.in-Meet.all c.loop-part.part-index c.part-item.result
          (rw c.as_slice-part-items.ensures.members at c.loop-part-test.true) (rw c.as_slice-part-items.ensures.members at c.part-item.is) in
          omega (arith, deep, item, c.in_ok-add_rests_after_call-in-Meet.ensures.size, c.loop-part.invariant.size);
    }

pub add_rests_after_call-returns-in-Ns-clause-rests : goal.add_rests_after_call-returns-in-Ns-clause-rests
add_rests_after_call-returns-in-Ns-clause-rests t c =
    rw (ap paths (reads_ns c.args.ty.now c.in-Ns.is))
    (Adds-nothing (call (paths (plain_type c.args.argument.now))) _ _ (λ q some. some-none some))

pub add_rests_after_call-returns-in-Atom-clause-rests : goal.add_rests_after_call-returns-in-Atom-clause-rests
add_rests_after_call-returns-in-Atom-clause-rests t c =
    rw (ap paths (reads_atom c.args.ty.now c.in-Atom.field-0 c.in-Atom.is))
    (Adds-nothing (call (paths (plain_type c.args.argument.now))) _ _ (λ q some. none-after_end some))

pub add_rests_after_call-returns-in-Field-clause-rests : goal.add_rests_after_call-returns-in-Field-clause-rests
add_rests_after_call-returns-in-Field-clause-rests t c =
    rw (ap paths (reads_field c.args.ty.now c.in-Field.field-0 c.in-Field.field-1 c.in-Field.is))
    (Adds-nothing (call (paths (plain_type c.args.argument.now))) _ _ (λ q some. no_call-picked _ _ some))

pub add_rests_after_call-returns-in_ok-push-in-Arrow-clause-size : goal.add_rests_after_call-returns-in_ok-push-in-Arrow-clause-size
add_rests_after_call-returns-in_ok-push-in-Arrow-clause-size t c =
    let pushed = ap largest c.in_ok-push-in-Arrow.ensures.items ∙ largest-push c.args.made.now.items c.deref-then-branch.result in
    let same = ap size-Ty c.deref-then-branch.ensures in
    omega (arith, pushed, same, arrow-size c.args.ty.now c.in-Arrow.domain c.in-Arrow.rest c.in-Arrow.is)

pub add_rests_after_call-returns-in_ok-push-in-Arrow-clause-rests : goal.add_rests_after_call-returns-in_ok-push-in-Arrow-clause-rests
add_rests_after_call-returns-in_ok-push-in-Arrow-clause-rests t c =
    let below = rw c.deref.ensures at (c.in_ok-is_one_below-in-Arrow.ensures.0 c.if-branch.true) in
    let form = ap paths (reads_arrow c.args.ty.now c.in-Arrow.domain c.in-Arrow.rest c.in-Arrow.is) in
    let made : listed c.push.new.self.items ≡ append (listed c.args.made.now.items) (paths (plain_type c.in-Arrow.rest.value)) =
    ap listed c.in_ok-push-in-Arrow.ensures.items
    ∙ (listed-push c.args.made.now.items c.deref-then-branch.result
    ∙ ap (λ x. append (listed c.args.made.now.items) (paths (plain_type x))) c.deref-then-branch.ensures) in
    rw (form, made) (Adds-arrow (listed c.args.made.now.items) (paths (plain_type c.in-Arrow.domain.value)) (paths (plain_type c.in-Arrow.rest.value))
    (paths (plain_type c.args.argument.now)) below)

pub add_rests_after_call-returns-else-branch-clause-rests : goal.add_rests_after_call-returns-else-branch-clause-rests
add_rests_after_call-returns-else-branch-clause-rests t c =
    rw (ap paths (reads_arrow c.args.ty.now c.in-Arrow.domain c.in-Arrow.rest c.in-Arrow.is))
    (Adds-nothing (call (paths (plain_type c.args.argument.now))) _ _
    (λ q some. not_so c.if-branch.false c.in_ok-is_one_below-in-Arrow.ensures.1 (rw c.deref.ensures (call-split _ _ some).0)))

pub add_rests_after_call-returns-after-loop-part-clause-rests : goal.add_rests_after_call-returns-after-loop-part-clause-rests
add_rests_after_call-returns-after-loop-part-clause-rests t c =
    let all = first_paths-all c.as_slice-part-items.result.now c.loop-part.part-index c.loop-part-test.false in
    subst (λ P. Adds (call (paths (plain_type c.args.argument.now))) (listed c.args.made.now.items) (listed c.loop-part.made.items) P)
    (all ∙ (ap all_paths (sym c.as_slice-part-items.ensures.reading) ∙ ap paths (sym (reads_meet c.args.ty.now c.in-Meet.all c.in-Meet.is))))
    c.loop-part.invariant.rests

pub rests_after_call-add_rests_after_call-requires : goal.rests_after_call-add_rests_after_call-requires
rests_after_call-add_rests_after_call-requires t c =
    let size = largest-item c.args.list.now c.loop-ty.ty-index c.ty-item.result c.loop-ty-test.true c.ty-item.is in search rules

pub rests_after_call-loop-ty-preserved : goal.rests_after_call-loop-ty-preserved
rests_after_call-loop-ty-preserved t c =
    let size = largest-item c.args.list.now c.loop-ty.ty-index c.ty-item.result c.loop-ty-test.true c.ty-item.is in
    record {
      rests =
          subst (λ P. Adds (call (paths (plain_type c.args.argument.now))) no_paths (listed c.add_rests_after_call.new.made.items) P)
          (sym (listed-item c.args.list.now c.loop-ty.ty-index c.ty-item.result c.loop-ty-test.true c.ty-item.is))
          (Adds-then (call (paths (plain_type c.args.argument.now))) _ _ _ _ _ c.loop-ty.invariant.rests c.in_ok-add_rests_after_call.ensures.rests);
      size = omega (arith, size, c.in_ok-add_rests_after_call.ensures.size, c.loop-ty.invariant.size);
    }
