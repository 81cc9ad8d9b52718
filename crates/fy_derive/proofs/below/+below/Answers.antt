use Rattle.std.proofs.Common.{◌≡◌, ◌↔◌, ◌+◌, ◌++◌, ◌∷◌, [], IsTrue, get_or, take, sym, ap, ◌∙◌, subst, arith, refl}
use Rattle.std.proofs.lemmas.Result.{IfOk-weaker}
use Rattle.fy_types.specs.Paths.{no_paths, call, pick, paths}
use Rattle.fy_types.specs.PathOrder.{ArePathsBelow, none_left}
use Rattle.fy_types.specs.Rests.{Adds}
use Rattle.fy_types.proofs.Order.{ArePathsBelow-refl}
use Rattle.fy_types.proofs.Laws.{append-none}
use Rattle.fy_types.proofs.Steps.{not_so}
use Rattle.fy_types.proofs.RestLemmas.{append-first, append-iff}
use Rattle.fy_derive.specs.Shown.{shown}
use Rattle.fy_derive.specs.Covers.{covered, AreUnder}
use Rattle.fy_derive.proofs.CoverLemmas.{in_front-paths}
use Rattle.fy_derive.proofs.BelowLemmas.{AreUnder-push, end-test, call-test, pick-test, adds-skip, adds-push, adds-arrow, no_call-apart, no_call-node}
use Rattle.fy_derive.proofs.below.+below.Goals as goal
use Rattle.fy_derive.proofs.below.+below.Goals.{rests_after_call-in-Arrow+in_ok-is_one_below+then-branch+in_ok-push, rests_after_call-in-Arrow+in_ok-is_one_below+else-branch, rests_after_call-in_default}

pub is_meet_below-returns-in-Ns : goal.is_meet_below-returns-in-Ns
is_meet_below-returns-in-Ns t c = rw c.in-Ns.ensures.stands (λ r. none_left, λ h. refl)

pub is_meet_below-returns-in-NoTypes : goal.is_meet_below-returns-in-NoTypes
is_meet_below-returns-in-NoTypes t c = rw c.in-NoTypes.ensures.stands (λ r. none_left, λ h. refl)

pub is_meet_below-returns-in_ok-members-in-Atom : goal.is_meet_below-returns-in_ok-members-in-Atom
is_meet_below-returns-in_ok-members-in-Atom t c =
    end-test c.has_end.result _ (covered c.args.table.now c.deref.result.now) _ c.in-Atom.end c.in-Atom.ensures.stands
    (rw c.deref.ensures.value c.in_ok-members-in-Atom.ensures.alike) c.has_end.ensures

pub is_meet_below-returns-in_ok-rests-in-Arrow : goal.is_meet_below-returns-in_ok-rests-in-Arrow
is_meet_below-returns-in_ok-rests-in-Arrow t c =
    let T = c.args.table.now in
    IfOk-weaker c.is_meet_below.result _ _
    (λ r h. call-test r (covered T c.args.list.now) (covered T c.in_ok-members-in-Arrow.members.items) (covered T c.in_ok-rests-in-Arrow.rests.items)
    (shown T c.args.b) (shown T c.in-Arrow.domain) (shown T c.in-Arrow.rest) c.in-Arrow.ensures.stands c.in_ok-members-in-Arrow.ensures.alike
    (subst (λ ks. Adds (call (paths (shown T c.in-Arrow.domain))) no_paths (covered T c.in_ok-rests-in-Arrow.rests.items) (covered T ks))
    c.deref-in-Arrow.ensures.value c.in_ok-rests-in-Arrow.ensures.rests)
    (subst (λ ks. IsTrue r ↔ ArePathsBelow (covered T ks) (paths (shown T c.in-Arrow.rest))) c.deref-in-Arrow-2.ensures.value h))
    c.is_meet_below.ensures

pub is_meet_below-returns-in_ok-rests-in-Field : goal.is_meet_below-returns-in_ok-rests-in-Field
is_meet_below-returns-in_ok-rests-in-Field t c =
    let T = c.args.table.now in
    IfOk-weaker c.is_meet_below-in-Field.result _ _
    (λ r h. pick-test r (covered T c.args.list.now) (covered T c.in_ok-members-in-Field.members.items) (covered T c.in_ok-rests-in-Field.rests.items)
    (shown T c.args.b) c.in-Field.name (shown T c.in-Field.part) c.in-Field.ensures.stands c.in_ok-members-in-Field.ensures.alike
    (subst (λ ks. Adds (pick c.in-Field.name) no_paths (covered T c.in_ok-rests-in-Field.rests.items) (covered T ks))
    c.deref-in-Field.ensures.value c.in_ok-rests-in-Field.ensures.rests)
    (subst (λ ks. IsTrue r ↔ ArePathsBelow (covered T ks) (paths (shown T c.in-Field.part))) c.deref-in-Field-2.ensures.value h))
    c.is_meet_below-in-Field.ensures

pub is_meet_below-returns-then-not-branch : goal.is_meet_below-returns-then-not-branch
is_meet_below-returns-then-not-branch t c =
    let T = c.args.table.now in
    let whole = ap paths c.in-AndType.ensures.stands ∙ in_front-paths _ _ c.in-AndType.ensures.meet in (
      λ r. cc,
      λ h. absurd (not_so c.if-not-branch.true c.in_ok-is_meet_below-in-AndType.ensures.1
          (append-first (covered T c.args.list.now) (paths (shown T c.in-AndType.first)) (paths (shown T c.in-AndType.rest))
          (subst (ArePathsBelow (covered T c.args.list.now)) whole h))),
    )

pub is_meet_below-returns-else-not-branch : goal.is_meet_below-returns-else-not-branch
is_meet_below-returns-else-not-branch t c =
    let T = c.args.table.now in
    let whole = ap paths c.in-AndType.ensures.stands ∙ in_front-paths _ _ c.in-AndType.ensures.meet in
    let L = covered T c.args.list.now in
    let step = append-iff L (paths (shown T c.in-AndType.first)) (paths (shown T c.in-AndType.rest))
    (c.in_ok-is_meet_below-in-AndType.ensures.0 c.if-not-branch.false) in
    IfOk-weaker c.is_meet_below-in-AndType-2.result _ _
    (λ r h. subst (λ P. IsTrue r ↔ ArePathsBelow L P) (sym whole) (λ k. step.1 (h.0 k), λ k. h.1 (step.0 k)))
    c.is_meet_below-in-AndType-2.ensures

pub is_one_below-returns-then-a-b : goal.is_one_below-returns-then-a-b
is_one_below-returns-then-a-b t c = (
  λ r. subst (λ k. ArePathsBelow (paths (shown c.args.table.now c.args.a)) (paths (shown c.args.table.now k))) c.if-a-b.true
      (ArePathsBelow-refl (paths (shown c.args.table.now c.args.a))),
  λ h. refl,
)

pub is_one_below-returns : goal.is_one_below-returns
is_one_below-returns t c =
    let T = c.args.table.now in
    let one : covered T c.deref.result.now ≡ paths (shown T c.args.a) =
    ap (covered T) (c.deref.ensures.value ∙ (c.in_ok-push.ensures.items ∙ ap (λ xs. xs ++ (c.args.a ∷ [])) c.new-list.ensures.items))
    ∙ append-none (paths (shown T c.args.a)) in
    IfOk-weaker c.is_meet_below.result _ _ (λ r h. subst (λ P. IsTrue r ↔ ArePathsBelow P (paths (shown T c.args.b))) one h) c.is_meet_below.ensures

pub rests_after_call-loop-member-preserved : goal.rests_after_call-loop-member-preserved
rests_after_call-loop-member-preserved t c =
    let T = c.args.table.now in
    let i = c.loop-member.member-index in
    let ks = c.args.members.now in
    let k = get_or ks i 0 in
    let X = paths (shown T c.args.argument) in
    let inv = c.loop-member.invariant in
    elim c.match-node.branch [
      | rests_after_call-in-Arrow+in_ok-is_one_below+then-branch+in_ok-push w ↦
          (let pushed = ap (λ v. v.items) w.rests-is ∙ w.in_ok-push.ensures.items in
          record {
            rests = adds-push T (call X) ks c.loop-member.rests.items _ i w.in-Arrow.rest c.loop-member-test.true pushed inv.rests
                (adds-arrow T (covered T c.loop-member.rests.items) k w.in-Arrow.domain w.in-Arrow.rest X w.in-Arrow.ensures.stands
                (w.in_ok-is_one_below.ensures.0 w.if-branch.true));
            under = AreUnder-push c.args.bound c.loop-member.rests.items _ w.in-Arrow.rest pushed inv.under
                (omega (arith, w.in-Arrow.ensures.parts, c.requires.under.each i 0 c.loop-member-test.true));
          })
      | rests_after_call-in-Arrow+in_ok-is_one_below+else-branch w ↦ record {
        rests = subst (λ v. Adds (call X) no_paths (covered T v.items) (covered T (take (i + 1) ks))) (sym w.rests-is)
            (adds-skip T (call X) ks c.loop-member.rests.items i c.loop-member-test.true inv.rests
            (no_call-apart T k w.in-Arrow.domain w.in-Arrow.rest X w.in-Arrow.ensures.stands
            (λ h. not_so w.if-branch.false w.in_ok-is_one_below.ensures.1 h)));
        under = subst (λ v. AreUnder c.args.bound v.items) (sym w.rests-is) inv.under;
      }
      | rests_after_call-in_default w ↦ record {
        rests = subst (λ v. Adds (call X) no_paths (covered T v.items) (covered T (take (i + 1) ks))) (sym w.rests-is)
            (adds-skip T (call X) ks c.loop-member.rests.items i c.loop-member-test.true inv.rests
            (no_call-node T k c.node.result _ X c.node.ensures.stands c.node.ensures.same
            (c.requires.single.each i 0 c.loop-member-test.true) w.in_default.not-Arrow));
        under = subst (λ v. AreUnder c.args.bound v.items) (sym w.rests-is) inv.under;
      }
    ]
