use Rattle.std.proofs.Common.{◌+◌, get_or, take, sym, ap, ◌∙◌, subst, arith}
use Rattle.fy_types.specs.Paths.{no_paths, pick}
use Rattle.fy_types.specs.Rests.{Adds}
use Rattle.fy_types.specs.Types.{field}
use Rattle.fy_derive.specs.Shown.{shown}
use Rattle.fy_derive.specs.Covers.{covered, AreUnder}
use Rattle.fy_derive.proofs.BelowLemmas.{AreUnder-push, adds-skip, adds-push, adds-field, no_pick-apart, no_pick-node}
use Rattle.fy_derive.proofs.below.rests_after_field.Goals as goal
use Rattle.fy_derive.proofs.below.rests_after_field.Goals.{in-Field+then-other-name+in_ok-push, in-Field+else-other-name, in_default}

pub loop-member-preserved : goal.loop-member-preserved
loop-member-preserved c =
    let t = c.args.table.now in
    let i = c.loop-member.member-index in
    let ks = c.args.members.now in
    let k = get_or ks i 0 in
    let inv = c.loop-member.invariant in
    let f = pick c.args.name in
    elim c.match-node.branch [
      | in-Field+then-other-name+in_ok-push w ↦
          (let pushed = ap (λ v. v.items) w.rests-is ∙ w.in_ok-push.ensures.items in
          let stands = w.in-Field.ensures.stands ∙ ap (λ j. field j (shown t w.in-Field.rest)) w.if-other-name.true in
          record {
            rests = adds-push t f ks c.loop-member.rests.items _ i w.in-Field.rest c.loop-member-test.true pushed inv.rests
                (adds-field t (covered t c.loop-member.rests.items) k w.in-Field.rest c.args.name stands);
            under = AreUnder-push c.args.bound c.loop-member.rests.items _ w.in-Field.rest pushed inv.under
                (omega (arith, w.in-Field.ensures.parts, c.requires.under.each i 0 c.loop-member-test.true));
          })
      | in-Field+else-other-name w ↦ record {
        rests = subst (λ v. Adds f no_paths (covered t v.items) (covered t (take (i + 1) ks))) (sym w.rests-is)
            (adds-skip t f ks c.loop-member.rests.items i c.loop-member-test.true inv.rests
            (no_pick-apart t k w.in-Field.rest w.in-Field.other c.args.name w.in-Field.ensures.stands (λ e. w.if-other-name.false (sym e))));
        under = subst (λ v. AreUnder c.args.bound v.items) (sym w.rests-is) inv.under;
      }
      | in_default w ↦ record {
        rests = subst (λ v. Adds f no_paths (covered t v.items) (covered t (take (i + 1) ks))) (sym w.rests-is)
            (adds-skip t f ks c.loop-member.rests.items i c.loop-member-test.true inv.rests
            (no_pick-node t k c.node.result _ c.args.name c.node.ensures.stands c.node.ensures.same
            (c.requires.single.each i 0 c.loop-member-test.true) w.in_default.not-Field));
        under = subst (λ v. AreUnder c.args.bound v.items) (sym w.rests-is) inv.under;
      }
    ]
