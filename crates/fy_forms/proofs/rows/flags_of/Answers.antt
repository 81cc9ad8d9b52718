use Rattle.std.proofs.Common.{ap, sym, ◌∙◌, subst, map, arith}
use Rattle.fy_types.specs.Reading.{plain_path}
use Rattle.fy_forms.specs.Rows.{plain_member, IsFlagged}
use Rattle.fy_forms.proofs.RowLemmas.{member-known, flagged-set}
use Rattle.fy_forms.proofs.rows.flags_of.Goals as goal
use Rattle.fy_forms.proofs.rows.flags_of.Goals.{in-Some+then-index-len, in-Some+else-index-len, in_default}

pub loop-member-preserved : goal.loop-member-preserved
loop-member-preserved c =
    let known = member-known (plain_path c.args.path.now) c.deref-member-items.result.now c.loop-member.member-index c.member-item.result
    (ap (map plain_member) c.deref-member-items.ensures.value ∙ c.in_ok-members.ensures) c.loop-member-test.true c.member-item.is in
    elim c.match-find.branch [
      | in-Some+then-index-len w ↦
          subst (λ v. IsFlagged c.args.table.now v.items (plain_path c.args.path.now)) (sym w.flags-is)
          (flagged-set c.args.table.now c.loop-member.flags.items (plain_path c.args.path.now) w.in-Some.index c.member-item.result
          c.loop-member.invariant (omega (arith, w.if-index-len.true, w.len-in-Some.ensures, c.loop-member.flags.ok.0)) w.in-Some.ensures known)
      | in-Some+else-index-len w ↦ rw w.flags-is c.loop-member.invariant
      | in_default w ↦ rw w.flags-is c.loop-member.invariant
    ]
