use Rattle.std.proofs.Common.{◌+◌, drop, get_or, refl, ap, sym, subst}
use Rattle.fy_types.specs.Paths.{end, paths, all_paths}
use Rattle.fy_types.specs.PathOrder.{HasBelow}
use Rattle.fy_types.specs.Reading.{types_from}
use Rattle.fy_types.proofs.Laws.{HasBelow-left}
use Rattle.fy_types.proofs.Steps.{not_so, some-none, drop_end}
use Rattle.fy_types.proofs.RestLemmas.{some-rest, one_end}
use Rattle.fy_derive.specs.Shown.{shown}
use Rattle.fy_derive.specs.Covers.{covered}
use Rattle.fy_derive.proofs.BelowLemmas.{covered-left, no_end-node}
use Rattle.fy_derive.proofs.below.has_end.Goals as goal
use Rattle.fy_derive.proofs.below.has_end.Goals.{in-Atom+else-is_end_below, in_default}

pub returns-then-is_end_below : goal.returns-then-is_end_below
returns-then-is_end_below c =
    let t = c.args.table.now in
    let next = covered-left t c.args.members.now c.loop-member.member-index c.loop-member-test.true in (
      λ r. c.loop-member.invariant.0 (subst (λ P. HasBelow P (end c.args.end)) (sym next)
          (HasBelow-left _ (subst (λ A. HasBelow (paths A) (end c.args.end)) (sym c.in-Atom.ensures.stands)
          ((one_end c.in-Atom.atom c.args.end).1 (c.is_end_below.ensures.0 c.if-is_end_below.true))))),
      λ h. refl,
    )

pub loop-member-preserved : goal.loop-member-preserved
loop-member-preserved c =
    let t = c.args.table.now in
    let k = get_or c.args.members.now c.loop-member.member-index 0 in
    let rest = covered t (drop (c.loop-member.member-index + 1) c.args.members.now) in
    let next = covered-left t c.args.members.now c.loop-member.member-index c.loop-member-test.true in
    let now = rw next at c.loop-member.invariant in
    elim c.match-node.branch [
      | in-Atom+else-is_end_below w ↦
          (let step = some-rest (paths (shown t k)) rest (end c.args.end)
          (λ s. not_so w.if-is_end_below.false w.is_end_below.ensures.1
          ((one_end w.in-Atom.atom c.args.end).0 (subst (λ A. HasBelow (paths A) (end c.args.end)) w.in-Atom.ensures.stands s))) in
          (λ some. now.0 (step.1 some), λ some. step.0 (now.1 some)))
      | in_default w ↦
          (let step = some-rest (paths (shown t k)) rest (end c.args.end)
          (no_end-node t k c.node.result _ c.args.end c.node.ensures.stands c.node.ensures.same
          (c.requires.single.each c.loop-member.member-index 0 c.loop-member-test.true) w.in_default.not-Atom) in
          (λ some. now.0 (step.1 some), λ some. step.0 (now.1 some)))
    ]

pub returns : goal.returns
returns c =
    let none = ap (λ As. all_paths (types_from As)) (drop_end (shown c.args.table.now) c.args.members.now c.loop-member.member-index c.loop-member-test.false) in
    let now = rw none at c.loop-member.invariant in
    (λ r. cc, λ h. absurd (some-none (now.1 h)))
