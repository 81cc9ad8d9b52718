use Rattle.std.proofs.Common.{◌≡◌}
use Rattle.fy_types.specs.Paths.{PlainPaths}
use Rattle.fy_types.specs.Reading.{plain_path, plain_paths}
use Rattle.fy_forms.specs.Keys.{lent}
use Rattle.fy_order.specs.Demands.{takes_argument}
use Rattle.fy_memo.specs.Bases.{IsMadeOf}
use Rattle.fy_memo.proofs.BaseLemmas.{takes-flagged, takes-left}
use Rattle.fy_memo.proofs.known.Known.may_take.Goals as goal
use Rattle.fy_memo.proofs.known.Known.may_take.Goals.{else-not-is_set-via-then-not-is_set+in_ok-may_be_taken+else-branch, else-not-is_set-via-else-not-is_set}

pub loop-place-preserved : goal.loop-place-preserved
loop-place-preserved c =
    let known = c.args.self.now in
    let xs = c.as_slice-path-items.result.now in
    let x = c.path-item.result in
    let B = plain_paths known.base in
    let N = lent c.args.others.now in
    let alike : (P : PlainPaths) → IsMadeOf P B N → takes_argument P (plain_path x) ≡ takes_argument B (plain_path x) =
    elim c.else-not-is_set.branch [
      | else-not-is_set-via-then-not-is_set+in_ok-may_be_taken+else-branch w ↦ λ P made. w.in_ok-may_be_taken.ensures w.if-branch.false P B made
      | else-not-is_set-via-else-not-is_set w ↦ λ P made.
          takes-flagged P B N (plain_paths known.procedure) c.as_slice.result.now known.taken.items xs c.loop-place.place x known.flagged
          c.as_slice-path-items.ensures.reading c.loop-place-test.true c.path-item.is c.as_slice.ensures.value (c.is_set.ensures w.if-not-is_set.false) made
    ] in
    λ P made left. c.loop-place.invariant P made
    (takes-left P B xs c.loop-place.place x c.loop-place-test.true c.path-item.is (alike P made) left)
