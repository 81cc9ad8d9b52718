use Rattle.fy_forms.specs.Keys.{lent}
use Rattle.fy_memo.proofs.BaseLemmas.{rest-missing, rest-other}
use Rattle.fy_memo.proofs.known.rest_of.Goals as goal
use Rattle.fy_memo.proofs.known.rest_of.Goals.{then-not-is_among+in_ok-push, else-not-is_among}

pub loop-path-preserved : goal.loop-path-preserved
loop-path-preserved c =
    let xs = c.args.others.now in
    let i = c.loop-path.path-index in
    let x = c.path-item.result in
    let M = lent c.args.missing.now in
    elim c.if-not-is_among.branch [
      | then-not-is_among+in_ok-push w ↦
          rw (w.rest-is, w.in_ok-push.ensures.items)
          (rest-other xs c.loop-path.rest.items i x M c.loop-path-test.true c.path-item.is c.loop-path.invariant)
      | else-not-is_among w ↦
          rw w.rest-is
          (rest-missing xs c.loop-path.rest.items i x M c.loop-path-test.true c.path-item.is (c.is_among.ensures w.if-not-is_among.false)
          c.loop-path.invariant)
    ]
