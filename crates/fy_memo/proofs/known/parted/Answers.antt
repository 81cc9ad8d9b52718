use Rattle.std.proofs.Common.{◌∙◌, sym, length, arith}
use Rattle.fy_forms.specs.Keys.{lent}
use Rattle.fy_memo.specs.Bases.{first_of}
use Rattle.fy_memo.proofs.BaseLemmas.{first-all, parted-found, parted-other, parted-skipped}
use Rattle.fy_memo.proofs.known.parted.Goals as goal
use Rattle.fy_memo.proofs.known.parted.Goals.{in-Some+in_ok-skip, in_default+in_ok-push}

pub loop-path-preserved : goal.loop-path-preserved
loop-path-preserved c =
    let xs = c.as_slice-path-items.result.now in
    let ys = c.as_slice-wanted.result.now in
    let i = c.loop-path.path-index in
    let n = c.loop-path.next in
    let inv = c.loop-path.invariant in
    elim c.match-place_near.branch [
      | in-Some+in_ok-skip w ↦
          let found = w.in-Some.ensures in
          rw (w.next-is, w.others-is, w.missing-is) (
            parted-found (lent c.loop-path.others.items) (lent c.loop-path.missing.items) (lent w.skip.new.missing.items) xs ys i n w.in-Some.place
                c.path-item.result c.loop-path-test.true c.path-item.is found w.in_ok-skip.ensures inv.0,
            omega (arith, found.few),
          )
      | in_default+in_ok-push w ↦
          rw (w.next-is, w.others-is, w.missing-is, w.in_ok-push.ensures.items) (
            parted-other (first_of n ys) (lent c.loop-path.missing.items) xs c.loop-path.others.items i _ c.loop-path-test.true c.path-item.is inv.0,
            inv.1,
          )
    ]

pub returns : goal.returns
returns c =
    let xs = c.as_slice-path-items.result.now in
    let ys = c.as_slice-wanted.result.now in
    let i = c.loop-path.path-index in
    let inv = c.loop-path.invariant in
    let form = c.as_slice-path-items.ensures.reading ∙ sym (first-all xs i c.loop-path-test.false) in
    let base = c.as_slice-wanted.ensures.reading ∙ sym (first-all ys (length ys) (omega arith)) in
    rw (form, base)
    (parted-skipped (first_of i xs) (lent c.loop-path.others.items) (lent c.loop-path.missing.items) (lent c.skip-2.new.missing.items) ys
    c.loop-path.next (length ys) inv.1 c.in_ok-skip-2.ensures inv.0)
