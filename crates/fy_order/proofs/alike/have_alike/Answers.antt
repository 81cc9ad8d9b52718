use denote.Enum.Bare.{same_true}
use Rattle.std.proofs.Common.{Bool, true, false, not, ◌≡◌, refl, sym, subst, ◌∙◌, arith, rules}
use Rattle.fy_types.specs.contracts.types.Atom.{the_type}
use Rattle.fy_types.specs.PathOrder.{IsEndBelow, ends, same_end}
use Rattle.fy_types.specs.Reading.{plain_elem}
use Rattle.fy_types.proofs.ReadLemmas.{plain_path-at}
use Rattle.fy_types.proofs.Steps.{drop_item, drop_end, front-joined}
use Rattle.fy_order.proofs.alike.have_alike.Goals as goal

not-false : (b : Bool) → not b ≡ false → b ≡ true
not-false true is = refl
not-false false is = cc

pub loop-i-init : goal.loop-i-init
loop-i-init c = record {
  low = λ below. rw (plain_path-at c.args.p.now, plain_path-at c.args.q.now, c.as_slice-xs.ensures.reading, c.as_slice-ys.ensures.reading) below;
  high = λ below. rw (plain_path-at c.args.p.now, plain_path-at c.args.q.now, c.as_slice-xs.ensures.reading, c.as_slice-ys.ensures.reading) below;
}

pub loop-i-preserved : goal.loop-i-preserved
loop-i-preserved c =
    let xs = drop_item plain_elem c.as_slice-xs.result.now c.loop-i.i c.index-xs-i.result c.loop-i-test.true c.index-xs-i.is in
    let ys = drop_item plain_elem c.as_slice-ys.result.now c.loop-i.i c.index-ys-i.result (omega arith) c.index-ys-i.is in
    let low = rw (xs, ys) at c.loop-i.invariant.low in
    let high = rw (xs, ys) at c.loop-i.invariant.high in
    record {
      low = λ below. low (front-joined (c.is_alike.ensures.low c.if-not-is_alike.false) below);
      high = λ below. high (front-joined (c.is_alike.ensures.high c.if-not-is_alike.false) below);
    }

pub returns-clause-low : goal.returns-clause-low
returns-clause-low c r =
    let xs = drop_end plain_elem c.as_slice-xs.result.now c.loop-i.i c.loop-i-test.false in
    let ys = drop_end plain_elem c.as_slice-ys.result.now c.loop-i.i (omega arith) in
    let same = same_true the_type (search rules) c.args.p.now.end c.args.q.now.end (not-false _ (sym c.ne.ensures ∙ c.if-ne.false)) in
    (rw (xs, ys) at c.loop-i.invariant.low) (ends (subst (λ x. IsEndBelow c.args.p.now.end x) same same_end))

pub returns-clause-high : goal.returns-clause-high
returns-clause-high c r =
    let xs = drop_end plain_elem c.as_slice-xs.result.now c.loop-i.i c.loop-i-test.false in
    let ys = drop_end plain_elem c.as_slice-ys.result.now c.loop-i.i (omega arith) in
    let same = same_true the_type (search rules) c.args.p.now.end c.args.q.now.end (not-false _ (sym c.ne.ensures ∙ c.if-ne.false)) in
    (rw (xs, ys) at c.loop-i.invariant.high) (ends (subst (λ x. IsEndBelow x c.args.p.now.end) same same_end))
