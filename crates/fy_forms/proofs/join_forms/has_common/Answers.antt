use Rattle.std.proofs.Common.{◌≡◌, Bool, true, false, sym, refl, ◌∙◌, arith}
use Rattle.std.proofs.lemmas.List.{length-map}
use Rattle.fy_types.specs.Reading.{plain_elem, plain_path}
use Rattle.fy_types.specs.Bounds.{common}
use Rattle.fy_types.specs.Keeping.{is_some}
use Rattle.fy_types.proofs.Steps.{drop_end}
use Rattle.fy_types.proofs.ReadLemmas.{plain_path-at}
use Rattle.fy_forms.proofs.CommonLemmas.{some-length, end-found, end-turned}
use Rattle.fy_forms.proofs.join_forms.has_common.Goals as goal

-- a test that can't be true
unless : (b : Bool) → (b ≡ true → ⊥) → false ≡ b
unless true f = absurd (f refl)
unless false f = refl

pub returns-then-xs-ys : goal.returns-then-xs-ys
returns-then-xs-ys c = unless (is_some (common (plain_path c.args.p.now) (plain_path c.args.q.now)))
    (λ e. c.if-xs-ys.true (sym (length-map c.as_slice-xs.result.now plain_elem)
    ∙ (some-length _ _ _ _ (rw (plain_path-at c.args.p.now, plain_path-at c.args.q.now, c.as_slice-xs.ensures.reading, c.as_slice-ys.ensures.reading) at e)
    ∙ length-map c.as_slice-ys.result.now plain_elem)))

pub returns-then-is_end_below : goal.returns-then-is_end_below
returns-then-is_end_below c =
    let xs = drop_end plain_elem c.as_slice-xs.result.now c.loop-i.i c.loop-i-test.false in
    let ys = drop_end plain_elem c.as_slice-ys.result.now c.loop-i.i (omega arith) in
    end-found c.args.p.now.end c.args.q.now.end c.if-is_end_below.true c.is_end_below.ensures.0 ∙ (rw (xs, ys) at c.loop-i.invariant)

pub returns-else-is_end_below : goal.returns-else-is_end_below
returns-else-is_end_below c =
    let xs = drop_end plain_elem c.as_slice-xs.result.now c.loop-i.i c.loop-i-test.false in
    let ys = drop_end plain_elem c.as_slice-ys.result.now c.loop-i.i (omega arith) in
    end-turned c.args.p.now.end c.args.q.now.end c.if-is_end_below.false c.is_end_below.ensures.1 c.is_end_below-else-is_end_below.ensures
    ∙ (rw (xs, ys) at c.loop-i.invariant)
