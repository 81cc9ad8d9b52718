use Rattle.std.proofs.Common.{◌+◌, drop, refl}
use Rattle.std.specs.Borrow.{Bor}
use Rattle.fy_types.specs.declared.types.Ty.{Ty}
use Rattle.fy_types.specs.Paths.{end, paths}
use Rattle.fy_types.specs.Reading.{plain_type}
use Rattle.fy_types.specs.Rests.{listed}
use Rattle.fy_types.proofs.Laws.{HasBelow-left}
use Rattle.fy_types.proofs.Steps.{drop_item, drop_end, not_so, some-none}
use Rattle.fy_types.proofs.RestLemmas.{some-rest}
use Rattle.fy_types.proofs.below.has_listed_end.Goals as goal

pub returns-then-has_end : goal.returns-then-has_end
returns-then-has_end c =
    let rest = drop_item (λ (x : Bor Ty). plain_type x.now) c.args.list.now c.loop-ty.ty-index c.ty-item.result c.loop-ty-test.true c.ty-item.is in
    let now = rw rest at c.loop-ty.invariant in
    (λ r. now.0 (HasBelow-left _ (c.has_end.ensures.0 c.if-has_end.true)), λ some. refl)

pub loop-ty-preserved : goal.loop-ty-preserved
loop-ty-preserved c =
    let rest = drop_item (λ (x : Bor Ty). plain_type x.now) c.args.list.now c.loop-ty.ty-index c.ty-item.result c.loop-ty-test.true c.ty-item.is in
    let now = rw rest at c.loop-ty.invariant in
    let step = some-rest (paths (plain_type c.ty-item.result.now)) (listed (drop (c.loop-ty.ty-index + 1) c.args.list.now)) (end c.args.end)
    (not_so c.if-has_end.false c.has_end.ensures.1) in
    (λ some. now.0 (step.1 some), λ some. step.0 (now.1 some))

pub returns : goal.returns
returns c =
    let none = drop_end (λ (x : Bor Ty). plain_type x.now) c.args.list.now c.loop-ty.ty-index c.loop-ty-test.false in
    let now = rw none at c.loop-ty.invariant in
    (λ r. cc, λ some. absurd (some-none (now.1 some)))
