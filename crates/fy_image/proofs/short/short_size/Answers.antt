use Rattle.std.proofs.Common.{◌∙◌, ap, arith, length, take}
use Rattle.fy_image.proofs.Groups.{size_from}
use Rattle.fy_image.proofs.short.short_size.Goals as goal

pub returns-then-byte-lt128 : goal.returns-then-byte-lt128
returns-then-byte-lt128 c =
    let bytes = c.args.bytes.now in
    let is = c.split_at.ensures.front ∙ ap (λ n. take n bytes) c.min.ensures in
    size_from bytes c.split_at.result.0.now c.loop-k.k is c.loop-k.auto.k-end c.loop-k.invariant (λ below. c.if-byte-lt128.true)

pub returns : goal.returns
returns c =
    let bytes = c.args.bytes.now in
    let start = c.split_at.result.0.now in
    let is = c.split_at.ensures.front ∙ ap (λ n. take n bytes) c.min.ensures in
    size_from bytes start (length start) is (omega arith) (λ i below. c.loop-k.invariant i (omega (arith, below, c.loop-k-test.false))) (λ below. absurd (omega arith))
