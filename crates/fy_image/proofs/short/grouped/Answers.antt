use Rattle.std.proofs.Common.{◌<◌, arith, drop}
use Rattle.std.proofs.lemmas.List.{length-drop}
use Rattle.fy_image.specs.Refusals.{grouped}
use Rattle.fy_image.proofs.Groups.{four_groups}
use Rattle.fy_image.proofs.short.grouped.Goals as goal

pub overflow_mul-n : goal.overflow_mul-n
overflow_mul-n c =
    let behind = drop c.loop-k.k c.args.bytes.now in
    let few : grouped behind < 268435456 = four_groups behind (omega (arith, length-drop c.loop-k.k c.args.bytes.now, c.requires, c.loop-k-test.true)) in
    omega (arith, few, c.loop-k.invariant)

pub overflow_add-n : goal.overflow_add-n
overflow_add-n c =
    let behind = drop c.loop-k.k c.args.bytes.now in
    let few : grouped behind < 268435456 = four_groups behind (omega (arith, length-drop c.loop-k.k c.args.bytes.now, c.requires, c.loop-k-test.true)) in
    omega (arith, few, c.loop-k.invariant)
