use Rattle.std.proofs.Common.{◌^◌, arith, subst, SFits, w16}
use Rattle.std.proofs.lemmas.Int.{ints}
use Rattle.rv_guard.specs.declared.pieces.Window.TheVariants.{InStack}
use Rattle.fy_audit.specs.Words.{IsNearWindow}
use Rattle.fy_audit.proofs.Behind.{moved_is}
use Rattle.fy_audit.proofs.windows.moved_one.Goals as goal

pub returns-else-register-r : goal.returns-else-register-r
returns-else-register-r c =
    let near : IsNearWindow (2 ^ 60) (InStack c.in-InStack.register c.in-InStack.from c.in-InStack.to) = subst (IsNearWindow (2 ^ 60)) c.in-InStack.is c.requires in
    let k : SFits w16 c.args.k = c.ranges.k in
    moved_is c.args.a c.args.r c.in-InStack.register c.args.k c.in-InStack.from c.in-InStack.to _ _ c.args.window c.in-InStack.is c.if-register-r.false (omega (arith, ints, near, k)) (omega (arith, ints, near, k))
