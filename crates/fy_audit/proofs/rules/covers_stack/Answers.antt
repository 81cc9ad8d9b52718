use Rattle.std.proofs.Common.{arith, to_z-of_z}
use Rattle.rv_guard.specs.Windows.{CoversStack}
use Rattle.fy_audit.proofs.Finding.{has_at, has_none}
use Rattle.fy_audit.proofs.rules.covers_stack.Goals as goal

pub returns-then-is_stack_cover : goal.returns-then-is_stack_cover
returns-then-is_stack_cover c =
    let true-is = c.if-is_stack_cover.true in
    let covers = c.is_stack_cover.ensures.0 (grind arith) in
    (λ t. has_at (CoversStack c.args.r c.args.imm c.args.s) c.args.windows.now c.loop-window.window-index _ c.loop-window-test.true (simp (to_z-of_z c.ranges.imm) at covers), λ h. grind arith)

pub returns : goal.returns
returns c =
    (λ t. absurd (grind arith), λ h. absurd (has_none (CoversStack c.args.r c.args.imm c.args.s) c.args.windows.now c.loop-window.window-index c.loop-window-test.false (simp (to_z-of_z c.ranges.imm) at c.loop-window.invariant) h))
