use Rattle.rv_guard.specs.Windows.{CoversStack}
use Rattle.fy_audit.proofs.Finding.{NoneBefore}
use Rattle.fy_audit.proofs.rules.covers_stack.Given as goal

abbrev pub invariant-loop-window : goal.invariant-loop-window
invariant-loop-window l = NoneBefore (CoversStack l.r l.imm l.s) l.windows l.window-index
