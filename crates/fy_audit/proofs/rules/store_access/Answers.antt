use Rattle.std.proofs.Common.{ℤ, to_z-of_z, sym, ◌∙◌, subst}
use Rattle.rv_guard.specs.Windows.{HasWindow, CoversStack}
use Rattle.fy_audit.proofs.rules.store_access.Goals as goal

pub returns : goal.returns
returns c =
    let e = to_z-of_z c.ranges.imm in
    let m = rw e at (sym c.is_multiple_of.ensures ∙ c.if-not-is_multiple_of.false) in
    let P : ℤ → Type 0 = λ z. HasWindow (CoversStack c.args.r z c.args.stored) c.args.windows.now in
    (λ t. (m, rw e at (c.covers_stack.ensures.0 t)), λ k. c.covers_stack.ensures.1 (subst P (sym e) k.1))
