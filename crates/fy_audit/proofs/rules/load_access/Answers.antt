use Rattle.std.proofs.Common.{ℤ, arith, to_z-of_z, sym, ◌∙◌, subst, inl, inr}
use Rattle.rv_guard.specs.Windows.{HasWindow, CoversStack, CoversTable}
use Rattle.fy_audit.proofs.rules.load_access.Goals as goal

pub returns-then-covers_stack : goal.returns-then-covers_stack
returns-then-covers_stack c =
    let e = to_z-of_z c.ranges.imm in
    let m = rw e at (sym c.is_multiple_of.ensures ∙ c.if-not-is_multiple_of.false) in
    let found = c.if-covers_stack.true in
    let h = rw e at (c.covers_stack.ensures.0 (grind arith)) in
    (λ t. (m, inl h), λ k. grind arith)

pub returns : goal.returns
returns c =
    let e = to_z-of_z c.ranges.imm in
    let m = rw e at (sym c.is_multiple_of.ensures ∙ c.if-not-is_multiple_of.false) in
    let P : ℤ → Type 0 = λ z. HasWindow (CoversStack c.args.r z c.args.loaded) c.args.windows.now in
    let Q : ℤ → Type 0 = λ z. HasWindow (CoversTable c.args.r z c.args.loaded) c.args.windows.now in
    let not-found = c.if-covers_stack.false in (
      λ t. (m, inr (rw e at (c.covers_table.ensures.0 t))),
      λ k. elim k.1 [
        | inl a ↦ let t = c.covers_stack.ensures.1 (subst P (sym e) a) in absurd (grind arith)
        | inr b ↦ c.covers_table.ensures.1 (subst Q (sym e) b)
      ],
    )
