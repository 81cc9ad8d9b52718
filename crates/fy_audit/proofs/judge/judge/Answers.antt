use Rattle.std.proofs.Common.{ℕ, ◌+◌, ◌*◌, ◌^◌, length, arith, refl, sym, ap, ◌∙◌, subst}
use Rattle.rv_guard.specs.declared.pieces.Piece.TheVariants.{ServiceCall}
use Rattle.fy_audit.specs.Words.{AreNear}
use Rattle.fy_audit.proofs.Behind.{near_more}
use Rattle.fy_audit.proofs.Judging.{Stands, at_piece, stands_more, near_at, keeps_same, sliced}
use Rattle.fy_audit.proofs.judge.judge.Goals as goal

pub windows_here-windows-requires-clause-here : goal.windows_here-windows-requires-clause-here
windows_here-windows-requires-clause-here c =
    let a = at_piece c.args.pieces.now (length c.args.marks.now.starts.items) c.loop-i.k c.loop-i.i c.loop-i.windows.items (ServiceCall 0) c.loop-i-test.true c.loop-i.invariant in
    let here = a.here in
    omega (arith, ap length c.deref.ensures.value, c.requires.targets.count, here)

pub behind-requires-clause-near : goal.behind-requires-clause-near
behind-requires-clause-near c =
    let a = at_piece c.args.pieces.now (length c.args.marks.now.starts.items) c.loop-i.k c.loop-i.i c.loop-i.windows.items (ServiceCall 0) c.loop-i-test.true c.loop-i.invariant in
    let here = a.here in
    let fewer = c.loop-i.invariant.fewer in
    let few = c.requires.few in
    subst (AreNear (2 ^ 60)) (sym (c.deref-in-loop-i-3.ensures.value ∙ c.windows_here-windows.ensures))
    (near_more (2 ^ 32 * c.loop-i.i) (2 ^ 60) _ (omega (arith, here, fewer, few)) (near_at c.args.pieces.now (2 ^ 32 * c.loop-i.i) c.loop-i.k c.loop-i.windows.items c.loop-i.invariant.near))

pub loop-i-preserved : goal.loop-i-preserved
loop-i-preserved c =
    let n : ℕ = 2 ^ 32 * c.loop-i.i in
    let at = c.deref-in-loop-i-3.ensures.value ∙ c.windows_here-windows.ensures in
    let near : AreNear n c.deref-in-loop-i-3.result.now = subst (AreNear n) (sym at) (near_at c.args.pieces.now n c.loop-i.k c.loop-i.windows.items c.loop-i.invariant.near) in
    let P : ℕ → Type 0 = λ s. Stands c.args.pieces.now (length c.args.marks.now.starts.items) (c.loop-i.k + s) (c.loop-i.i + 1) c.in_ok-windows.windows.items in
    subst P (sym c.size-k.ensures)
    (stands_more c.args.pieces.now (length c.args.marks.now.starts.items) c.loop-i.k c.loop-i.i c.loop-i.windows.items c.deref-in-loop-i-3.result.now c.in_ok-windows.windows.items _ c.loop-i-test.true c.loop-i.invariant
    (keeps_same c.args.pieces.now c.loop-i.k _ _ _ _ _ (c.deref-in-loop-i.ensures.value ∙ c.windows_here-windows.ensures) (sliced c.args.pieces.now (c.loop-i.i + 1) _ refl)
    (c.if-not-is_allowed.ensures.0 refl))
    at c.in_ok-windows.ensures.items
    (c.in_ok-windows.ensures.near n near))
