use Rattle.std.proofs.Common.{◌∷◌, slice_get, sym, ap, ◌∙◌}
use Rattle.pe_gen.specs.Scopes.{binders, is_cell, kind_for}
use Rattle.pe_gen.proofs.BinderLemmas.{binders-program, binders-under, kind-cell, next_place}
use Rattle.pe_gen.proofs.scope.is_cell.Goals as goal

pub returns-in-Program : goal.returns-in-Program
returns-in-Program c = ap is_cell (ap (λ ks. slice_get ks c.loop-rest.left) (sym (binders-program _ c.in-Program.is)) ∙ c.loop-rest.invariant)

pub returns-then-left-eq0 : goal.returns-then-left-eq0
returns-then-left-eq0 c =
    let ks = kind_for c.in-Under.cell ∷ binders c.in-Under.outer.now in
    sym (kind-cell c.in-Under.cell)
    ∙ ap is_cell (ap (slice_get ks) (sym c.if-left-eq0.true) ∙ (ap (λ ys. slice_get ys c.loop-rest.left) (sym (binders-under _ _ _ c.in-Under.is)) ∙ c.loop-rest.invariant))

pub loop-rest-preserved : goal.loop-rest-preserved
loop-rest-preserved c =
    sym (next_place (kind_for c.in-Under.cell) (binders c.in-Under.outer.now) c.loop-rest.left c.if-left-eq0.false)
    ∙ (ap (λ ks. slice_get ks c.loop-rest.left) (sym (binders-under _ _ _ c.in-Under.is)) ∙ c.loop-rest.invariant)
