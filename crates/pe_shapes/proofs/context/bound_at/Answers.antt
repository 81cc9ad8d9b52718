use Rattle.std.proofs.Common.{slice_get, sym, ap, ◌∙◌}
use Rattle.pe_shapes.specs.Contexts.{plain_bound, bounds}
use Rattle.pe_shapes.proofs.ContextLemmas.{bounds-under, next_place}
use Rattle.pe_shapes.proofs.context.bound_at.Goals as goal

pub loop-rest-preserved : goal.loop-rest-preserved
loop-rest-preserved c =
    sym (next_place (plain_bound c.in-Under.bound) (bounds c.in-Under.outer.now) c.loop-rest.left c.if-left-eq0.false)
    ∙ (ap (λ ks. slice_get ks c.loop-rest.left) (sym (bounds-under _ _ _ c.in-Under.is)) ∙ c.loop-rest.invariant)
