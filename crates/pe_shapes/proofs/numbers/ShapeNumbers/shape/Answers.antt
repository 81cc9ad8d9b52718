use Rattle.std.proofs.Common.{sym, ap, ◌∙◌, arith}
use Rattle.fy_derive.specs.ShapeTables.{behind}
use Rattle.pe_shapes.specs.Shown.{shown}
use Rattle.pe_shapes.proofs.NodeTests.{behind-push}
use Rattle.pe_shapes.proofs.numbers.ShapeNumbers.shape.Goals as goal

pub demands-preserved : goal.demands-preserved
demands-preserved c = record {
  within = omega (arith, c.in-Front.ensures.parts, c.demands.invariant.within);
  stands = ap (λ es. behind es (shown c.args.self.now c.in-Front.behind)) c.in_ok-push-in-Front.ensures.ok
      ∙ (behind-push c.demands.elems c.in-Front.elem (shown c.args.self.now c.in-Front.behind)
      ∙ (ap (behind c.demands.elems) (sym c.in-Front.ensures.stands) ∙ c.demands.invariant.stands));
}

pub returns-in-End : goal.returns-in-End
returns-in-End c = ap (behind c.demands.elems) (sym c.in-End.ensures.stands) ∙ c.demands.invariant.stands
