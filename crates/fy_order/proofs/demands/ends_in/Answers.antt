use Rattle.std.proofs.Common.{sym, ap, ◌∙◌, arith}
use Rattle.fy_types.specs.Paths.{end}
use Rattle.fy_derive.specs.Subsumption.{path_below}
use Rattle.fy_order.proofs.DemandLemmas.{end-test, no_end-longer, path-end}
use Rattle.fy_order.proofs.demands.ends_in.Goals as goal

pub returns-then-elems-eq0 : goal.returns-then-elems-eq0
returns-then-elems-eq0 c =
    end-test _ _ _ c.is_end_below.ensures
    ∙ ap (λ p. path_below p (end c.args.atom))
    (sym (path-end c.args.path.now c.as_slice-elems.result.now c.as_slice-elems.ensures.reading (omega arith)))

pub returns-else-elems-eq0 : goal.returns-else-elems-eq0
returns-else-elems-eq0 c =
    no_end-longer c.args.path.now c.as_slice-elems.result.now c.args.atom c.as_slice-elems.ensures.reading c.if-elems-eq0.false
