use Rattle.std.proofs.Common.{sym, ap, ◌∙◌}
use Rattle.std.proofs.lemmas.Slice.Eq.{slice_eq-Decides}
use Rattle.fy_derive.specs.Shapes.{at_end}
use Rattle.fy_derive.specs.ShapeTables.{behind, plain_end}
use Rattle.pe_gen.proofs.KeyTests.{same_end, end-same, same_elem, elem-same}
use Rattle.pe_gen.proofs.StepLemmas.{plain_end-same, behind-same}
use Rattle.pe_gen.proofs.steps.has_demands.Goals as goal

pub returns-then-eq : goal.returns-then-eq
returns-then-eq c =
    let shape = c.args.shape.now in
    let decides = slice_eq-Decides (λ a b. (same_elem a b, λ e. elem-same a b e)) c.as_slice.result.now c.args.elems.now c.eq-then-eq.result c.eq-then-eq.ensures in
    let end = same_end shape.end c.args.end (sym c.eq.ensures ∙ c.if-eq.true) in (
      λ t. ap (λ es. behind es (at_end (plain_end shape.end))) (sym c.as_slice.ensures ∙ decides.0 t) ∙ ap (λ e. behind c.args.elems.now (at_end (plain_end e))) end,
      λ same. decides.1 (c.as_slice.ensures ∙ (behind-same shape.elems c.args.elems.now (plain_end shape.end) (plain_end c.args.end) same).0),
    )

pub returns-else-eq : goal.returns-else-eq
returns-else-eq c =
    let shape = c.args.shape.now in (
      λ t. absurd cc,
      λ same. c.eq.ensures ∙ end-same shape.end c.args.end (plain_end-same shape.end c.args.end (behind-same shape.elems c.args.elems.now (plain_end shape.end) (plain_end c.args.end) same).1),
    )
