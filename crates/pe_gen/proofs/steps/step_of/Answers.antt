use Rattle.std.proofs.Common.{Some, refl, sym, ap, ◌∙◌}
use Rattle.std.proofs.lemmas.List.{nil_from_length}
use Rattle.std.proofs.lemmas.Option.{slice_get_read}
use Rattle.fy_derive.specs.Shapes.{at_end}
use Rattle.fy_derive.specs.ShapeTables.{behind, plain_end}
use Rattle.pe_gen.proofs.StepLemmas.{shape-read, front-behind}
use Rattle.pe_gen.proofs.steps.step_of.Goals as goal

pub returns-in-None : goal.returns-in-None
returns-in-None c =
    let shape = c.index-shapes-number.result in
    let at = shape-read c.args.shapes.now c.args.number shape (slice_get_read c.args.shapes.now _ c.args.number shape refl c.requires.within c.index-shapes-number.is) in
    at ∙ ap (λ es. Some (behind es (at_end (plain_end shape.end)))) (sym c.as_slice.ensures ∙ nil_from_length c.as_slice.result.now c.in-None.ensures.cases)

pub returns-in-Some-number_of : goal.returns-in-Some-number_of
returns-in-Some-number_of c =
    let shape = c.index-shapes-number.result in
    let at = shape-read c.args.shapes.now c.args.number shape (slice_get_read c.args.shapes.now _ c.args.number shape refl c.requires.within c.index-shapes-number.is) in
    let rest = behind c.in-Some.rest.now (at_end (plain_end shape.end)) in (
      rest,
      c.in-Some-number_of.ensures,
      at ∙ (ap (λ es. Some (behind es (at_end (plain_end shape.end)))) (sym c.as_slice.ensures ∙ c.in-Some.ensures.cases.0)
          ∙ ap Some (front-behind c.in-Some.first.now c.in-Some.rest.now (at_end (plain_end shape.end)))),
    )

pub returns-in-None-number_of : goal.returns-in-None-number_of
returns-in-None-number_of c =
    let shape = c.index-shapes-number.result in
    let at = shape-read c.args.shapes.now c.args.number shape (slice_get_read c.args.shapes.now _ c.args.number shape refl c.requires.within c.index-shapes-number.is) in
    let rest = behind c.in-Some.rest.now (at_end (plain_end shape.end)) in (
      refl,
      (
        c.in-Some.first.now,
        rest,
        at ∙ (ap (λ es. Some (behind es (at_end (plain_end shape.end)))) (sym c.as_slice.ensures ∙ c.in-Some.ensures.cases.0)
            ∙ ap Some (front-behind c.in-Some.first.now c.in-Some.rest.now (at_end (plain_end shape.end)))),
        c.in-None-number_of.ensures,
      ),
    )
