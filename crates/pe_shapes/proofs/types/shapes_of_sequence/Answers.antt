use Rattle.std.proofs.Common.{◌∷◌, [], ◌++◌, map, ap, ◌∙◌}
use Rattle.fy_phrase.specs.declared.shapes.ShapeElem.TheVariants as elem
use Rattle.fy_derive.specs.Shapes.{a_field, a_value, at_end}
use Rattle.pe_shapes.specs.Numbering.{in_front}
use Rattle.pe_shapes.specs.Shown.{all_shown}
use Rattle.pe_shapes.proofs.Standings.{all_shown-push}
use Rattle.pe_shapes.proofs.types.shapes_of_sequence.Goals as goal

pub returns-clause-shown : goal.returns-clause-shown
returns-clause-shown c =
    all_shown-push c.in_ok-all.all.items _ c.in_ok-length.length (a_field 0 (at_end a_value)) c.in_ok-length.ensures.extends c.in_ok-all.ensures.within
    c.in_ok-push.ensures.items c.in_ok-length.ensures.stands
    ∙ ap (λ S. S ++ a_field 0 (at_end a_value) ∷ []) (c.in_ok-all.ensures.shown
    ∙ ap (λ ks. map (in_front elem.Call) (all_shown c.shapes_of_cell.new.numbers ks)) c.deref.ensures.value
    ∙ ap (λ S. map (in_front elem.Call) S) c.in_ok-cell.ensures.shown)
