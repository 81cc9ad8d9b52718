use Rattle.std.proofs.Common.{◌∷◌, [], ◌++◌, ap, ◌∙◌}
use Rattle.fy_derive.specs.Shapes.{an_assignment, at_end}
use Rattle.pe_shapes.proofs.Standings.{all_shown-push}
use Rattle.pe_shapes.proofs.types.shapes_of_cell.Goals as goal

pub returns-clause-shown : goal.returns-clause-shown
returns-clause-shown c =
    all_shown-push c.in_ok-all.all.items _ c.in_ok-number.number (at_end an_assignment) c.in_ok-number.ensures.extends c.in_ok-all.ensures.within
    c.in_ok-push.ensures.items c.in_ok-number.ensures.stands
    ∙ ap (λ S. S ++ at_end an_assignment ∷ []) c.in_ok-all.ensures.shown
