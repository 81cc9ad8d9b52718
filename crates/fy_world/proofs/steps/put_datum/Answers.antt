use Rattle.std.proofs.Common.{[], sym, ◌∙◌}
use Rattle.fy_world.specs.Stepping.{text_of}
use Rattle.fy_world.proofs.StepLines.{none_put, datum_put, datum_part, some_text}
use Rattle.fy_world.proofs.steps.put_datum.Goals as goal

pub returns-in-Ok-Some-clause-put : goal.returns-in-Ok-Some-clause-put
returns-in-Ok-Some-clause-put g c =
    datum_put c.put.result c.args.kind c.args.value _ (g.W.World.holds c.put.new.self) c.as_slice.result.now c.in-Ok-Some.text c.as_slice.ensures (sym c.in-Ok-Some.field-0-is ∙ c.in-Ok-Some.ensures) c.put.ensures.put

pub returns-in-Ok-Some-clause-part : goal.returns-in-Ok-Some-clause-part
returns-in-Ok-Some-clause-part g c =
    datum_part c.put.result c.args.kind c.args.value _ (g.W.World.holds c.put.new.self) c.as_slice.result.now c.in-Ok-Some.text c.as_slice.ensures (sym c.in-Ok-Some.field-0-is ∙ c.in-Ok-Some.ensures) c.put.ensures.rest c.put.ensures.part c.put.ensures.stop

pub unreachable-requires : goal.unreachable-requires
unreachable-requires g c = some_text _ c.requires (sym c.in-Ok-None.field-0-is ∙ c.in-Ok-None.ensures)

pub returns-in-Err-clause-part : goal.returns-in-Err-clause-part
returns-in-Err-clause-part g c = none_put [] (text_of c.args.kind c.args.value) _
