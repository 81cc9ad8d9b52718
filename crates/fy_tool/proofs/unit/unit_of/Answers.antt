use Rattle.fy_front.proofs.Checking.{few_first}
use Rattle.fy_tool.proofs.UnitCommands.{not_unit, unit_written}
use Rattle.fy_tool.proofs.unit.unit_of.Goals as goal

pub compile_unit-requires-clause-names : goal.compile_unit-requires-clause-names
compile_unit-requires-clause-names c = few_first _ c.in-Ok.ensures

pub returns-in-Err-Refused-clause-unit : goal.returns-in-Err-Refused-clause-unit
returns-in-Err-Refused-clause-unit c =
    let none = not_unit _ c.args.text.now _ c.requires c.in-Ok.ensures c.in-Err-Refused.ensures.refused in rw c.in-Err-Refused.field-0-is (rw c.in-Err-Refused.field-0-is at none)

pub returns-in-Ok-write_unit-clause-unit : goal.returns-in-Ok-write_unit-clause-unit
returns-in-Ok-write_unit-clause-unit c =
    unit_written _ _ c.args.text.now c.in-Ok-write_unit.bytes.items c.in-Ok-compile_unit.unit c.in-Ok.ensures c.in-Ok-compile_unit.ensures.source c.in-Ok-compile_unit.ensures.unit c.in-Ok-compile_unit.ensures.names c.in-Ok-compile_unit.ensures.within
    c.in-Ok-compile_unit.ensures.read_back c.in-Ok-write_unit.ensures
