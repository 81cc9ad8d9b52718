use Rattle.tests_text.proofs.TwoUnits.{two_units}
use Rattle.tests_text.proofs.tests.units.two_units_are_linked_to_one_text.Goals as goal

pub link-requires-clause-units : goal.link-requires-clause-units
link-requires-clause-units g c =
    two_units c.compile_unit.new.names c.compile_unit-2.new.names c.in_ok-square.square c.in_ok-main.main c.new-units.result c.push.new.self c.push-2.new.self
    c.new-units.ensures c.in_ok-push.ensures.ok c.in_ok-push-2.ensures.ok c.in_ok-main.ensures.names c.in_ok-square.ensures.unit c.in_ok-main.ensures.unit
