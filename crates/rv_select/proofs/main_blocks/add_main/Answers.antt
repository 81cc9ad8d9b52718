use Rattle.std.proofs.Common.{ap}
use Rattle.pe_code.specs.Code.{shape_of, variable_of}
use Rattle.rv_select.proofs.main_blocks.add_main.Goals as goal

pub add_use-requires-clause-variable : goal.add_use-requires-clause-variable
add_use-requires-clause-variable c = c.requires.variable c.in-UseVar.variable (ap variable_of c.in-UseVar.is)

pub add_use-requires-clause-shape : goal.add_use-requires-clause-shape
add_use-requires-clause-shape c = c.requires.shape c.in-UseVar.shape (ap shape_of c.in-UseVar.is)

pub add_pass_variable-requires : goal.add_pass_variable-requires
add_pass_variable-requires c = c.requires.variable c.in-PassVar.variable (ap variable_of c.in-PassVar.is)

pub add_let_variable-requires : goal.add_let_variable-requires
add_let_variable-requires c = c.requires.variable c.in-LetVar.variable (ap variable_of c.in-LetVar.is)

pub returns-in-Field : goal.returns-in-Field
returns-in-Field c = rw c.in-Field.is (c.add_field.ensures c.in-Field.field-0)

pub returns-in-Pick : goal.returns-in-Pick
returns-in-Pick c = rw c.in-Pick.is (c.add_pick.ensures c.in-Pick.field-0)

pub add_set-requires-clause-variable : goal.add_set-requires-clause-variable
add_set-requires-clause-variable c = c.requires.variable c.in-Set.variable (ap variable_of c.in-Set.is)
