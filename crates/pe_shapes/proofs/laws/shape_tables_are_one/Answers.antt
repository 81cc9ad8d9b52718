use Rattle.pe_shapes.proofs.TablesOne.{tables-one}
use Rattle.pe_shapes.proofs.laws.shape_tables_are_one.Goals as goal

pub returns : goal.returns
returns c = tables-one
