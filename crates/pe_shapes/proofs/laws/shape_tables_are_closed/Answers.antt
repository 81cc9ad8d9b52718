use Rattle.pe_shapes.proofs.ClosedLemmas.{tables-closed}
use Rattle.pe_shapes.proofs.laws.shape_tables_are_closed.Goals as goal

pub returns : goal.returns
returns c = tables-closed
