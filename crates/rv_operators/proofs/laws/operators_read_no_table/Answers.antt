use Rattle.rv_operators.proofs.Discipline.{table_free}
use Rattle.rv_operators.proofs.laws.operators_read_no_table.Goals as goal

pub returns : goal.returns
returns c = table_free
