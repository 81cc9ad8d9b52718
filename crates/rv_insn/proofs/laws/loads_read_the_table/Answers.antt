use Rattle.rv_insn.proofs.Regions.{load_from_table}
use Rattle.rv_insn.proofs.laws.loads_read_the_table.Goals as goal

pub returns : goal.returns
returns c = load_from_table
