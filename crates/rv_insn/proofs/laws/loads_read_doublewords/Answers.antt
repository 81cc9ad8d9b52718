use Rattle.rv_insn.proofs.Doublewords.{load_doubleword}
use Rattle.rv_insn.proofs.laws.loads_read_doublewords.Goals as goal

pub returns : goal.returns
returns c = load_doubleword
