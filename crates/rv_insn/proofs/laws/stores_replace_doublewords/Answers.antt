use Rattle.rv_insn.proofs.Doublewords.{store_doubleword}
use Rattle.rv_insn.proofs.laws.stores_replace_doublewords.Goals as goal

pub returns : goal.returns
returns c = store_doubleword
