use Rattle.rv_insn.proofs.Standing.{status_follows}
use Rattle.rv_insn.proofs.laws.status_follows.Goals as goal

pub returns : goal.returns
returns c = status_follows
