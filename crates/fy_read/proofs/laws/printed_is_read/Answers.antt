use Rattle.fy_read.proofs.TakenLemmas as lemmas
use Rattle.fy_read.proofs.laws.printed_is_read.Goals as goal

pub returns : goal.returns
returns c = lemmas.printed_is_read
