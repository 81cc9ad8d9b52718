use Rattle.fy_again.proofs.JudgedLemmas.{programs_read}
use Rattle.fy_again.proofs.laws.programs_are_read_again.Goals as goal

pub returns : goal.returns
returns c = programs_read
