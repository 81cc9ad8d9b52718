use Rattle.rv_machine.proofs.Loading.{one_program}
use Rattle.rv_machine.proofs.laws.images_have_one_program.Goals as goal

pub returns : goal.returns
returns c = one_program
