use Rattle.rv_word.proofs.Outputs.{output_grows}
use Rattle.rv_word.proofs.laws.word_output_grows.Goals as goal

pub returns : goal.returns
returns c = output_grows
