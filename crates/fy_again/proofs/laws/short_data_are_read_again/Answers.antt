use Rattle.fy_again.proofs.LiteralLemmas.{short_data_read}
use Rattle.fy_again.proofs.laws.short_data_are_read_again.Goals as goal

pub returns : goal.returns
returns c = short_data_read
