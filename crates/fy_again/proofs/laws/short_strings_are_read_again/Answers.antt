use Rattle.fy_again.proofs.LiteralLemmas.{short_strings_read}
use Rattle.fy_again.proofs.laws.short_strings_are_read_again.Goals as goal

pub returns : goal.returns
returns c = short_strings_read
