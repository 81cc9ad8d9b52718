use Rattle.fy_again.proofs.ShortLemmas.{short_types_read}
use Rattle.fy_again.proofs.laws.short_types_are_read_again.Goals as goal

pub returns : goal.returns
returns c = short_types_read
