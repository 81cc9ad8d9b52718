use Rattle.rv_machine.proofs.Fetching.{no_word}
use Rattle.rv_machine.proofs.laws.fetch_traps_have_no_word.Goals as goal

pub returns : goal.returns
returns c = no_word
