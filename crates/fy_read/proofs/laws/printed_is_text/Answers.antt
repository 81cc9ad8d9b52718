use Rattle.fy_read.proofs.PrintedLemmas as lemmas
use Rattle.fy_read.proofs.laws.printed_is_text.Goals as goal

pub returns : goal.returns
returns c = lemmas.printed_is_text
