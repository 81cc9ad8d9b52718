use Rattle.fy_read.proofs.CompletionLemmas as lemmas
use Rattle.fy_read.proofs.laws.steps_are_texts.Goals as goal

pub returns : goal.returns
returns c = lemmas.steps_are_texts
