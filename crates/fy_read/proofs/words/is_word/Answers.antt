use Rattle.fy_read.proofs.words.is_word.Goals as goal

pub returns : goal.returns
returns c = c.any_is.ensures
