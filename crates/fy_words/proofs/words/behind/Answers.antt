use Rattle.fy_words.proofs.WordLemmas.{behind_is}
use Rattle.fy_words.proofs.words.behind.Goals as goal

pub returns : goal.returns
returns c = behind_is c.args.key.now c.args.word.now c.strip_prefix.result c.strip_prefix.ensures.cases
