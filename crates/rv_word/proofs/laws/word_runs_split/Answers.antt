use Rattle.rv_word.proofs.Runs.{led_splits}
use Rattle.rv_word.proofs.laws.word_runs_split.Goals as goal

pub returns : goal.returns
returns c = led_splits
