use Rattle.fy_sample.proofs.SampleLemmas.{sample_is_short}
use Rattle.fy_sample.proofs.laws.samples_are_short.Goals as goal

pub returns : goal.returns
returns c = sample_is_short
