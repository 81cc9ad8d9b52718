use Rattle.fy_derive.proofs.SubsumptionLemmas.{is_below-iff}
use Rattle.fy_derive.proofs.SoundLemmas.{judged-sound}
use Rattle.fy_derive.proofs.CompleteLemmas.{typed-derived}
use Rattle.fy_derive.proofs.laws.judging_is_typing.Goals as goal

pub returns-clause-sound : goal.returns-clause-sound
returns-clause-sound c = judged-sound

pub returns-clause-complete : goal.returns-clause-complete
returns-clause-complete c = λ G p A h. typed-derived h

pub returns-clause-subsumption : goal.returns-clause-subsumption
returns-clause-subsumption c = is_below-iff
