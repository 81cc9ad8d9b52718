use Rattle.fy_causes.proofs.BlameLemmas.{blamed-place}
use Rattle.fy_causes.proofs.laws.blamed_phrases_stand_at_their_places.Goals as goal

pub returns : goal.returns
returns c = blamed-place
