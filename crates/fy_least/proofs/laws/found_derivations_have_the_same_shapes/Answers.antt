use Rattle.fy_least.proofs.PairLemmas.{same-shapes}
use Rattle.fy_least.proofs.laws.found_derivations_have_the_same_shapes.Goals as goal

pub returns : goal.returns
returns c = record { same = same-shapes }
