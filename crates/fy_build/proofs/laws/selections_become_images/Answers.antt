use Rattle.fy_build.proofs.SelectedLemmas.{become_images}
use Rattle.fy_build.proofs.laws.selections_become_images.Goals as goal

pub returns : goal.returns
returns c = become_images c.selection_is_disciplined.ensures c.selection_is_short.ensures c.selection_is_counted.ensures c.code_is_short.ensures
