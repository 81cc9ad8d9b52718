use Rattle.rv_runtime.proofs.Copying.{displays_are_copied}
use Rattle.rv_runtime.proofs.laws.displays_are_copied.Goals as goal

pub returns : goal.returns
returns c = displays_are_copied
