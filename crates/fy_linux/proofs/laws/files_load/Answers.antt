use Rattle.fy_linux.proofs.Loads.{image_loads}
use Rattle.fy_linux.proofs.laws.files_load.Goals as goal

pub returns : goal.returns
returns c = image_loads
