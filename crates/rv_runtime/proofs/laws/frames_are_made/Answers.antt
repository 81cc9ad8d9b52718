use Rattle.rv_runtime.proofs.Frames.{frames_are_made}
use Rattle.rv_runtime.proofs.laws.frames_are_made.Goals as goal

pub returns : goal.returns
returns c = frames_are_made
