use Rattle.std.proofs.Common.{◌++◌, length}
use Rattle.fy_link.specs.UnitBytes.{word}
use Rattle.fy_link.proofs.bytes.split.Goals as goal

pub returns-in_default-clause-none : goal.returns-in_default-clause-none
returns-in_default-clause-none c = λ source text h. c.in_default.ensures (word (length source) ++ (source ++ text)) h.is
