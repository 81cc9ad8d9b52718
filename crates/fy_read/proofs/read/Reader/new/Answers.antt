use Rattle.std.proofs.Common.{refl}
use Rattle.fy_read.specs.ReadSoFar.{at_piece}
use Rattle.fy_read.proofs.PieceAnswers.{nothing_read}
use Rattle.fy_read.proofs.read.Reader.new.Goals as goal

pub returns-clause-read : goal.returns-clause-read
returns-clause-read c = λ names. at_piece refl (nothing_read names c.new-2.ensures.count c.new-2.ensures.nodes)
