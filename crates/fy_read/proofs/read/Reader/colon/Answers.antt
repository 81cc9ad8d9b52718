use Rattle.std.proofs.Common.{length}
use Rattle.fy_read.specs.Opened.{nodes_of}
use Rattle.fy_read.specs.OpenLevels.{levels_of}
use Rattle.fy_read.specs.ReadSoFar.{at_piece}
use Rattle.fy_read.proofs.ReaderAnswers.{colon_led, colon_misfit, colon_read}
use Rattle.fy_read.proofs.read.Reader.colon.Goals as goal

pub returns-then-byte-ne58-clause-misfit : goal.returns-then-byte-ne58-clause-misfit
returns-then-byte-ne58-clause-misfit c =
    λ is. colon_misfit (nodes_of c.args.self.now.nodes) (length (levels_of c.args.self.now.levels).outer) c.requires.awaited c.if-byte-ne58.true

pub returns-clause-led : goal.returns-clause-led
returns-clause-led c = colon_led c.requires.sound c.requires.begun c.requires.loose c.requires.awaited c.if-byte-ne58.false

pub returns-clause-read : goal.returns-clause-read
returns-clause-read c =
    λ loose names text h. at_piece c.requires.begun
    (colon_read (levels_of c.args.self.now.levels) c.requires.loose c.requires.awaited c.if-byte-ne58.false h)
