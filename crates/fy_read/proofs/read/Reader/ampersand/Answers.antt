use Rattle.std.proofs.lemmas.Result.{on_ok_weaker}
use Rattle.fy_read.specs.declared.read.Awaited.TheVariants as awaited
use Rattle.fy_read.specs.OpenLevels.{levels_of}
use Rattle.fy_read.specs.OpenTypes.{IsMeetDeep}
use Rattle.fy_read.specs.Readers.{reached}
use Rattle.fy_read.specs.ReadSoFar.{at_piece}
use Rattle.fy_read.specs.Steps.{signed}
use Rattle.fy_read.proofs.MadeLemmas.{fits_after}
use Rattle.fy_read.proofs.ReaderAnswers.{ampersand_fit, ampersand_led, ampersand_read}
use Rattle.fy_read.proofs.PassLemmas.{on_err, ampersand_refused, holds_at}
use Rattle.fy_read.proofs.read.Reader.ampersand.Goals as goal

pub ampersand-requires : goal.ampersand-requires
ampersand-requires c = ampersand_fit c.requires.awaited c.requires.sound

pub returns-clause-led : goal.returns-clause-led
returns-clause-led c =
    on_ok_weaker c.ampersand.result
    (λ e. ampersand_led c.requires.sound c.requires.begun c.requires.loose c.requires.awaited c.ampersand.ensures.same e) c.ampersand.ensures.within

pub returns-clause-misfit : goal.returns-clause-misfit
returns-clause-misfit c =
    fits_after (signed (reached c.args.self.now) 38) (IsMeetDeep (levels_of c.args.self.now.levels)) c.ampersand.result c.ampersand.ensures.err

pub returns-clause-read : goal.returns-clause-read
returns-clause-read c =
    on_ok_weaker c.ampersand.result
    (λ e loose names text h. at_piece c.requires.begun (ampersand_read
    (levels_of c.args.self.now.levels) c.requires.sound.levels c.requires.loose c.requires.awaited c.ampersand.ensures.same h))
    c.ampersand.ensures.within

pub returns-clause-limits : goal.returns-clause-limits
returns-clause-limits c =
    on_err c.ampersand.result
    (λ e p loose names text h. ampersand_refused e (ampersand_fit c.requires.awaited c.requires.sound) p
    (holds_at awaited.Joint c.requires.awaited h))
    c.ampersand.ensures.err
