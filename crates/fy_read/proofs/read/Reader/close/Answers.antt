use Rattle.std.proofs.Common.{length}
use Rattle.std.proofs.lemmas.Result.{on_ok_weaker}
use Rattle.fy_read.specs.Opened.{nodes_of}
use Rattle.fy_read.specs.OpenLevels.{levels_of}
use Rattle.fy_read.specs.Readers.{reached}
use Rattle.fy_read.specs.ReadSoFar.{at_piece}
use Rattle.fy_read.specs.Steps.{signed}
use Rattle.fy_read.proofs.MadeLemmas.{memory_after}
use Rattle.fy_read.proofs.ReaderAnswers.{ampersand_fit, close_led, close_read, close_misfit, is_some_open, is_none_open}
use Rattle.fy_read.proofs.PassLemmas.{memory_plain}
use Rattle.fy_read.proofs.read.Reader.close.Goals as goal

pub close-requires : goal.close-requires
close-requires c = record {
  levels = ampersand_fit c.requires.awaited c.requires.sound;
  «open» = is_some_open (levels_of c.args.self.now.levels) c.is_open.ensures c.if-not-is_open.false;
}

pub returns-then-not-is_open-clause-misfit : goal.returns-then-not-is_open-clause-misfit
returns-then-not-is_open-clause-misfit c =
    let Ls = levels_of c.args.self.now.levels in λ is. close_misfit (nodes_of c.args.self.now.nodes) (length Ls.outer) c.requires.awaited
    (is_none_open Ls c.is_open.ensures c.if-not-is_open.true)

pub returns-clause-led : goal.returns-clause-led
returns-clause-led c =
    on_ok_weaker c.close.result
    (λ e. close_led c.requires.sound c.requires.begun c.requires.loose c.requires.awaited
    (is_some_open (levels_of c.args.self.now.levels) c.is_open.ensures c.if-not-is_open.false) e)
    c.close.ensures.ok

pub returns-clause-misfit : goal.returns-clause-misfit
returns-clause-misfit c = memory_after (signed (reached c.args.self.now) 41) c.close.result c.close.ensures.err

pub returns-clause-read : goal.returns-clause-read
returns-clause-read c =
    on_ok_weaker c.close.result
    (λ e loose names text h. at_piece c.requires.begun
    (close_read (levels_of c.args.self.now.levels) (ampersand_fit c.requires.awaited c.requires.sound) c.requires.loose c.requires.awaited
    (is_some_open (levels_of c.args.self.now.levels) c.is_open.ensures c.if-not-is_open.false) e h))
    c.close.ensures.ok

pub returns-clause-plain : goal.returns-clause-plain
returns-clause-plain c = memory_plain c.close.result c.close.ensures.err
