use Rattle.std.proofs.Common.{◌≤◌, length}
use Rattle.std.proofs.lemmas.Result.{on_ok_weaker}
use Rattle.fy_read.specs.declared.read.Awaited.TheVariants as awaited
use Rattle.fy_read.specs.Opened.{nodes_of}
use Rattle.fy_read.specs.OpenLevels.{levels_of}
use Rattle.fy_read.specs.Readers.{reached}
use Rattle.fy_read.specs.ReadSoFar.{at_piece}
use Rattle.fy_read.specs.Refusals.{most_open_parens}
use Rattle.fy_read.specs.Steps.{signed}
use Rattle.fy_read.proofs.MadeLemmas.{fits_after, on_ok_both}
use Rattle.fy_read.proofs.ReaderAnswers.{paren_led, paren_misfit, paren_read}
use Rattle.fy_read.proofs.PassLemmas.{on_err, passes_with, paren_refused, holds_at}
use Rattle.fy_read.proofs.read.Reader.paren.Goals as goal

pub returns-then-byte-ne40-clause-misfit : goal.returns-then-byte-ne40-clause-misfit
returns-then-byte-ne40-clause-misfit c =
    λ is. paren_misfit (nodes_of c.args.self.now.nodes) (length (levels_of c.args.self.now.levels).outer) c.requires.awaited c.if-byte-ne40.true

pub returns-clause-led : goal.returns-clause-led
returns-clause-led c =
    on_ok_weaker c.open.result
    (λ e. paren_led c.requires.sound c.requires.begun c.requires.loose c.requires.awaited c.if-byte-ne40.false e) c.open.ensures.ok

pub returns-clause-misfit : goal.returns-clause-misfit
returns-clause-misfit c =
    fits_after (signed (reached c.args.self.now) c.args.byte) (most_open_parens ≤ length
    (levels_of c.args.self.now.levels).outer) c.open.result c.open.ensures.err

pub returns-clause-read : goal.returns-clause-read
returns-clause-read c =
    on_ok_both c.open.result
    (λ e few loose names text h. at_piece c.requires.begun (paren_read
    (levels_of c.args.self.now.levels) c.requires.loose c.requires.awaited c.if-byte-ne40.false e few h))
    c.open.ensures.ok c.open.ensures.within

pub returns-clause-limits : goal.returns-clause-limits
returns-clause-limits c =
    on_err c.open.result
    (λ e p loose names text h. passes_with e text c.if-byte-ne40.false (paren_refused e p (holds_at awaited.Part c.requires.awaited h)))
    c.open.ensures.err
