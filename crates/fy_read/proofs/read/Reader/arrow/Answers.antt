use Rattle.std.proofs.Common.{length, refl}
use Rattle.std.proofs.lemmas.Result.{on_ok_weaker}
use Rattle.fy_read.specs.declared.read.Awaited.TheVariants as awaited
use Rattle.fy_read.specs.Opened.{nodes_of}
use Rattle.fy_read.specs.OpenLevels.{levels_of}
use Rattle.fy_read.specs.OpenTypes.{IsArrowDeep}
use Rattle.fy_read.specs.Readers.{spot_of}
use Rattle.fy_read.specs.ReadSoFar.{at_piece}
use Rattle.fy_read.specs.Steps.{step}
use Rattle.fy_read.proofs.MadeLemmas.{fits_after, on_ok_both}
use Rattle.fy_read.proofs.ReaderAnswers.{ampersand_fit, dash_begun, arrow_led, arrow_misfit, arrow_read, read_dash}
use Rattle.fy_read.proofs.PassLemmas.{on_err, passes_with, passes_same, dashed, arrow_refused, holds_at}
use Rattle.fy_read.proofs.read.Reader.arrow.Goals as goal

pub returns-then-byte-ne62-clause-misfit : goal.returns-then-byte-ne62-clause-misfit
returns-then-byte-ne62-clause-misfit c =
    let s = c.args.self.now in λ is. arrow_misfit s.awaited s.letters.items s.is_loose (nodes_of s.nodes)
    (length (levels_of c.args.self.now.levels).outer) c.requires.begun c.if-byte-ne62.true

pub arrow-requires : goal.arrow-requires
arrow-requires c = ampersand_fit (dash_begun c.requires.sound c.requires.begun).0 c.requires.sound

pub returns-clause-led : goal.returns-clause-led
returns-clause-led c =
    on_ok_both c.arrow.result
    (λ e within. arrow_led c.requires.sound c.requires.begun c.if-byte-ne62.false e within) c.arrow.ensures.ok c.arrow.ensures.within

pub returns-clause-misfit : goal.returns-clause-misfit
returns-clause-misfit c =
    fits_after (step (spot_of c.args.self.now) c.args.byte) (IsArrowDeep (levels_of c.args.self.now.levels)) c.arrow.result c.arrow.ensures.err

pub returns-clause-read : goal.returns-clause-read
returns-clause-read c =
    let t = dash_begun c.requires.sound c.requires.begun in
    on_ok_weaker c.arrow.result
    (λ e names text h. let d = read_dash c.requires.begun h in
    at_piece refl
    (arrow_read d.done (levels_of c.args.self.now.levels) (ampersand_fit t.0 c.requires.sound) t.0 t.1 c.if-byte-ne62.false e d.is d.holds))
    c.arrow.ensures.ok

pub returns-clause-limits : goal.returns-clause-limits
returns-clause-limits c =
    let t = dash_begun c.requires.sound c.requires.begun in
    on_err c.arrow.result
    (λ e p names text h. let d = read_dash c.requires.begun h in
    passes_with e text c.if-byte-ne62.false (passes_same e (dashed d.done d.is) (arrow_refused e p (holds_at awaited.Joint t.0 d.holds))))
    c.arrow.ensures.err
