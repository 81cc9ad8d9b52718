use Rattle.std.proofs.Common.{length, refl, ap, ◌∙◌}
use Rattle.std.proofs.lemmas.Result.{on_ok_weaker, err_from_is_err_and}
use Rattle.fy_types.specs.Reading.{plain_type}
use Rattle.fy_read.specs.Opened.{nodes_of}
use Rattle.fy_read.specs.OpenLevels.{levels_of}
use Rattle.fy_read.specs.OpenTypes.{whole_type}
use Rattle.fy_read.specs.Readers.{reached}
use Rattle.fy_read.specs.ReadSoFar.{at_piece}
use Rattle.fy_read.specs.Steps.{signed}
use Rattle.fy_read.proofs.MadeLemmas.{memory_after}
use Rattle.fy_read.proofs.ReaderAnswers.{ampersand_fit, is_some_open, is_none_open, end_misfit, end_led, end_read}
use Rattle.fy_read.proofs.PassLemmas.{memory_plain, memory_stop}
use Rattle.fy_read.proofs.read.Reader.end_type.Goals as goal

pub returns-then-is_open-clause-misfit : goal.returns-then-is_open-clause-misfit
returns-then-is_open-clause-misfit c =
    let Ls = levels_of c.args.self.now.levels in λ is. end_misfit (nodes_of c.args.self.now.nodes) (length Ls.outer) c.requires.awaited
    (is_some_open Ls c.if-is_open.ensures refl)

pub returns-clause-led : goal.returns-clause-led
returns-clause-led c =
    let Ls = levels_of c.args.self.now.levels in
    on_ok_weaker c.open.result
    (λ e. end_led (plain_type c.in_ok-into_type.field-0) c.requires.sound c.requires.begun c.requires.loose c.requires.awaited
    (is_none_open Ls c.if-is_open.ensures refl) e)
    c.open.ensures.ok

pub returns-clause-misfit : goal.returns-clause-misfit
returns-clause-misfit c = memory_after (signed (reached c.args.self.now) 93) c.open.result c.open.ensures.err

pub returns-clause-read : goal.returns-clause-read
returns-clause-read c =
    let Ls = levels_of c.args.self.now.levels in
    on_ok_weaker c.open.result
    (λ e loose names text h. at_piece c.requires.begun
    (end_read Ls (plain_type c.in_ok-into_type.field-0) c.open.ensures.count
    (ampersand_fit c.requires.awaited c.requires.sound) c.requires.sound.unfinished c.requires.loose c.requires.awaited
    (is_none_open Ls c.if-is_open.ensures refl)
    (c.in_ok-into_type.ensures.ok ∙ ap (λ ls. whole_type (levels_of ls).inner) c.replace-levels.ensures.value) e h))
    c.open.ensures.ok

pub returns-in_err-into_type-clause-plain : goal.returns-in_err-into_type-clause-plain
returns-in_err-into_type-clause-plain c =
    let p = err_from_is_err_and c.from_residual.result c.from_residual.ensures.1 in
    rw (p.1, p.2) (memory_stop _ c.in_err-into_type.ensures.err)

pub returns-clause-plain : goal.returns-clause-plain
returns-clause-plain c = memory_plain c.open.result c.open.ensures.err
