use Rattle.std.proofs.Common.{◌-◌, length, refl, sym, ◌∙◌}
use Rattle.fy_read.specs.Opened.{nodes_of}
use Rattle.fy_read.specs.OpenLevels.{levels_of}
use Rattle.fy_read.proofs.PieceAnswers.{next_led, next_misfit, next_read}
use Rattle.fy_read.proofs.ReaderAnswers.{read_number}
use Rattle.fy_read.proofs.ReaderLemmas.{no_next_digit}
use Rattle.fy_read.proofs.read.Reader.digit.Goals as goal

pub returns-in_default-clause-misfit : goal.returns-in_default-clause-misfit
returns-in_default-clause-misfit c =
    let s = c.args.self.now in λ is. no_next_digit s.awaited (nodes_of s.nodes) (length (levels_of s.levels).outer) c.args.value
    (c.args.byte - 48) c.in_default.not-Count

pub returns-in_default-with_digit-clause-misfit : goal.returns-in_default-with_digit-clause-misfit
returns-in_default-with_digit-clause-misfit c =
    let s = c.args.self.now in
    λ is. next_misfit (nodes_of s.nodes) c.in-Count.counted c.args.value (c.args.byte - 48) (length (levels_of s.levels).outer) c.in-Count.is
    (sym c.in_default-with_digit.is ∙ c.with_digit.ensures)

pub returns-clause-led : goal.returns-clause-led
returns-clause-led c =
    let s = c.args.self.now in
    next_led c.in-Count.counted c.args.value (c.args.byte - 48) c.in-Some.value
    (length (levels_of s.levels).outer) c.requires.sound c.in-Count.is c.in-Some.ensures

pub returns-clause-read : goal.returns-clause-read
returns-clause-read c =
    λ names text h. next_read c.in-Count.counted c.args.byte c.args.value c.in-Some.value c.requires.digit refl c.in-Some.ensures
    (read_number c.args.value c.requires.begun h) (λ done g. g)
