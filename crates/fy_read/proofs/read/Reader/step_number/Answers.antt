use Rattle.std.proofs.Common.{◌-◌, sym}
use Rattle.std.proofs.lemmas.Result.{on_ok_weaker, err_from_is_err_and}
use Rattle.fy_read.specs.Readers.{reached, spot_of}
use Rattle.fy_read.specs.Steps.{begun_by, next_digit, step}
use Rattle.fy_read.proofs.MadeLemmas.{misfit_same}
use Rattle.fy_read.proofs.PieceAnswers.{led_same, number_goes, number_then, read_nil}
use Rattle.fy_read.proofs.PassLemmas.{on_err, plain_passes}
use Rattle.fy_read.proofs.read.Reader.step_number.Goals as goal

pub digit-requires : goal.digit-requires
digit-requires c = record { sound = c.requires.sound; digit = sym c.if-is_digit.ensures; begun = c.requires.begun }

pub returns-then-is_digit-clause-led : goal.returns-then-is_digit-clause-led
returns-then-is_digit-clause-led c =
    let s = c.args.self.now in
    let e = number_goes s.letters.items s.is_loose (reached s) c.args.value c.args.byte c.requires.begun (sym c.if-is_digit.ensures) in
    on_ok_weaker c.digit.result (λ h. led_same (sym e) h) c.digit.ensures.led

pub returns-then-is_digit-clause-misfit : goal.returns-then-is_digit-clause-misfit
returns-then-is_digit-clause-misfit c =
    let s = c.args.self.now in
    let e = number_goes s.letters.items s.is_loose (reached s) c.args.value c.args.byte c.requires.begun (sym c.if-is_digit.ensures) in
    misfit_same (next_digit (reached s) c.args.value (c.args.byte - 48)) (step (spot_of s) c.args.byte) c.digit.result e c.digit.ensures.misfit

pub begin_piece-requires : goal.begin_piece-requires
begin_piece-requires c = record { sound = c.in_ok-end_number.ensures.ended.sound; begun = c.in_ok-end_number.ensures.ended.nothing }

pub returns-clause-led : goal.returns-clause-led
returns-clause-led c =
    let s = c.args.self.now in
    let t = c.in_ok-end_number.ensures.ended in
    let e = number_then s.letters.items s.is_loose (reached s) c.args.value c.args.byte c.requires.begun (sym c.if-is_digit.ensures) t.at t.behind in
    on_ok_weaker c.begin_piece.result (λ h. led_same (sym e) h) c.begin_piece.ensures.led

pub returns-clause-misfit : goal.returns-clause-misfit
returns-clause-misfit c =
    let s = c.args.self.now in
    let m = c.end_number.new.self in
    let t = c.in_ok-end_number.ensures.ended in
    let e = number_then s.letters.items s.is_loose (reached s) c.args.value c.args.byte c.requires.begun (sym c.if-is_digit.ensures) t.at t.behind in
    misfit_same (begun_by (reached m) m.is_loose c.args.byte) (step (spot_of s) c.args.byte) c.begin_piece.result e c.begin_piece.ensures.misfit

pub returns-clause-read : goal.returns-clause-read
returns-clause-read c =
    on_ok_weaker c.begin_piece.result
    (λ f names text h. f names text (read_nil (c.in_ok-end_number.ensures.read names text h))) c.begin_piece.ensures.read

pub returns-then-is_digit-clause-limits : goal.returns-then-is_digit-clause-limits
returns-then-is_digit-clause-limits c = on_err c.digit.result (λ e p names text h. plain_passes _ e p) c.digit.ensures.plain

pub returns-in_err-end_number-clause-limits : goal.returns-in_err-end_number-clause-limits
returns-in_err-end_number-clause-limits c =
    let p = err_from_is_err_and c.from_residual.result c.from_residual.ensures.1 in
    rw (p.1, p.2) (λ names text h. plain_passes _ _ c.in_err-end_number.ensures.plain)

pub returns-clause-limits : goal.returns-clause-limits
returns-clause-limits c =
    on_err c.begin_piece.result (λ e f names text h. f names text
    (read_nil (c.in_ok-end_number.ensures.read names text h))) c.begin_piece.ensures.limits
