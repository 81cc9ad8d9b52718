use Rattle.std.proofs.Common.{◌-◌, [], ◌∷◌, refl, sym}
use Rattle.std.specs.Prelude.{false}
use Rattle.std.proofs.lemmas.Result.{on_ok_weaker}
use Rattle.fy_read.specs.Readers.{reached}
use Rattle.fy_read.specs.ReadSoFar.{at_piece}
use Rattle.fy_read.specs.Steps.{begun_by, lettered, first_digit, signed}
use Rattle.fy_read.proofs.EndLemmas.{sound_loose, begun-letter, begun-no_letter, begun-digit, begun-no_digit, begun-sign}
use Rattle.fy_read.proofs.MadeLemmas.{misfit_same}
use Rattle.fy_read.proofs.PieceAnswers.{blank_led, blank_read, at_loose, led_same}
use Rattle.fy_read.proofs.ReaderAnswers.{read_piece}
use Rattle.fy_read.proofs.PassLemmas.{on_err, plain_passes}
use Rattle.fy_read.proofs.read.Reader.begin_piece.Goals as goal

pub returns-then-is_blank-clause-led : goal.returns-then-is_blank-clause-led
returns-then-is_blank-clause-led c = blank_led c.args.byte c.requires.sound c.requires.begun (sym c.if-is_blank.ensures)

pub returns-then-is_blank-clause-read : goal.returns-then-is_blank-clause-read
returns-then-is_blank-clause-read c =
    λ names text h. at_piece c.requires.begun (blank_read c.args.byte (sym c.if-is_blank.ensures) (read_piece c.requires.begun h))

pub returns-then-behind-clause-misfit : goal.returns-then-behind-clause-misfit
returns-then-behind-clause-misfit c =
    let s = c.args.self.now in
    λ is. begun-no_letter (reached s) s.is_loose c.args.byte (sym c.if-is_blank.ensures) (sym c.if-is_letter.ensures) c.if-behind.true

pub begin_word-requires : goal.begin_word-requires
begin_word-requires c = record {
  sound = sound_loose c.args.self.now.begun false c.requires.begun c.requires.sound;
  begun = c.requires.begun;
  letter = sym c.if-is_letter.ensures;
}

pub returns-then-is_letter-clause-led : goal.returns-then-is_letter-clause-led
returns-then-is_letter-clause-led c =
    let s = c.args.self.now in
    let e = begun-letter (reached s) s.is_loose c.args.byte (sym c.if-is_blank.ensures) (sym c.if-is_letter.ensures) c.if-behind.false in
    on_ok_weaker c.begin_word.result (λ h. led_same (sym e) h) c.begin_word.ensures.led

pub returns-then-is_letter-clause-misfit : goal.returns-then-is_letter-clause-misfit
returns-then-is_letter-clause-misfit c =
    let s = c.args.self.now in
    let e = begun-letter (reached s) s.is_loose c.args.byte (sym c.if-is_blank.ensures) (sym c.if-is_letter.ensures) c.if-behind.false in
    misfit_same (lettered (reached s) (c.args.byte ∷ []))
    (begun_by (reached s) s.is_loose c.args.byte) c.begin_word.result e c.begin_word.ensures.misfit

pub returns-then-is_letter-clause-read : goal.returns-then-is_letter-clause-read
returns-then-is_letter-clause-read c =
    on_ok_weaker c.begin_word.result (λ f names text h. f names text
    (at_loose false c.if-behind.false (read_piece c.requires.begun h))) c.begin_word.ensures.read

pub returns-then-behind-2-clause-misfit : goal.returns-then-behind-2-clause-misfit
returns-then-behind-2-clause-misfit c =
    let s = c.args.self.now in
    λ is. begun-no_digit (reached s) s.is_loose c.args.byte (sym c.if-is_blank.ensures) (sym c.if-is_letter.ensures)
    (sym c.if-is_digit.ensures) c.if-behind-2.true

pub begin_number-requires : goal.begin_number-requires
begin_number-requires c = record {
  sound = sound_loose c.args.self.now.begun false c.requires.begun c.requires.sound;
  begun = c.requires.begun;
  digit = sym c.if-is_digit.ensures;
}

pub returns-then-is_digit-clause-led : goal.returns-then-is_digit-clause-led
returns-then-is_digit-clause-led c =
    let s = c.args.self.now in
    let e = begun-digit (reached s) s.is_loose c.args.byte (sym c.if-is_blank.ensures) (sym c.if-is_letter.ensures)
    (sym c.if-is_digit.ensures) c.if-behind-2.false in
    on_ok_weaker c.begin_number.result (λ h. led_same (sym e) h) c.begin_number.ensures.led

pub returns-then-is_digit-clause-misfit : goal.returns-then-is_digit-clause-misfit
returns-then-is_digit-clause-misfit c =
    let s = c.args.self.now in
    let e = begun-digit (reached s) s.is_loose c.args.byte (sym c.if-is_blank.ensures) (sym c.if-is_letter.ensures)
    (sym c.if-is_digit.ensures) c.if-behind-2.false in
    misfit_same (first_digit (reached s) (c.args.byte - 48)) (begun_by
    (reached s) s.is_loose c.args.byte) c.begin_number.result e c.begin_number.ensures.misfit

pub returns-then-is_digit-clause-read : goal.returns-then-is_digit-clause-read
returns-then-is_digit-clause-read c =
    on_ok_weaker c.begin_number.result (λ f names text h. f names text
    (at_loose false c.if-behind-2.false (read_piece c.requires.begun h))) c.begin_number.ensures.read

pub sign-requires : goal.sign-requires
sign-requires c = record { sound = sound_loose c.args.self.now.begun false c.requires.begun c.requires.sound; begun = c.requires.begun; loose = refl }

pub returns-clause-led : goal.returns-clause-led
returns-clause-led c =
    let s = c.args.self.now in
    let e = begun-sign (reached s) s.is_loose c.args.byte (sym c.if-is_blank.ensures) (sym c.if-is_letter.ensures) (sym c.if-is_digit.ensures) in
    on_ok_weaker c.sign.result (λ h. led_same (sym e) h) c.sign.ensures.led

pub returns-clause-misfit : goal.returns-clause-misfit
returns-clause-misfit c =
    let s = c.args.self.now in
    let e = begun-sign (reached s) s.is_loose c.args.byte (sym c.if-is_blank.ensures) (sym c.if-is_letter.ensures) (sym c.if-is_digit.ensures) in
    misfit_same (signed (reached s) c.args.byte) (begun_by (reached s) s.is_loose c.args.byte) c.sign.result e c.sign.ensures.misfit

pub returns-clause-read : goal.returns-clause-read
returns-clause-read c =
    on_ok_weaker c.sign.result (λ f names text h. f c.args.self.now.is_loose names text (read_piece c.requires.begun h)) c.sign.ensures.read

pub returns-then-is_letter-clause-limits : goal.returns-then-is_letter-clause-limits
returns-then-is_letter-clause-limits c =
    on_err c.begin_word.result (λ e f names text h. f names text
    (at_loose false c.if-behind.false (read_piece c.requires.begun h))) c.begin_word.ensures.limits

pub returns-then-is_digit-clause-limits : goal.returns-then-is_digit-clause-limits
returns-then-is_digit-clause-limits c = on_err c.begin_number.result (λ e p names text h. plain_passes _ e p) c.begin_number.ensures.plain

pub returns-clause-limits : goal.returns-clause-limits
returns-clause-limits c =
    on_err c.sign.result (λ e f names text h. f c.args.self.now.is_loose names text (read_piece c.requires.begun h)) c.sign.ensures.limits
