use Rattle.std.proofs.Common.{inl, inr, [], ◌∷◌, ◌++◌, refl, sym, ◌∙◌}
use Rattle.std.proofs.lemmas.Result.{on_ok_weaker, err_from_is_err_and}
use Rattle.fy_read.specs.Readers.{reached, spot_of}
use Rattle.fy_read.specs.Steps.{begun_by, lettered, step}
use Rattle.fy_read.proofs.EndLemmas.{sound_begun, word_goes_on}
use Rattle.fy_read.proofs.MadeLemmas.{misfit_same}
use Rattle.fy_read.proofs.PieceAnswers.{led_same, word_goes, word_then, read_nil}
use Rattle.fy_read.proofs.PassLemmas.{on_err, plain_passes}
use Rattle.fy_read.proofs.GainLemmas.{with-goes_on, with-behind, or_stays}
use Rattle.fy_read.proofs.read.Reader.step_word.Goals as goal

pub letter-requires : goal.letter-requires
letter-requires c =
    let s = c.args.self.now in
    record {
      waiting = c.requires.sound.waiting;
      unfinished = c.requires.sound.unfinished;
      begun = word_goes_on c.args.byte (sym c.if-is_name_byte.ensures) (sound_begun c.requires.begun c.requires.sound);
      levels = c.requires.sound.levels;
      word = c.requires.begun;
    }

pub returns-then-is_name_byte-clause-led : goal.returns-then-is_name_byte-clause-led
returns-then-is_name_byte-clause-led c =
    let s = c.args.self.now in
    let e = word_goes s.letters.items s.is_loose (reached s) c.args.byte c.requires.begun (sym c.if-is_name_byte.ensures) in
    on_ok_weaker c.letter.result (λ h. led_same (sym e) h) c.letter.ensures.led

pub returns-then-is_name_byte-clause-misfit : goal.returns-then-is_name_byte-clause-misfit
returns-then-is_name_byte-clause-misfit c =
    let s = c.args.self.now in
    let e = word_goes s.letters.items s.is_loose (reached s) c.args.byte c.requires.begun (sym c.if-is_name_byte.ensures) in
    misfit_same (lettered (reached s) (s.letters.items ++ c.args.byte ∷ [])) (step (spot_of s) c.args.byte) c.letter.result e c.letter.ensures.misfit

pub returns-then-is_name_byte-clause-read : goal.returns-then-is_name_byte-clause-read
returns-then-is_name_byte-clause-read c = on_ok_weaker c.letter.result (λ f. f c.args.names.now) c.letter.ensures.read

pub begin_piece-requires : goal.begin_piece-requires
begin_piece-requires c = record { sound = c.in_ok-end_word.ensures.ended.sound; begun = c.in_ok-end_word.ensures.ended.nothing }

pub returns-clause-led : goal.returns-clause-led
returns-clause-led c =
    let s = c.args.self.now in
    let t = c.in_ok-end_word.ensures.ended in
    let e = word_then s.letters.items s.is_loose (reached s) c.args.byte c.requires.begun (sym c.if-is_name_byte.ensures) t.at t.behind in
    on_ok_weaker c.begin_piece.result (λ h. led_same (sym e) h) c.begin_piece.ensures.led

pub returns-clause-misfit : goal.returns-clause-misfit
returns-clause-misfit c =
    let s = c.args.self.now in
    let m = c.end_word.new.self in
    let t = c.in_ok-end_word.ensures.ended in
    let e = word_then s.letters.items s.is_loose (reached s) c.args.byte c.requires.begun (sym c.if-is_name_byte.ensures) t.at t.behind in
    misfit_same (begun_by (reached m) m.is_loose c.args.byte) (step (spot_of s) c.args.byte) c.begin_piece.result e c.begin_piece.ensures.misfit

pub returns-clause-read : goal.returns-clause-read
returns-clause-read c =
    on_ok_weaker c.begin_piece.result (λ f text h. f c.end_word.new.names text
    (read_nil (c.in_ok-end_word.ensures.read text h))) c.begin_piece.ensures.read

pub end_word-requires-clause-shallow : goal.end_word-requires-clause-shallow
end_word-requires-clause-shallow c = c.requires.shallow (sym c.if-is_name_byte.ensures)

pub returns-then-is_name_byte-clause-limits : goal.returns-then-is_name_byte-clause-limits
returns-then-is_name_byte-clause-limits c = on_err c.letter.result (λ e f. f c.args.names.now) c.letter.ensures.limits

pub returns-in_err-end_word-clause-limits : goal.returns-in_err-end_word-clause-limits
returns-in_err-end_word-clause-limits c =
    let p = err_from_is_err_and c.from_residual.result c.from_residual.ensures.1 in
    rw (p.1, p.2) (λ text h. plain_passes _ _ c.in_err-end_word.ensures.plain)

pub returns-clause-limits : goal.returns-clause-limits
returns-clause-limits c =
    on_err c.begin_piece.result (λ e f text h. f c.end_word.new.names text
    (read_nil (c.in_ok-end_word.ensures.read text h))) c.begin_piece.ensures.limits

pub returns-then-is_name_byte-clause-named : goal.returns-then-is_name_byte-clause-named
returns-then-is_name_byte-clause-named c =
    on_ok_weaker c.letter.result
    (λ h. sym (with-goes_on (spot_of c.args.self.now) c.args.byte c.args.names.now (sym c.if-is_name_byte.ensures))) c.letter.ensures.led

pub returns-then-is_name_byte-clause-names : goal.returns-then-is_name_byte-clause-names
returns-then-is_name_byte-clause-names c = inl refl

pub returns-in_err-end_word-clause-names : goal.returns-in_err-end_word-clause-names
returns-in_err-end_word-clause-names c =
    or_stays (sym (with-behind (spot_of c.args.self.now) c.args.byte c.args.names.now (sym c.if-is_name_byte.ensures)))
    c.in_err-end_word.ensures.names

pub returns-clause-named : goal.returns-clause-named
returns-clause-named c =
    on_ok_weaker c.begin_piece.result
    (λ h. c.in_ok-end_word.ensures.named
    ∙ sym (with-behind (spot_of c.args.self.now) c.args.byte c.args.names.now (sym c.if-is_name_byte.ensures)))
    c.begin_piece.ensures.led

pub returns-clause-names : goal.returns-clause-names
returns-clause-names c =
    inr (c.in_ok-end_word.ensures.named
    ∙ sym (with-behind (spot_of c.args.self.now) c.args.byte c.args.names.now (sym c.if-is_name_byte.ensures)))
