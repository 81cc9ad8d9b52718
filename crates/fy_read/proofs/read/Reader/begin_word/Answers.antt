use Rattle.std.proofs.Common.{[], ◌∷◌, ◌++◌, length, refl, sym, ap, ◌∙◌}
use Rattle.std.proofs.lemmas.List.{append-nil}
use Rattle.std.proofs.lemmas.Result.{on_ok_weaker}
use Rattle.fy_read.specs.Opened.{nodes_of}
use Rattle.fy_read.specs.OpenLevels.{levels_of}
use Rattle.fy_read.specs.Readers.{reached}
use Rattle.fy_read.specs.ReadSoFar.{in_word}
use Rattle.fy_read.specs.Steps.{lettered}
use Rattle.fy_read.proofs.MadeLemmas.{misfit_same}
use Rattle.fy_read.proofs.PieceAnswers.{word_begins, led_same}
use Rattle.fy_read.proofs.ReaderLemmas.{takes_none}
use Rattle.fy_read.proofs.PassLemmas.{on_err}
use Rattle.fy_read.proofs.read.Reader.begin_word.Goals as goal

pub returns-then-not-takes_word-clause-misfit : goal.returns-then-not-takes_word-clause-misfit
returns-then-not-takes_word-clause-misfit c =
    let s = c.args.self.now in
    λ is. takes_none s.awaited (nodes_of s.nodes) (length (levels_of s.levels).outer) (c.args.byte ∷ []) (sym c.takes_word.ensures
    ∙ c.if-not-takes_word.true)

pub letter-requires : goal.letter-requires
letter-requires c =
    let s = c.args.self.now in
    record {
      waiting = c.requires.sound.waiting;
      unfinished = c.requires.sound.unfinished;
      begun = word_begins s.awaited (nodes_of s.nodes) c.clear.new.self.items c.args.byte c.clear.ensures.items (sym c.takes_word.ensures
          ∙ c.if-not-takes_word.false) c.requires.letter;
      levels = c.requires.sound.levels;
      word = refl;
    }

pub returns-clause-led : goal.returns-clause-led
returns-clause-led c =
    let s = c.args.self.now in
    on_ok_weaker c.letter.result (λ h. led_same (ap (λ w. lettered (reached s) (w ++ c.args.byte ∷ [])) c.clear.ensures.items) h) c.letter.ensures.led

pub returns-clause-misfit : goal.returns-clause-misfit
returns-clause-misfit c =
    let s = c.args.self.now in
    misfit_same (lettered (reached s) (c.clear.new.self.items ++ c.args.byte ∷ [])) (lettered (reached s) (c.args.byte ∷ [])) c.letter.result
    (ap (λ w. lettered (reached s) (w ++ c.args.byte ∷ [])) (sym c.clear.ensures.items)) c.letter.ensures.misfit

pub returns-clause-read : goal.returns-clause-read
returns-clause-read c =
    on_ok_weaker c.letter.result
    (λ f names text h. f names text (in_word refl (record {
      done = text;
      is = sym (append-nil text)
          ∙ ap (λ w. text ++ w) (sym c.clear.ensures.items);
      holds = h;
    })))
    c.letter.ensures.read

pub returns-clause-limits : goal.returns-clause-limits
returns-clause-limits c =
    on_err c.letter.result
    (λ e f names text h. f names text (in_word refl (record {
      done = text;
      is = sym (append-nil text)
          ∙ ap (λ w. text ++ w) (sym c.clear.ensures.items);
      holds = h;
    })))
    c.letter.ensures.limits
