use Rattle.std.proofs.Common.{inl, refl, sym}
use Rattle.std.proofs.lemmas.Result.{on_ok_weaker}
use Rattle.fy_read.specs.Readers.{reached}
use Rattle.fy_read.proofs.MadeLemmas.{on_ok_both}
use Rattle.fy_read.proofs.PieceAnswers.{piece_ended, dash_ended, read_nil}
use Rattle.fy_read.proofs.GainLemmas.{ended-piece, ended-number}
use Rattle.fy_read.proofs.ReaderAnswers.{read_piece}
use Rattle.fy_read.proofs.read.Reader.end.Goals as goal

pub returns-in-Nothing-clause-ended : goal.returns-in-Nothing-clause-ended
returns-in-Nothing-clause-ended c = let s = c.args.self.now in piece_ended s.letters.items s.is_loose (reached s) c.in-Nothing.is

pub returns-in-Nothing-clause-read : goal.returns-in-Nothing-clause-read
returns-in-Nothing-clause-read c = λ text h. record { loose = c.args.self.now.is_loose; holds = read_piece c.in-Nothing.is h }

pub returns-in-Word-clause-ended : goal.returns-in-Word-clause-ended
returns-in-Word-clause-ended c = on_ok_weaker c.end_word.result (λ t. t.at) c.end_word.ensures.ended

pub returns-in-Word-clause-read : goal.returns-in-Word-clause-read
returns-in-Word-clause-read c =
    on_ok_both c.end_word.result
    (λ t f text h. record {
      loose = c.end_word.new.self.is_loose;
      holds = read_piece t.nothing
          (read_nil (f text h));
    }) c.end_word.ensures.ended c.end_word.ensures.read

pub returns-in-Number-clause-ended : goal.returns-in-Number-clause-ended
returns-in-Number-clause-ended c = on_ok_weaker c.end_number.result (λ t. t.at) c.end_number.ensures.ended

pub returns-in-Number-clause-read : goal.returns-in-Number-clause-read
returns-in-Number-clause-read c =
    on_ok_both c.end_number.result
    (λ t f text h. record {
      loose = c.end_number.new.self.is_loose;
      holds = read_piece t.nothing
          (read_nil (f c.args.names.now text h));
    }) c.end_number.ensures.ended c.end_number.ensures.read

pub returns-in-Dash-clause-misfit : goal.returns-in-Dash-clause-misfit
returns-in-Dash-clause-misfit c = let s = c.args.self.now in λ is. dash_ended s.letters.items s.is_loose (reached s) c.in-Dash.is

pub returns-in-Nothing-clause-named : goal.returns-in-Nothing-clause-named
returns-in-Nothing-clause-named c =
    let s = c.args.self.now in sym (ended-piece s.letters.items s.is_loose (reached s) c.args.names.now c.in-Nothing.is)

pub returns-in-Nothing-clause-names : goal.returns-in-Nothing-clause-names
returns-in-Nothing-clause-names c = inl refl

pub returns-in-Number-clause-named : goal.returns-in-Number-clause-named
returns-in-Number-clause-named c =
    let s = c.args.self.now in
    on_ok_weaker c.end_number.result
    (λ h. sym (ended-number s.letters.items s.is_loose (reached s) c.in-Number.value c.args.names.now c.in-Number.is)) c.end_number.ensures.ended

pub returns-in-Number-clause-names : goal.returns-in-Number-clause-names
returns-in-Number-clause-names c = inl refl

pub returns-in-Dash-clause-names : goal.returns-in-Dash-clause-names
returns-in-Dash-clause-names c = inl refl
