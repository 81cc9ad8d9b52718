use Rattle.std.proofs.Common.{inl, refl, sym}
use Rattle.std.proofs.lemmas.Result.{on_ok_weaker}
use Rattle.fy_read.specs.Readers.{reached, spot_of}
use Rattle.fy_read.specs.Steps.{begun_by, step}
use Rattle.fy_read.proofs.MadeLemmas.{misfit_same}
use Rattle.fy_read.proofs.PieceAnswers.{led_same, piece_step}
use Rattle.fy_read.proofs.PassLemmas.{on_err}
use Rattle.fy_read.proofs.GainLemmas.{ended-piece, ended-number, ended-dash, with-same}
use Rattle.fy_read.proofs.read.Reader.step.Goals as goal

pub returns-in-Nothing-clause-led : goal.returns-in-Nothing-clause-led
returns-in-Nothing-clause-led c =
    let s = c.args.self.now in
    on_ok_weaker c.begin_piece.result (λ h. led_same (sym (piece_step s.letters.items s.is_loose
    (reached s) c.args.byte c.in-Nothing.is)) h) c.begin_piece.ensures.led

pub returns-in-Nothing-clause-misfit : goal.returns-in-Nothing-clause-misfit
returns-in-Nothing-clause-misfit c =
    let s = c.args.self.now in
    misfit_same (begun_by (reached s) s.is_loose c.args.byte) (step (spot_of s) c.args.byte) c.begin_piece.result
    (piece_step s.letters.items s.is_loose (reached s) c.args.byte c.in-Nothing.is) c.begin_piece.ensures.misfit

pub returns-in-Nothing-clause-read : goal.returns-in-Nothing-clause-read
returns-in-Nothing-clause-read c = on_ok_weaker c.begin_piece.result (λ f. f c.args.names.now) c.begin_piece.ensures.read

pub returns-in-Number-clause-read : goal.returns-in-Number-clause-read
returns-in-Number-clause-read c = on_ok_weaker c.step_number.result (λ f. f c.args.names.now) c.step_number.ensures.read

pub returns-in-Dash-clause-read : goal.returns-in-Dash-clause-read
returns-in-Dash-clause-read c = on_ok_weaker c.arrow.result (λ f. f c.args.names.now) c.arrow.ensures.read

pub returns-in-Nothing-clause-limits : goal.returns-in-Nothing-clause-limits
returns-in-Nothing-clause-limits c = on_err c.begin_piece.result (λ e f. f c.args.names.now) c.begin_piece.ensures.limits

pub returns-in-Number-clause-limits : goal.returns-in-Number-clause-limits
returns-in-Number-clause-limits c = on_err c.step_number.result (λ e f. f c.args.names.now) c.step_number.ensures.limits

pub returns-in-Dash-clause-limits : goal.returns-in-Dash-clause-limits
returns-in-Dash-clause-limits c = on_err c.arrow.result (λ e f. f c.args.names.now) c.arrow.ensures.limits

pub returns-in-Nothing-clause-named : goal.returns-in-Nothing-clause-named
returns-in-Nothing-clause-named c =
    let s = c.args.self.now in
    let names = c.args.names.now in
    on_ok_weaker c.begin_piece.result
    (λ h. sym (with-same (spot_of s) c.args.byte names (ended-piece s.letters.items s.is_loose (reached s) names c.in-Nothing.is)))
    c.begin_piece.ensures.led

pub returns-in-Nothing-clause-names : goal.returns-in-Nothing-clause-names
returns-in-Nothing-clause-names c = inl refl

pub returns-in-Number-clause-named : goal.returns-in-Number-clause-named
returns-in-Number-clause-named c =
    let s = c.args.self.now in
    let names = c.args.names.now in
    on_ok_weaker c.step_number.result
    (λ h. sym (with-same (spot_of s) c.args.byte names (ended-number s.letters.items s.is_loose (reached s) c.in-Number.value names c.in-Number.is)))
    c.step_number.ensures.led

pub returns-in-Number-clause-names : goal.returns-in-Number-clause-names
returns-in-Number-clause-names c = inl refl

pub returns-in-Dash-clause-named : goal.returns-in-Dash-clause-named
returns-in-Dash-clause-named c =
    let s = c.args.self.now in
    let names = c.args.names.now in
    on_ok_weaker c.arrow.result
    (λ h. sym (with-same (spot_of s) c.args.byte names (ended-dash s.letters.items s.is_loose (reached s) names c.in-Dash.is)))
    c.arrow.ensures.led

pub returns-in-Dash-clause-names : goal.returns-in-Dash-clause-names
returns-in-Dash-clause-names c = inl refl
