use Rattle.rv_select.proofs.ItemSteps.{Helpers}
use Rattle.rv_select.proofs.Whole as whole
use Rattle.rv_select.proofs.laws.runs_reach.Goals as goal

pub returns : goal.returns
returns c =
    let help : Helpers =
    record {
      exhausts = c.exhaustion_is_told.ensures;
      puts_ints = c.ints_are_put.ensures;
      puts_truths = c.truths_are_put.ensures;
      makes_frames = c.frames_are_made.ensures;
      unary = c.unary_operators_work.ensures;
      binary = c.binary_operators_work.ensures;
      unary_fits = c.results_fit.ensures.unary;
      binary_fits = c.results_fit.ensures.binary;
      straight = c.straight_code_works.ensures;
      grows = c.word_output_grows.ensures;
    } in
    whole.runs_reach help
