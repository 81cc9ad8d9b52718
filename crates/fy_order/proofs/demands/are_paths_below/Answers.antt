use Rattle.std.proofs.lemmas.Result.{IfOk-weaker}
use Rattle.fy_types.specs.Reading.{plain_paths}
use Rattle.fy_order.proofs.DemandLemmas.{below-test}
use Rattle.fy_order.proofs.demands.are_paths_below.Goals as goal

pub returns : goal.returns
returns c =
    IfOk-weaker c.is_form_below.result _ _ (λ r both. below-test r (plain_paths c.args.a.now) (plain_paths c.args.b.now) both) c.is_form_below.ensures
