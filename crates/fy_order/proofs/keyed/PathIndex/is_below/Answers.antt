use Rattle.std.proofs.lemmas.Result.{IfOk-weaker}
use Rattle.fy_types.specs.Reading.{plain_paths}
use Rattle.fy_types.proofs.Central.{forms-iff}
use Rattle.fy_order.proofs.keyed.PathIndex.is_below.Goals as goal

pub returns : goal.returns
returns c =
    let same = forms-iff (plain_paths c.args.self.now.form.now) (plain_paths c.args.other.now) in
    IfOk-weaker c.are_indexed_below.result _ _ (λ r both. (λ t. same.1 (both.0 t), λ low. both.1 (same.0 low))) c.are_indexed_below.ensures
