use Rattle.std.proofs.lemmas.Result.{IfOk-weaker}
use Rattle.fy_types.specs.Reading.{plain_type}
use Rattle.fy_types.proofs.Central.{subtype-iff}
use Rattle.fy_types.proofs.below.is_below.Goals as goal

pub returns : goal.returns
returns c =
    let same = subtype-iff (plain_type c.args.a.now) (plain_type c.args.b.now) in
    IfOk-weaker c.is_one_below.result _ _ (λ r both. (λ t. same.1 (both.0 t), λ low. both.1 (same.0 low))) c.is_one_below.ensures
