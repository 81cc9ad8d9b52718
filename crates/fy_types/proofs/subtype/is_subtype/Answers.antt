use Rattle.fy_types.specs.Reading.{plain_paths}
use Rattle.fy_types.proofs.Central.{forms-iff}
use Rattle.fy_types.proofs.subtype.is_subtype.Goals as goal

pub returns : goal.returns
returns c =
    let same = forms-iff (plain_paths c.args.a.now) (plain_paths c.args.b.now) in
    (λ t. same.1 (c.are_paths_below.ensures.0 t), λ low. c.are_paths_below.ensures.1 (same.0 low))
