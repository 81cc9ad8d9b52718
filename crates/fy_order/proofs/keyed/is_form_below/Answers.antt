use Rattle.std.proofs.Common.{refl, subst}
use Rattle.std.proofs.lemmas.Result.{IfOk-weaker}
use Rattle.fy_types.specs.Paths.{type_of_paths}
use Rattle.fy_types.specs.Reading.{plain_paths, type_of_form}
use Rattle.fy_types.specs.Subtyping.{IsSubtype, same}
use Rattle.fy_types.proofs.Central.{forms-iff}
use Rattle.fy_order.proofs.keyed.is_form_below.Goals as goal

pub returns-then-are_same_paths : goal.returns-then-are_same_paths
returns-then-are_same_paths c =
    let equal = c.are_same_paths.ensures.0 c.if-are_same_paths.true in
    (λ r. subst (λ P. IsSubtype (type_of_form c.args.a.now) (type_of_paths P)) equal same, λ below. refl)

pub returns : goal.returns
returns c =
    let same = forms-iff (plain_paths c.args.a.now) (plain_paths c.args.b.now) in
    IfOk-weaker c.are_paths_below.result _ _ (λ r both. (λ t. same.1 (both.0 t), λ low. both.1 (same.0 low))) c.are_paths_below.ensures
