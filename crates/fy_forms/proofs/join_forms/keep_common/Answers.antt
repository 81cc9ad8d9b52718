use Rattle.std.proofs.Common.{Err, IsErrOf, ap}
use Rattle.std.proofs.lemmas.Result.{err_from_is_err_and}
use Rattle.fy_types.specs.Reading.{plain_path, plain_paths}
use Rattle.fy_types.specs.Bounds.{common}
use Rattle.fy_forms.proofs.KeepLemmas.{large-one_added}
use Rattle.fy_forms.proofs.CommonLemmas.{common-count}
use Rattle.fy_forms.proofs.join_forms.keep_common.Goals as goal

-- an error is the same at another type of results
turned : {S T E : Type 0} (x y : E) → IsErrOf {T = S} (Err x) y → IsErrOf {T = T} (Err x) y
turned x y e = ap Err (cc)

pub returns-in_err-path-clause-large : goal.returns-in_err-path-clause-large
returns-in_err-path-clause-large c =
    let p = err_from_is_err_and c.from_residual.result c.from_residual.ensures.1 in
    rw (p.1, p.2) (λ e. large-one_added (plain_paths c.args.kept.paths) (common (plain_path c.args.p.now) (plain_path c.args.q.now))
    (common-count (plain_path c.args.p.now) (plain_path c.args.q.now)) (c.in_err-path.ensures.large (turned _ _ e)))
