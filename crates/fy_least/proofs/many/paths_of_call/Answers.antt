use Rattle.std.proofs.Common.{◌<◌, arith}
use Rattle.std.proofs.lemmas.Result.{err_from_is_err_and}
use Rattle.fy_types.specs.Paths.{paths}
use Rattle.fy_types.specs.Reading.{plain_paths, plain_type}
use Rattle.fy_types.specs.Limits.{all_nodes}
use Rattle.fy_types.proofs.Making.{count-in}
use Rattle.fy_types.proofs.Sizes.{count-le, large-domain}
use Rattle.fy_least.proofs.many.paths_of_call.Goals as goal

pub returns-in_err-domain-clause-large : goal.returns-in_err-domain-clause-large
returns-in_err-domain-clause-large c =
    let p = err_from_is_err_and c.from_residual.result c.from_residual.ensures.1 in
    let some : 0 < all_nodes (plain_paths c.args.paths.now) =
    omega (arith, c.len.ensures, count-in c.args.paths.now, count-le (plain_paths c.args.paths.now), c.if-len-eq0.false) in
    rw (p.1, p.2) (λ e. large-domain (paths (plain_type c.args.alternative.now)) (plain_paths c.args.paths.now) some
    (c.in_err-domain.ensures.large e))
