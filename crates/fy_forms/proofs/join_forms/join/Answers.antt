use Rattle.std.proofs.Common.{sym, subst}
use Rattle.fy_types.specs.Paths.{type_of_paths}
use Rattle.fy_types.specs.Reading.{plain_paths}
use Rattle.fy_types.specs.Bounds.{IsLeastUpperBound}
use Rattle.fy_types.proofs.BoundLemmas.{join_of-bound}
use Rattle.fy_forms.proofs.join_forms.join.Goals as goal

pub returns-clause-bound : goal.returns-clause-bound
returns-clause-bound c =
    subst (λ P. IsLeastUpperBound (type_of_paths P) (type_of_paths (plain_paths c.args.a.now)) (type_of_paths (plain_paths c.args.b.now)))
    (sym c.in_ok-sized.ensures.ok.paths) (join_of-bound (plain_paths c.args.a.now) (plain_paths c.args.b.now))
