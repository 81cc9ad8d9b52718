use Rattle.std.proofs.Common.{sym, subst}
use Rattle.fy_types.specs.Paths.{type_of_paths}
use Rattle.fy_types.specs.Reading.{plain_paths}
use Rattle.fy_types.specs.Bounds.{IsGreatestLowerBound}
use Rattle.fy_types.proofs.BoundLemmas.{meet_of-bound}
use Rattle.fy_forms.proofs.meet_forms.meet.Goals as goal

pub returns-clause-bound : goal.returns-clause-bound
returns-clause-bound c =
    subst (λ P. IsGreatestLowerBound (type_of_paths P) (type_of_paths (plain_paths c.args.a.now)) (type_of_paths (plain_paths c.args.b.now)))
    (sym c.in_ok-sized.ensures.ok.paths) (meet_of-bound (plain_paths c.args.a.now) (plain_paths c.args.b.now))
