use Rattle.std.proofs.Common.{sym, subst}
use Rattle.fy_types.specs.Reading.{plain_paths}
use Rattle.fy_derive.specs.Standing.{plain_kind}
use Rattle.fy_least.proofs.DistinctLemmas.{IsDistinct, distinct-once, distinct-others, once-distinct}
use Rattle.fy_least.proofs.forms.merge.Goals as goal

pub meet_with-requires : goal.meet_with-requires
meet_with-requires c =
    let left : IsDistinct (plain_paths c.args.left.paths) = subst IsDistinct c.requires (distinct-once (plain_paths c.args.left.paths)) in
    once-distinct (subst IsDistinct (sym c.in_ok-kept.ensures) (distinct-others (plain_kind c.in-Some.demand) left))
