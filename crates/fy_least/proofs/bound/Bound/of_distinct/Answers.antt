use Rattle.std.proofs.Common.{◌≡◌, true, sym, subst}
use Rattle.fy_types.specs.Once.{are_same}
use Rattle.fy_types.specs.Reading.{plain_paths}
use Rattle.fy_memo.proofs.EachLemmas.{same-itself}
use Rattle.fy_least.proofs.bound.Bound.of_distinct.Goals as goal

pub invariant_of-result : goal.invariant_of-result
invariant_of-result c = record {
  each_once = subst (λ P. are_same P (plain_paths c.args.paths.now) ≡ true) (sym c.requires) (same-itself (plain_paths c.args.paths.now));
}
