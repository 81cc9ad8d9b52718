-- What the limits on least types count.
use Rattle.std.specs.Prelude.{ℕ, ◌<◌, ◌≤◌, ◌⊎◌, List, [], ◌∷◌, ◌++◌, flat_map, sum_by, All, Any, if◌then◌else◌}
use Rattle.fy_types.specs.declared.types.Atom.TheVariants.{Int}
use Rattle.fy_types.specs.Types.{PlainTypes, no_types, and_type}
use Rattle.fy_types.specs.Paths.{PlainPaths, paths}
use Rattle.fy_types.specs.Bounds.{join_of}
use Rattle.fy_types.specs.Limits.{all_nodes, IsWithinLimits, IsTooLarge}
use Rattle.fy_phrase.specs.Tree.{Tree, Trees, no_trees, and_tree, case, lam, rec}
use Rattle.fy_derive.specs.Least.{has, least_type, Visit, visit}

-- the joins of the paths with the first 1, 2, .. of the parts, less the last join
abbrev pub joins_before_last : List PlainPaths → PlainPaths → Trees → List PlainPaths
joins_before_last G P no_trees = []
joins_before_last G P (and_tree p no_trees) = []
joins_before_last G P (and_tree p (and_tree q qs)) =
    join_of P (least_type G p) ∷ joins_before_last G (join_of P (least_type G p)) (and_tree q qs)

-- the joins of the first 2, 3, .. parts of a case that has a type, less the last, which is its least type itself
abbrev pub earlier_joins : List PlainPaths → Tree → List PlainPaths
earlier_joins G (case e (and_tree p ps) at) = if has (least_type G e) Int then joins_before_last G (least_type G p) ps else []
earlier_joins G p = []

-- the least types that count at a visit
abbrev pub least_at : Visit → List PlainPaths
least_at (visit m G p) = earlier_joins G p ++ least_type G p ∷ []

abbrev pub forms : PlainTypes → List PlainPaths
forms no_types = []
forms (and_type A As) = paths A ∷ forms As

-- the path forms of the types that are written at the phrase's own node
abbrev pub written_in : Tree → List PlainPaths
written_in (lam d As b at) = forms As
written_in (rec d T b at) = paths T ∷ []
written_in p = []

abbrev pub written_at : Visit → List PlainPaths
written_at (visit m G p) = written_in p

-- the least types of all visits, and the path forms of all types that are written
abbrev pub all_least : List Visit → List PlainPaths
all_least vs = flat_map least_at vs

abbrev pub all_written : List Visit → List PlainPaths
all_written vs = flat_map written_at vs

-- the limit on the nodes of all least types together
abbrev pub most_together : ℕ
most_together = 4194304

-- the types of the visits keep the limits
pub record KeepTypeLimits (vs : List Visit) : Type 0 where
  pub least : All IsWithinLimits (all_least vs)
  pub written : All IsWithinLimits (all_written vs)
  pub together : sum_by all_nodes (all_least vs) ≤ most_together

-- one of them passes a limit, or all least types together do
abbrev pub PassTypeLimits : List Visit → Type 0
PassTypeLimits vs = (Any IsTooLarge (all_least vs) ⊎ Any IsTooLarge (all_written vs)) ⊎ (most_together < sum_by all_nodes (all_least vs))
