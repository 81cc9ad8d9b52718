-- One more part of a list, in a loop over its members.
use Rattle.std.proofs.Common.{◌≡◌, ℕ, ◌+◌, ◌<◌, List, length, get_or, take, map, refl, ap, ◌∙◌, arith}
use Rattle.fy_phrase.specs.declared.phrase.Phrase.{Phrase}
use Rattle.fy_phrase.specs.Tree.{Tree, Trees, no_trees, and_tree}
use Rattle.fy_phrase.specs.Reads.{reads, trees_from}
use Rattle.fy_phrase.proofs.ListLemmas.{with_last, trees_from-take}
use Rattle.fy_derive.specs.Shapes.{thunks, all_thunks}

all_thunks-with_last : (ps : Trees) (p : Tree) → all_thunks (with_last ps p) ≡ all_thunks ps + thunks p
all_thunks-with_last no_trees p = omega arith
all_thunks-with_last (and_tree q ps) p = omega (arith, all_thunks-with_last ps p)

pub all_thunks-more : (ps : List Phrase) (i : ℕ) (d : Phrase) → i < length ps → (get_or ps i d ≡ get_or ps i d) ×
    (all_thunks (trees_from (map reads (take (i + 1) ps))) ≡ all_thunks (trees_from (map reads (take i ps))) + thunks (reads (get_or ps i d)))
all_thunks-more ps i d h =
    (refl, ap all_thunks (trees_from-take ps i d h) ∙ all_thunks-with_last (trees_from (map reads (take i ps))) (reads (get_or ps i d)))

pub ruleset sizes = all_thunks-more
