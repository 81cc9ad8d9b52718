-- Sizes of lists of phrases, in a loop over their members.
use Rattle.std.proofs.Common.{◌≡◌, ℕ, ◌+◌, ◌<◌, List, length, get_or, take, map, max, refl, ap, ◌∙◌, arith}
use Rattle.fy_phrase.specs.Tree.{Tree, Trees, no_trees, and_tree}
use Rattle.fy_phrase.specs.Reads.{reads, trees_from}
use Rattle.fy_phrase.specs.Sizes.{nodes, all_nodes, nesting, all_nesting}
use Rattle.fy_phrase.specs.Closing.{closed_at, all_closed_at}
use Rattle.fy_phrase.specs.declared.phrase.Phrase.{Phrase}
use Rattle.fy_phrase.proofs.ListLemmas.{with_last, trees_from-take, all_nodes-with_last, all_closed_at-with_last, all_nodes-more}

all_nesting-with_last : (ps : Trees) (p : Tree) → all_nesting (with_last ps p) ≡ max (all_nesting ps) (nesting p)
all_nesting-with_last no_trees p = omega arith
all_nesting-with_last (and_tree q ps) p = omega (arith, all_nesting-with_last ps p)

-- one more member
pub all_nesting-more : (ps : List Phrase) (i : ℕ) (d : Phrase) → i < length ps → (get_or ps i d ≡ get_or ps i d) × (all_nesting (trees_from (map reads (take (i + 1) ps))) ≡ max (all_nesting (trees_from (map reads (take i ps)))) (nesting (reads (get_or ps i d))))
all_nesting-more ps i d h =
    (refl, ap all_nesting (trees_from-take ps i d h) ∙ all_nesting-with_last (trees_from (map reads (take i ps))) (reads (get_or ps i d)))

closed-take : (n : ℕ) (a : Tree) (ps : List Phrase) (i : ℕ) (d : Phrase) → i < length ps → all_closed_at n a (trees_from (map reads (take (i + 1) ps))) ≡ with_last (all_closed_at n a (trees_from (map reads (take i ps)))) (closed_at n a (reads (get_or ps i d)))
closed-take n a ps i d h = ap (all_closed_at n a) (trees_from-take ps i d h) ∙ all_closed_at-with_last n a (trees_from (map reads (take i ps))) (reads (get_or ps i d))

-- one more member with the actual phrase copied in
pub closed_nodes-more : (n : ℕ) (a : Tree) (ps : List Phrase) (i : ℕ) (d : Phrase) → i < length ps
    → all_nodes (all_closed_at n a (trees_from (map reads (take (i + 1) ps)))) ≡ all_nodes (all_closed_at n a (trees_from (map reads (take i ps)))) + nodes (closed_at n a (reads (get_or ps i d)))
closed_nodes-more n a ps i d h = ap all_nodes (closed-take n a ps i d h) ∙ all_nodes-with_last (all_closed_at n a (trees_from (map reads (take i ps)))) (closed_at n a (reads (get_or ps i d)))

pub closed_nesting-more : (n : ℕ) (a : Tree) (ps : List Phrase) (i : ℕ) (d : Phrase) → i < length ps
    → all_nesting (all_closed_at n a (trees_from (map reads (take (i + 1) ps)))) ≡ max (all_nesting (all_closed_at n a (trees_from (map reads (take i ps))))) (nesting (closed_at n a (reads (get_or ps i d))))
closed_nesting-more n a ps i d h = ap all_nesting (closed-take n a ps i d h) ∙ all_nesting-with_last (all_closed_at n a (trees_from (map reads (take i ps)))) (closed_at n a (reads (get_or ps i d)))

pub ruleset list_sizes = (all_nodes-more, all_nesting-more)
