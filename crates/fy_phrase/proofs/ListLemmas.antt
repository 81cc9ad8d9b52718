-- One more member of a list, in a loop over its members.
use Rattle.std.proofs.Common.{◌≡◌, ℕ, ◌+◌, ◌<◌, List, [], ◌∷◌, ◌++◌, length, get_or, take, map, max, refl, ap, sym, ◌∙◌, arith}
use Rattle.std.proofs.lemmas.List.{take_more}
use Rattle.fy_phrase.specs.Tree.{Tree, Trees, no_trees, and_tree}
use Rattle.fy_phrase.specs.Reads.{phrases_in, reads, reads_parts, trees_from}
use Rattle.fy_phrase.specs.Closing.{closed_at, all_closed_at}
use Rattle.fy_phrase.specs.Sizes.{nodes, all_nodes, depth, all_depth}
use Rattle.fy_phrase.specs.Premises.{nothing, of_parts}
use Rattle.fy_phrase.specs.declared.phrase.Phrase.{Phrase}
use Rattle.fy_phrase.specs.declared.phrase.Parts.{Parts}
use Rattle.fy_phrase.proofs.ReadLemmas.{reads_parts-at}

-- the list with one more at its end
abbrev pub with_last : Trees → Tree → Trees
with_last no_trees p = and_tree p no_trees
with_last (and_tree q ps) p = and_tree q (with_last ps p)

pub trees_from-append : (ps : List Phrase) (p : Phrase) → trees_from (map reads (ps ++ p ∷ [])) ≡ with_last (trees_from (map reads ps)) (reads p)
trees_from-append [] p = refl
trees_from-append (q ∷ ps) p = ap (and_tree (reads q)) (trees_from-append ps p)

pub trees_from-take : (ps : List Phrase) (i : ℕ) (d : Phrase) → i < length ps → trees_from (map reads (take (i + 1) ps)) ≡ with_last (trees_from (map reads (take i ps))) (reads (get_or ps i d))
trees_from-take ps i d h = ap (λ qs. trees_from (map reads qs)) (take_more ps i d h) ∙ trees_from-append (take i ps) (get_or ps i d)

pub all_nodes-with_last : (ps : Trees) (p : Tree) → all_nodes (with_last ps p) ≡ all_nodes ps + nodes p
all_nodes-with_last no_trees p = omega arith
all_nodes-with_last (and_tree q ps) p = omega (arith, all_nodes-with_last ps p)

all_depth-with_last : (ps : Trees) (p : Tree) → all_depth (with_last ps p) ≡ max (all_depth ps) (depth p)
all_depth-with_last no_trees p = omega arith
all_depth-with_last (and_tree q ps) p = omega (arith, all_depth-with_last ps p)

pub all_nodes-more : (ps : List Phrase) (i : ℕ) (d : Phrase) → i < length ps → (get_or ps i d ≡ get_or ps i d) × (all_nodes (trees_from (map reads (take (i + 1) ps))) ≡ all_nodes (trees_from (map reads (take i ps))) + nodes (reads (get_or ps i d)))
all_nodes-more ps i d h =
    (refl, ap all_nodes (trees_from-take ps i d h) ∙ all_nodes-with_last (trees_from (map reads (take i ps))) (reads (get_or ps i d)))

pub all_depth-more : (ps : List Phrase) (i : ℕ) (d : Phrase) → i < length ps → (get_or ps i d ≡ get_or ps i d) × (all_depth (trees_from (map reads (take (i + 1) ps))) ≡ max (all_depth (trees_from (map reads (take i ps)))) (depth (reads (get_or ps i d))))
all_depth-more ps i d h =
    (refl, ap all_depth (trees_from-take ps i d h) ∙ all_depth-with_last (trees_from (map reads (take i ps))) (reads (get_or ps i d)))

pub ruleset sizes = (all_nodes-more, all_depth-more)

pub all_closed_at-with_last : (n : ℕ) (a : Tree) (ps : Trees) (p : Tree) → all_closed_at n a (with_last ps p) ≡ with_last (all_closed_at n a ps) (closed_at n a p)
all_closed_at-with_last n a no_trees p = refl
all_closed_at-with_last n a (and_tree q ps) p = ap (and_tree (closed_at n a q)) (all_closed_at-with_last n a ps p)

-- one more copy
pub all_closed_at-more : (n : ℕ) (a : Tree) (l m : Parts) (made : Phrase) (ps : List Phrase) (i : ℕ) (d : Phrase) → i < length ps → phrases_in m ≡ phrases_in l ++ made ∷ [] → reads_parts l ≡ all_closed_at n a (trees_from (map reads (take i ps)))
    → reads made ≡ closed_at n a (reads (get_or ps i d)) → reads_parts m ≡ all_closed_at n a (trees_from (map reads (take (i + 1) ps)))
all_closed_at-more n a l m made ps i d h pushed is closed =
    let before = trees_from (map reads (take i ps)) in
    let last = reads (get_or ps i d) in
    reads_parts-at m
    ∙ ap (λ qs. trees_from (map reads qs)) pushed
    ∙ trees_from-append (phrases_in l) made
    ∙ ap (λ ts. with_last ts (reads made)) (sym (reads_parts-at l) ∙ is)
    ∙ ap (with_last (all_closed_at n a before)) closed
    ∙ sym (all_closed_at-with_last n a before last)
    ∙ ap (all_closed_at n a) (sym (trees_from-take ps i d h))

of_parts-with_last : (ps : Trees) (p : Tree) → of_parts (with_last ps p) ≡ of_parts ps ++ (nothing, p) ∷ []
of_parts-with_last no_trees p = refl
of_parts-with_last (and_tree q ps) p = ap (λ Ps. (nothing, q) ∷ Ps) (of_parts-with_last ps p)

-- one premise more
pub of_parts-more : (ps : List Phrase) (i : ℕ) (x : Phrase) → i < length ps → x ≡ get_or ps i x →
    of_parts (trees_from (map reads (take i ps))) ++ (nothing, reads x) ∷ [] ≡ of_parts (trees_from (map reads (take (i + 1) ps)))
of_parts-more ps i x h e =
    let before = trees_from (map reads (take i ps)) in
    ap (λ y. of_parts before ++ (nothing, reads y) ∷ []) e
    ∙ sym (ap of_parts (trees_from-take ps i x h) ∙ of_parts-with_last before (reads (get_or ps i x)))
