-- A part of a list is smaller than the list, and has at most the list's nodes.
use Rattle.std.proofs.Common.{ℕ, zero, suc, ◌+◌, ◌<◌, ◌≤◌, ◌≡◌, List, [], ◌∷◌, length, get_or, map, drop, ap, arith}
use Rattle.fy_types.proofs.Steps.{drop_item}
use Rattle.fy_phrase.specs.declared.phrase.Phrase.{Phrase, size-Phrase}
use Rattle.fy_phrase.specs.declared.phrase.Parts.{Parts, size-Parts}
use Rattle.fy_phrase.specs.declared.phrase.Parts as form
use Rattle.fy_phrase.specs.Reads.{phrases_in, reads, trees_from}
use Rattle.fy_phrase.specs.Sizes.{nodes, all_nodes}

pub part-size : (l : Parts) (i : ℕ) (x : Phrase) → i < length (phrases_in l) → x ≡ get_or (phrases_in l) i x → size-Phrase x < size-Parts l
part-size l i x h e = search (arith, form.the_lemmas)

-- the nodes of the phrases from a place on
abbrev pub nodes_from : ℕ → List Phrase → ℕ
nodes_from i ps = all_nodes (trees_from (map reads (drop i ps)))

pub nodes_from-at : (ps : List Phrase) (i : ℕ) (x : Phrase) → i < length ps → x ≡ get_or ps i x → nodes_from i ps ≡ nodes (reads x) + nodes_from (i + 1) ps
nodes_from-at ps i x h e = ap (λ ts. all_nodes (trees_from ts)) (drop_item reads ps i x h e)

pub nodes_from-few : (ps : List Phrase) (i : ℕ) → nodes_from i ps ≤ all_nodes (trees_from (map reads ps))
nodes_from-few ps zero = omega arith
nodes_from-few [] (suc i) = omega arith
nodes_from-few (p ∷ ps) (suc i) = omega (arith, nodes_from-few ps i)
