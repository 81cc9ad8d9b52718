-- At one number stands one node: the parts of a phrase have ranges of numbers apart.
use Rattle.std.proofs.Common.{ℕ, ◌+◌, ◌<◌, ◌≤◌, ◌≡◌, List, refl, ap, arith}
use Rattle.fy_phrase.specs.Tree.{Tree, Trees, no_trees, and_tree, case}
use Rattle.fy_phrase.specs.Sizes.{nodes, all_nodes}
use Rattle.pe_shapes.specs.Parts.{total_nodes}
use Rattle.fy_derive.specs.Shapes.{of_trees, parts_of, IsNodeAt, itself, in_part, IsNodeAmong, in_first, in_later}

trees-total : (ps : Trees) → total_nodes (of_trees ps) ≡ all_nodes ps
trees-total no_trees = refl
trees-total (and_tree p ps) = ap (λ n. nodes p + n) (trees-total ps)

-- a phrase is one node and its parts
pub nodes-parts : (p : Tree) → nodes p ≡ 1 + total_nodes (parts_of p)
nodes-parts (case e parts at) = omega (arith, trees-total parts)
nodes-parts p = omega arith

mutual
  pub node-from : {m k : ℕ} {p q : Tree} → IsNodeAt m p k q → m ≤ k
  node-from itself = omega arith
  node-from (in_part among) = omega (arith, among-from among)

  pub among-from : {m k : ℕ} {ps : List Tree} {q : Tree} → IsNodeAmong m ps k q → m ≤ k
  among-from (in_first node) = node-from node
  among-from (in_later among) = omega (arith, among-from among)

mutual
  pub node-before : {m k : ℕ} {p q : Tree} → IsNodeAt m p k q → k < m + nodes p
  node-before (itself {p = p}) = omega (arith, nodes-parts p)
  node-before (in_part {p = p} among) = omega (arith, nodes-parts p, among-before among)

  among-before : {m k : ℕ} {ps : List Tree} {q : Tree} → IsNodeAmong m ps k q → k < m + total_nodes ps
  among-before (in_first node) = omega (arith, node-before node)
  among-before (in_later among) = omega (arith, among-before among)

mutual
  pub one-node : {m k j : ℕ} {p q r : Tree} → IsNodeAt m p k q → IsNodeAt m p j r → k ≡ j → q ≡ r
  one-node itself itself e = refl
  one-node itself (in_part among) e = absurd (omega (arith, among-from among))
  one-node (in_part among) itself e = absurd (omega (arith, among-from among))
  one-node (in_part among) (in_part other) e = one-among among other e

  one-among : {m k j : ℕ} {ps : List Tree} {q r : Tree} → IsNodeAmong m ps k q → IsNodeAmong m ps j r → k ≡ j → q ≡ r
  one-among (in_first node) (in_first other) e = one-node node other e
  one-among (in_first node) (in_later other) e = absurd (omega (arith, node-before node, among-from other))
  one-among (in_later among) (in_first other) e = absurd (omega (arith, among-from among, node-before other))
  one-among (in_later among) (in_later other) e = one-among among other e
