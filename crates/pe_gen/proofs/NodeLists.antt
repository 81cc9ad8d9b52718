-- The nodes of a phrase by their numbers: the node with a number is the member of the preorder at its place.
use Rattle.std.proofs.Common.{ℕ, zero, suc, ◌+◌, ◌-◌, ◌<◌, ◌≤◌, ◌≡◌, inl, inr, List, [], ◌∷◌, ◌++◌, length, Some, refl, ap, sym, ◌∙◌, subst, arith}
use Rattle.std.specs.Prelude.{slice_get}
use Rattle.std.proofs.lemmas.Bool.{cases_lt}
use Rattle.std.proofs.lemmas.List.{append-nil, length-append}
use Rattle.fy_phrase.specs.Sizes.{nodes, all_nodes}
use Rattle.fy_phrase.specs.Tree.{Tree, Trees, var, lit, unary, binary, cond, case, lam, app, field, sel, merge, let_in, rec, skip, seq, assign, while_do, forever, new, cells, escape, accept, put, read, mark, no_trees, and_tree}
use Rattle.fy_derive.specs.Shapes.{of_trees, parts_of, IsNodeAt, itself as plain_itself, in_part as plain_part, IsNodeAmong, in_first as plain_first, in_later as plain_later}
use Rattle.pe_gen.specs.Preorder.{nodes_below, nodes_of_all, preorder}
use Rattle.pe_right.specs.Right.{with_depth, parts_under, IsNodeUnder, itself, in_part, IsNodeAmongUnder, in_first, in_later}
use Rattle.pe_gen.proofs.Gets.{some_same, pair_first, pair_second, get-within, get-left, get-right}

-- ---- a phrase and its parts

-- the nodes of all the phrases
abbrev pub total : List (ℕ × Tree) → ℕ
total [] = 0
total (x ∷ xs) = nodes x.1 + total xs

abbrev pub preorder_of_all : List (ℕ × Tree) → List (ℕ × Tree)
preorder_of_all [] = []
preorder_of_all (x ∷ xs) = preorder x.0 x.1 ++ preorder_of_all xs

with_depth-total : (d : ℕ) (ps : Trees) → total (with_depth d ps) ≡ all_nodes ps
with_depth-total d no_trees = refl
with_depth-total d (and_tree p ps) = ap (λ n. nodes p + n) (with_depth-total d ps)

pub parts-total : (d : ℕ) (p : Tree) → nodes p ≡ 1 + total (parts_under d p)
parts-total d (case e parts at) = omega (arith, with_depth-total d parts)
parts-total d p = omega arith

one-part : (d : ℕ) (p : Tree) → (d, p) ∷ nodes_below d p ≡ preorder_of_all ((d, p) ∷ [])
one-part d p = sym (append-nil ((d, p) ∷ nodes_below d p))

two-parts : (d e : ℕ) (p q : Tree) → (d, p) ∷ (nodes_below d p ++ (e, q) ∷ nodes_below e q) ≡ preorder_of_all ((d, p) ∷ (e, q) ∷ [])
two-parts d e p q = ap (λ xs. (d, p) ∷ (nodes_below d p ++ xs)) (one-part e q)

all-parts : (d : ℕ) (ps : Trees) → nodes_of_all d ps ≡ preorder_of_all (with_depth d ps)
all-parts d no_trees = refl
all-parts d (and_tree p ps) = ap (λ xs. (d, p) ∷ (nodes_below d p ++ xs)) (all-parts d ps)

pub below-parts : (d : ℕ) (p : Tree) → nodes_below d p ≡ preorder_of_all (parts_under d p)
below-parts d (var k at) = refl
below-parts d (lit v at) = refl
below-parts d (unary op p at) = one-part d p
below-parts d (binary op p q at) = two-parts d d p q
below-parts d (cond b p q at) = ap (λ xs. (d, b) ∷ (nodes_below d b ++ xs)) (two-parts d d p q)
below-parts d (case e parts at) = ap (λ xs. (d, e) ∷ (nodes_below d e ++ xs)) (all-parts d parts)
below-parts d (lam n As b at) = one-part (d + 1) b
below-parts d (app p q at) = two-parts d d p q
below-parts d (field i p at) = one-part d p
below-parts d (sel p i at) = one-part d p
below-parts d (merge p q at) = two-parts d d p q
below-parts d (let_in n p b at) = two-parts d (d + 1) p b
below-parts d (rec n T b at) = one-part (d + 1) b
below-parts d (skip at) = refl
below-parts d (seq p q at) = two-parts d d p q
below-parts d (assign p q at) = two-parts d d p q
below-parts d (while_do b c at) = two-parts d d b c
below-parts d (forever c at) = one-part d c
below-parts d (new n D e b at) = two-parts d (d + 1) e b
below-parts d (cells n e b at) = two-parts d (d + 1) e b
below-parts d (escape n b at) = one-part (d + 1) b
below-parts d (accept n D b at) = one-part (d + 1) b
below-parts d (put kind p at) = one-part d p
below-parts d (read p at) = one-part d p
below-parts d (mark m at) = refl

-- ---- lengths

length-all : (n : ℕ) → ((d : ℕ) (p : Tree) → nodes p ≤ n → length (preorder d p) ≡ nodes p) → (ps : List (ℕ × Tree)) → total ps ≤ n →
    length (preorder_of_all ps) ≡ total ps
length-all n one [] h = refl
length-all n one (x ∷ ps) h =
    omega (arith, length-append (preorder x.0 x.1) (preorder_of_all ps), one x.0 x.1 (omega arith), length-all n one ps (omega arith))

length-upto : (n d : ℕ) (p : Tree) → nodes p ≤ n → length (preorder d p) ≡ nodes p
length-upto zero d p h = absurd (omega (arith, parts-total d p))
length-upto (suc n) d p h =
    omega (arith, parts-total d p, ap length (below-parts d p), length-all n (length-upto n) (parts_under d p) (omega (arith, parts-total d p)))

pub length-preorder : (d : ℕ) (p : Tree) → length (preorder d p) ≡ nodes p
length-preorder d p = length-upto (nodes p) d p (omega arith)

-- ---- from a place to a node

IsFound : ℕ → ℕ → Tree → Type 0
IsFound d m p = (i e : ℕ) (q : Tree) → slice_get (preorder d p) i ≡ Some (e, q) → IsNodeUnder d m p e (m + i) q

found-all : (n : ℕ) → ((d m : ℕ) (p : Tree) → nodes p ≤ n → (i e : ℕ) (q : Tree) → slice_get (preorder d p) i ≡ Some (e, q) → IsNodeUnder d m p e (m + i) q) →
    (ps : List (ℕ × Tree)) (m : ℕ) → total ps ≤ n → (i e : ℕ) (q : Tree) → slice_get (preorder_of_all ps) i ≡ Some (e, q) →
    IsNodeAmongUnder m ps e (m + i) q
found-all n one [] m h i e q is = absurd cc
found-all n one (x ∷ ps) m h i e q is =
    elim (cases_lt i (length (preorder x.0 x.1))) [
      | inl l ↦ in_first (one x.0 m x.1 (omega arith) i e q (sym (get-left (preorder x.0 x.1) (preorder_of_all ps) i l) ∙ is))
      | inr r ↦
          let s = length-preorder x.0 x.1 in
          let k : i ≡ length (preorder x.0 x.1) + (i - nodes x.1) = omega arith in
          let rest = sym (get-right (preorder x.0 x.1) (preorder_of_all ps) (i - nodes x.1) i k) ∙ is in
          let number : m + nodes x.1 + (i - nodes x.1) ≡ m + i = omega arith in
          subst (λ j. IsNodeAmongUnder m (x ∷ ps) e j q) number (in_later (found-all n one ps (m + nodes x.1) (omega arith) (i - nodes x.1) e q rest))
    ]

found-upto : (n d m : ℕ) (p : Tree) → nodes p ≤ n → (i e : ℕ) (q : Tree) → slice_get (preorder d p) i ≡ Some (e, q) → IsNodeUnder d m p e (m + i) q
found-upto zero d m p h i e q is = absurd (omega (arith, parts-total d p))
found-upto (suc n) d m p h zero e q is =
    let same = some_same is in
    let number : m ≡ m + zero = omega arith in
    subst (λ c. IsNodeUnder d m p c (m + zero) q) (pair_first same)
    (subst (λ r. IsNodeUnder d m p d (m + zero) r) (pair_second same) (subst (λ k. IsNodeUnder d m p d k p) number itself))
found-upto (suc n) d m p h (suc i) e q is =
    let number : m + 1 + i ≡ m + suc i = omega arith in
    let place = sym (ap (λ xs. slice_get xs i) (below-parts d p)) ∙ is in
    subst (λ k. IsNodeUnder d m p e k q) number
    (in_part (found-all n (found-upto n) (parts_under d p) (m + 1) (omega (arith, parts-total d p)) i e q place))

-- the member at a place is the node with the number
pub node-found : (d : ℕ) (p : Tree) (k e : ℕ) (q : Tree) → slice_get (preorder d p) k ≡ Some (e, q) → IsNodeUnder d 0 p e k q
node-found d p k e q is =
    let number : 0 + k ≡ k = omega arith in
    subst (λ j. IsNodeUnder d 0 p e j q) number (found-upto (nodes p) d 0 p (omega arith) k e q is)

-- ---- from a node to its place

mutual
  pub node-from : {d m e k : ℕ} {p q : Tree} → IsNodeUnder d m p e k q → m ≤ k
  node-from itself = omega arith
  node-from (in_part among) = omega (arith, among-from among)

  pub among-from : {m e k : ℕ} {ps : List (ℕ × Tree)} {q : Tree} → IsNodeAmongUnder m ps e k q → m ≤ k
  among-from (in_first node) = node-from node
  among-from (in_later among) = omega (arith, among-from among)

mutual
  placed : {d m e k : ℕ} {p q : Tree} → IsNodeUnder d m p e k q → (i : ℕ) → k ≡ m + i → slice_get (preorder d p) i ≡ Some (e, q)
  placed itself zero h = refl
  placed itself (suc i) h = absurd (omega arith)
  placed (in_part among) zero h = absurd (omega (arith, among-from among))
  placed (in_part {d = d} {p = p} among) (suc i) h = ap (λ xs. slice_get xs i) (below-parts d p) ∙ placed-among among i (omega arith)

  placed-among : {m e k : ℕ} {ps : List (ℕ × Tree)} {q : Tree} → IsNodeAmongUnder m ps e k q → (i : ℕ) → k ≡ m + i →
      slice_get (preorder_of_all ps) i ≡ Some (e, q)
  placed-among (in_first {d = d} {e = e} {p = p} {q = q} {ps = ps} node) i h =
      let it = placed node i h in
      get-left (preorder d p) (preorder_of_all ps) i (get-within (preorder d p) i (e, q) it) ∙ it
  placed-among (in_later {d = d} {p = p} {ps = ps} among) i h =
      let s = length-preorder d p in
      let low = among-from among in
      let k : i ≡ length (preorder d p) + (i - nodes p) = omega arith in
      get-right (preorder d p) (preorder_of_all ps) (i - nodes p) i k ∙ placed-among among (i - nodes p) (omega arith)

-- a node is the member of the preorder at its number
pub node-placed : {d e k : ℕ} {p q : Tree} → IsNodeUnder d 0 p e k q → slice_get (preorder d p) k ≡ Some (e, q)
node-placed {k = k} node = placed node k (omega arith)

pub node-before : {d e k : ℕ} {p q : Tree} → IsNodeUnder d 0 p e k q → k < nodes p
node-before {d = d} {e = e} {k = k} {p = p} {q = q} node =
    omega (arith, length-preorder d p, get-within (preorder d p) k (e, q) (node-placed node))

-- ---- ranges

mutual
  pub node-range : {d m e k : ℕ} {p q : Tree} → IsNodeUnder d m p e k q → k + nodes q ≤ m + nodes p
  node-range itself = omega arith
  node-range (in_part {d = d} {p = p} among) = omega (arith, parts-total d p, among-range among)

  pub among-range : {m e k : ℕ} {ps : List (ℕ × Tree)} {q : Tree} → IsNodeAmongUnder m ps e k q → k + nodes q ≤ m + total ps
  among-range (in_first node) = omega (arith, node-range node)
  among-range (in_later among) = omega (arith, among-range among)

-- ---- the list of a phrase

-- what stands in the list of a phrase is a node, and so are its parts
pub listed-node : (p : Tree) (ns : List (ℕ × Tree)) → ns ≡ preorder 0 p → (k d : ℕ) (q : Tree) → slice_get ns k ≡ Some (d, q) → IsNodeUnder 0 0 p d k q
listed-node p ns made k d q at = node-found 0 p k d q (sym (ap (λ xs. slice_get xs k) made) ∙ at)

pub node-listed : (p : Tree) (ns : List (ℕ × Tree)) → ns ≡ preorder 0 p → (k d : ℕ) (q : Tree) → IsNodeUnder 0 0 p d k q → slice_get ns k ≡ Some (d, q)
node-listed p ns made k d q node = ap (λ xs. slice_get xs k) made ∙ node-placed node

pub listed-range : (p : Tree) (ns : List (ℕ × Tree)) → ns ≡ preorder 0 p → (k d : ℕ) (q : Tree) → slice_get ns k ≡ Some (d, q) → k + nodes q ≤ length ns
listed-range p ns made k d q at =
    omega (arith, node-range (listed-node p ns made k d q at), ap length made, length-preorder 0 p)

-- ---- nodes of nodes

mutual
  pub node-within : {d m e k f j : ℕ} {p q r : Tree} → IsNodeUnder d m p e k q → IsNodeUnder e k q f j r → IsNodeUnder d m p f j r
  node-within itself inside = inside
  node-within (in_part among) inside = in_part (among-within among inside)

  among-within : {m e k f j : ℕ} {ps : List (ℕ × Tree)} {q r : Tree} → IsNodeAmongUnder m ps e k q → IsNodeUnder e k q f j r → IsNodeAmongUnder m ps f j r
  among-within (in_first node) inside = in_first (node-within node inside)
  among-within (in_later among) inside = in_later (among-within among inside)

-- a part of a node is a node
pub part-within : {d m e k f j : ℕ} {p q r : Tree} (ps : List (ℕ × Tree)) → IsNodeUnder d m p e k q → parts_under e q ≡ ps →
    IsNodeAmongUnder (k + 1) ps f j r → IsNodeUnder d m p f j r
part-within {e = e} {k = k} {f = f} {j = j} {q = q} {r = r} ps node is among =
    node-within node (in_part (subst (λ xs. IsNodeAmongUnder (k + 1) xs f j r) (sym is) among))

pub first-part : {d m e k f : ℕ} {p q r : Tree} (ps : List (ℕ × Tree)) → IsNodeUnder d m p e k q → parts_under e q ≡ (f, r) ∷ ps →
    IsNodeUnder d m p f (k + 1) r
first-part {f = f} {r = r} ps node is = part-within ((f, r) ∷ ps) node is (in_first itself)

pub second-part : {d m e k f g : ℕ} {p q r s : Tree} (ps : List (ℕ × Tree)) → IsNodeUnder d m p e k q → parts_under e q ≡ (f, r) ∷ (g, s) ∷ ps →
    IsNodeUnder d m p g (k + 1 + nodes r) s
second-part {f = f} {g = g} {r = r} {s = s} ps node is = part-within ((f, r) ∷ (g, s) ∷ ps) node is (in_later (in_first itself))

pub third-part : {d m e k f g h : ℕ} {p q r s t : Tree} (ps : List (ℕ × Tree)) → IsNodeUnder d m p e k q →
    parts_under e q ≡ (f, r) ∷ (g, s) ∷ (h, t) ∷ ps → IsNodeUnder d m p h (k + 1 + nodes r + nodes s) t
third-part {f = f} {g = g} {h = h} {r = r} {s = s} {t = t} ps node is =
    part-within ((f, r) ∷ (g, s) ∷ (h, t) ∷ ps) node is (in_later (in_later (in_first itself)))

-- ---- nodes without the binders around them

abbrev bare : List (ℕ × Tree) → List Tree
bare [] = []
bare (x ∷ xs) = x.1 ∷ bare xs

bare-all : (d : ℕ) (ps : Trees) → bare (with_depth d ps) ≡ of_trees ps
bare-all d no_trees = refl
bare-all d (and_tree p ps) = ap (λ qs. p ∷ qs) (bare-all d ps)

bare-parts : (d : ℕ) (p : Tree) → bare (parts_under d p) ≡ parts_of p
bare-parts d (case e parts at) = ap (λ qs. e ∷ qs) (bare-all d parts)
bare-parts d p = refl

mutual
  pub plain-node : {d m e k : ℕ} {p q : Tree} → IsNodeUnder d m p e k q → IsNodeAt m p k q
  plain-node itself = plain_itself
  plain-node (in_part {d = d} {m = m} {k = k} {p = p} {q = q} among) =
      plain_part (subst (λ ps. IsNodeAmong (m + 1) ps k q) (bare-parts d p) (plain-among among))

  plain-among : {m e k : ℕ} {ps : List (ℕ × Tree)} {q : Tree} → IsNodeAmongUnder m ps e k q → IsNodeAmong m (bare ps) k q
  plain-among (in_first node) = plain_first (plain-node node)
  plain-among (in_later among) = plain_later (plain-among among)
