-- The constant that stands at a number in preorder.
use Rattle.std.proofs.Common.{ℕ, zero, suc, ◌+◌, ◌-◌, ◌≤◌, ◌≡◌, List, [], ◌∷◌, ◌++◌, length, Option, Some, None, slice_get, refl, ap, ◌∙◌, arith}
use Rattle.std.proofs.lemmas.List.{length-append}
use Rattle.fy_base.specs.declared.data.Datum.{Datum}
use Rattle.fy_phrase.specs.Tree.{Tree, Trees, no_trees, and_tree, var, lit, unary, binary, cond as conditional, case, lam, app, field, sel, merge, let_in, rec, skip, seq, assign, while_do, forever, new, cells, escape, accept, put, read, mark}
use Rattle.fy_phrase.specs.Sizes.{nodes, all_nodes}
use Rattle.pe_right.specs.Constants.{constant}
use Rattle.pe_right.specs.Right.{with_depth, parts_under, IsNodeUnder, IsNodeAmongUnder, itself, in_part, in_first, in_later}

abbrev mutual
  -- the constants among the nodes below a phrase, in preorder
  pub below : Tree → List (Option Datum)
  below (var k at) = []
  below (lit v at) = []
  below (unary op p at) = constant p ∷ (below p ++ [])
  below (binary op p q at) = constant p ∷ (below p ++ constant q ∷ (below q ++ []))
  below (conditional b p q at) = constant b ∷ (below b ++ constant p ∷ (below p ++ constant q ∷ (below q ++ [])))
  below (case e parts at) = constant e ∷ (below e ++ all_below parts)
  below (lam n As b at) = constant b ∷ (below b ++ [])
  below (app p q at) = constant p ∷ (below p ++ constant q ∷ (below q ++ []))
  below (field i p at) = constant p ∷ (below p ++ [])
  below (sel p i at) = constant p ∷ (below p ++ [])
  below (merge p q at) = constant p ∷ (below p ++ constant q ∷ (below q ++ []))
  below (let_in n p b at) = constant p ∷ (below p ++ constant b ∷ (below b ++ []))
  below (rec n T b at) = constant b ∷ (below b ++ [])
  below (skip at) = []
  below (seq p q at) = constant p ∷ (below p ++ constant q ∷ (below q ++ []))
  below (assign p q at) = constant p ∷ (below p ++ constant q ∷ (below q ++ []))
  below (while_do b c at) = constant b ∷ (below b ++ constant c ∷ (below c ++ []))
  below (forever c at) = constant c ∷ (below c ++ [])
  below (new n D e b at) = constant e ∷ (below e ++ constant b ∷ (below b ++ []))
  below (cells n e b at) = constant e ∷ (below e ++ constant b ∷ (below b ++ []))
  below (escape n b at) = constant b ∷ (below b ++ [])
  below (accept n D b at) = constant b ∷ (below b ++ [])
  below (put kind p at) = constant p ∷ (below p ++ [])
  below (read p at) = constant p ∷ (below p ++ [])
  below (mark m at) = []

  pub all_below : Trees → List (Option Datum)
  all_below no_trees = []
  all_below (and_tree p ps) = constant p ∷ (below p ++ all_below ps)

abbrev values_of : List (ℕ × Tree) → List (Option Datum)
values_of [] = []
values_of (x ∷ xs) = (constant x.1 ∷ below x.1) ++ values_of xs

all-values : (d : ℕ) (ps : Trees) → all_below ps ≡ values_of (with_depth d ps)
all-values d no_trees = refl
all-values d (and_tree p ps) = ap (λ (xs : List (Option Datum)). constant p ∷ (below p ++ xs)) (all-values d ps)

below-parts : (d : ℕ) (p : Tree) → below p ≡ values_of (parts_under d p)
below-parts d (case e parts at) = ap (λ (xs : List (Option Datum)). constant e ∷ (below e ++ xs)) (all-values d parts)
below-parts d p = refl

-- ---- lengths

-- a phrase's own and those below it, before more
abbrev before : Tree → List (Option Datum) → List (Option Datum)
before p xs = constant p ∷ (below p ++ xs)

one-long : (p : Tree) → length (below p) + 1 ≡ nodes p → length (before p []) ≡ nodes p
one-long p h = let a = length-append (below p) [] in omega arith

two-long : (p : Tree) (xs : List (Option Datum)) (n : ℕ) → length (below p) + 1 ≡ nodes p → length xs ≡ n → length (before p xs) ≡ nodes p + n
two-long p xs n h k = let a = length-append (below p) xs in omega arith

mutual
  below-long : (p : Tree) → length (below p) + 1 ≡ nodes p
  below-long (var k at) = omega arith
  below-long (lit v at) = omega arith
  below-long (unary op p at) = let a = one-long p (below-long p) in omega arith
  below-long (binary op p q at) = let a = two-long p (before q []) (nodes q) (below-long p) (one-long q (below-long q)) in omega arith
  below-long (conditional b p q at) =
      let a = two-long b (before p (before q [])) (nodes p + nodes q) (below-long b) (two-long p (before q []) (nodes q) (below-long p) (one-long q (below-long q))) in omega arith
  below-long (case e parts at) = let a = two-long e (all_below parts) (all_nodes parts) (below-long e) (all-below-long parts) in omega arith
  below-long (lam n As b at) = let a = one-long b (below-long b) in omega arith
  below-long (app p q at) = let a = two-long p (before q []) (nodes q) (below-long p) (one-long q (below-long q)) in omega arith
  below-long (field i p at) = let a = one-long p (below-long p) in omega arith
  below-long (sel p i at) = let a = one-long p (below-long p) in omega arith
  below-long (merge p q at) = let a = two-long p (before q []) (nodes q) (below-long p) (one-long q (below-long q)) in omega arith
  below-long (let_in n p b at) = let a = two-long p (before b []) (nodes b) (below-long p) (one-long b (below-long b)) in omega arith
  below-long (rec n T b at) = let a = one-long b (below-long b) in omega arith
  below-long (skip at) = omega arith
  below-long (seq p q at) = let a = two-long p (before q []) (nodes q) (below-long p) (one-long q (below-long q)) in omega arith
  below-long (assign p q at) = let a = two-long p (before q []) (nodes q) (below-long p) (one-long q (below-long q)) in omega arith
  below-long (while_do b c at) = let a = two-long b (before c []) (nodes c) (below-long b) (one-long c (below-long c)) in omega arith
  below-long (forever c at) = let a = one-long c (below-long c) in omega arith
  below-long (new n D e b at) = let a = two-long e (before b []) (nodes b) (below-long e) (one-long b (below-long b)) in omega arith
  below-long (cells n e b at) = let a = two-long e (before b []) (nodes b) (below-long e) (one-long b (below-long b)) in omega arith
  below-long (escape n b at) = let a = one-long b (below-long b) in omega arith
  below-long (accept n D b at) = let a = one-long b (below-long b) in omega arith
  below-long (put kind p at) = let a = one-long p (below-long p) in omega arith
  below-long (read p at) = let a = one-long p (below-long p) in omega arith
  below-long (mark m at) = omega arith

  all-below-long : (ps : Trees) → length (all_below ps) ≡ all_nodes ps
  all-below-long no_trees = refl
  all-below-long (and_tree p ps) = let a = two-long p (all_below ps) (all_nodes ps) (below-long p) (all-below-long ps) in omega arith

-- ---- from a node to its place

get-left : {X : Type 0} (xs ys : List X) (i : ℕ) (x : X) → slice_get xs i ≡ Some x → slice_get (xs ++ ys) i ≡ Some x
get-left [] ys i x e = absurd cc
get-left (z ∷ xs) ys zero x e = e
get-left (z ∷ xs) ys (suc i) x e = get-left xs ys i x e

pub get-right : {X : Type 0} (xs ys : List X) (i n : ℕ) → n ≡ length xs + i → slice_get (xs ++ ys) n ≡ slice_get ys i
get-right [] ys i n e = let f : n ≡ i = omega arith in ap (slice_get ys) f
get-right (x ∷ xs) ys i zero e = absurd (omega arith)
get-right (x ∷ xs) ys i (suc n) e = get-right xs ys i n (omega arith)

mutual
  node-from : {d m e k : ℕ} {p q : Tree} → IsNodeUnder d m p e k q → m ≤ k
  node-from itself = omega arith
  node-from (in_part among) = omega (arith, among-from among)

  among-from : {m e k : ℕ} {ps : List (ℕ × Tree)} {q : Tree} → IsNodeAmongUnder m ps e k q → m ≤ k
  among-from (in_first node) = node-from node
  among-from (in_later among) = omega (arith, among-from among)

mutual
  placed : {d m e k : ℕ} {p q : Tree} → IsNodeUnder d m p e k q → (i : ℕ) → k ≡ m + i → slice_get (constant p ∷ below p) i ≡ Some (constant q)
  placed itself zero h = refl
  placed itself (suc i) h = absurd (omega arith)
  placed (in_part among) zero h = absurd (omega (arith, among-from among))
  placed (in_part {d = d} {p = p} among) (suc i) h = ap (λ (xs : List (Option Datum)). slice_get xs i) (below-parts d p) ∙ placed-among among i (omega arith)

  placed-among : {m e k : ℕ} {ps : List (ℕ × Tree)} {q : Tree} → IsNodeAmongUnder m ps e k q → (i : ℕ) → k ≡ m + i → slice_get (values_of ps) i ≡ Some (constant q)
  placed-among (in_first {p = p} {q = q} {ps = ps} node) i h = get-left (constant p ∷ below p) (values_of ps) i (constant q) (placed node i h)
  placed-among (in_later {p = p} {ps = ps} among) i h =
      let s = below-long p in
      let low = among-from among in
      let k : i ≡ length (constant p ∷ below p) + (i - nodes p) = omega arith in
      get-right (constant p ∷ below p) (values_of ps) (i - nodes p) i k ∙ placed-among among (i - nodes p) (omega arith)

abbrev pub found_value : Option (Option Datum) → Option Datum
found_value None = None
found_value (Some o) = o

-- the constant that is node k, if it is one
abbrev pub known : Tree → ℕ → Option Datum
known p k = found_value (slice_get (constant p ∷ below p) k)

pub known-is : {d k : ℕ} {p q : Tree} → IsNodeUnder 0 0 p d k q → known p k ≡ constant q
known-is {k = k} node = ap found_value (placed node k (omega arith))
