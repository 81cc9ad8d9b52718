-- The nodes that thunks are made of: node by node, how many, and that each node's own are among them.
use Rattle.std.proofs.Common.{ℕ, zero, suc, ◌+◌, ◌≤◌, ◌≡◌, List, [], ◌∷◌, ◌++◌, length, take, Some, None, refl, ap, sym, ◌∙◌, subst, arith}
use Rattle.std.specs.Prelude.{slice_get}
use Rattle.std.proofs.lemmas.List.{append-nil, append_assoc, length-append, length-take-le, take_more}
use Rattle.std.proofs.lemmas.Option.{get_or_from_slice_get}
use Rattle.fy_base.specs.declared.data.Place.{Place}
use Rattle.fy_phrase.specs.Sizes.{nodes}
use Rattle.fy_phrase.specs.Tree.{Tree, Trees, var, lit, unary, binary, cond, case, lam, app, field, sel, merge, let_in, rec, skip, seq, assign, while_do, forever, new, cells, escape, accept, put, read, mark, no_trees, and_tree}
use Rattle.fy_derive.specs.Shapes.{thunks, all_thunks}
use Rattle.pe_gen.specs.Preorder.{preorder, own_thunks, thunks_from}
use Rattle.pe_right.specs.Right.{with_depth, parts_under, IsNodeUnder, itself, in_part, IsNodeAmongUnder, in_first, in_later, thunk_nodes, all_thunk_nodes}
use Rattle.pe_gen.specs.declared.thunks.ThunkOf.TheVariants.{Argument, Definition, Itself}
use Rattle.pe_gen.specs.Thunks.{thunk_of}
use Rattle.pe_gen.proofs.Gets.{get-within, get-left, get-right}
use Rattle.pe_gen.proofs.NodeLists.{total, preorder_of_all, parts-total, below-parts, length-preorder}

-- those of phrases of which the first has the number m
abbrev thunks_of_all : ℕ → List (ℕ × Tree) → List ℕ
thunks_of_all m [] = []
thunks_of_all m (x ∷ xs) = thunk_nodes m x.1 ++ thunks_of_all (m + nodes x.1) xs

one-part : (m d : ℕ) (p : Tree) → thunk_nodes m p ≡ thunks_of_all m ((d, p) ∷ [])
one-part m d p = sym (append-nil (thunk_nodes m p))

two-parts : (m d e : ℕ) (p q : Tree) → thunk_nodes m p ++ thunk_nodes (m + nodes p) q ≡ thunks_of_all m ((d, p) ∷ (e, q) ∷ [])
two-parts m d e p q = ap (λ xs. thunk_nodes m p ++ xs) (one-part (m + nodes p) e q)

all-parts : (m d : ℕ) (ps : Trees) → all_thunk_nodes m ps ≡ thunks_of_all m (with_depth d ps)
all-parts m d no_trees = refl
all-parts m d (and_tree p ps) = ap (λ xs. thunk_nodes m p ++ xs) (all-parts (m + nodes p) d ps)

-- a form's own are in front of its parts'
thunks-parts : (m d : ℕ) (p : Tree) → thunk_nodes m p ≡ own_thunks m p ++ thunks_of_all (m + 1) (parts_under d p)
thunks-parts m d (var k at) = refl
thunks-parts m d (lit v at) = refl
thunks-parts m d (unary op p at) = one-part (m + 1) d p
thunks-parts m d (binary op p q at) = two-parts (m + 1) d d p q
thunks-parts m d (cond b p q at) = ap (λ xs. thunk_nodes (m + 1) b ++ xs) (two-parts (m + 1 + nodes b) d d p q)
thunks-parts m d (case e parts at) = ap (λ xs. thunk_nodes (m + 1) e ++ xs) (all-parts (m + 1 + nodes e) d parts)
thunks-parts m d (lam n As b at) = one-part (m + 1) (d + 1) b
thunks-parts m d (app p q at) = ap (λ xs. (m + 1 + nodes p) ∷ xs) (two-parts (m + 1) d d p q)
thunks-parts m d (field i p at) = one-part (m + 1) d p
thunks-parts m d (sel p i at) = one-part (m + 1) d p
thunks-parts m d (merge p q at) = two-parts (m + 1) d d p q
thunks-parts m d (let_in n p b at) = ap (λ xs. (m + 1) ∷ xs) (two-parts (m + 1) d (d + 1) p b)
thunks-parts m d (rec n T b at) = ap (λ xs. m ∷ xs) (one-part (m + 1) (d + 1) b)
thunks-parts m d (skip at) = refl
thunks-parts m d (seq p q at) = two-parts (m + 1) d d p q
thunks-parts m d (assign p q at) = two-parts (m + 1) d d p q
thunks-parts m d (while_do b c at) = two-parts (m + 1) d d b c
thunks-parts m d (forever c at) = one-part (m + 1) d c
thunks-parts m d (new n D e b at) = two-parts (m + 1) d (d + 1) e b
thunks-parts m d (cells n e b at) = two-parts (m + 1) d (d + 1) e b
thunks-parts m d (escape n b at) = one-part (m + 1) (d + 1) b
thunks-parts m d (accept n D b at) = one-part (m + 1) (d + 1) b
thunks-parts m d (put kind p at) = one-part (m + 1) d p
thunks-parts m d (read p at) = one-part (m + 1) d p
thunks-parts m d (mark k at) = refl

-- ---- node by node

pub thunks_from-append : (k : ℕ) (xs ys : List (ℕ × Tree)) → thunks_from k (xs ++ ys) ≡ thunks_from k xs ++ thunks_from (k + length xs) ys
thunks_from-append k [] ys = let e : k ≡ k + 0 = omega arith in ap (λ n. thunks_from n ys) e
thunks_from-append k (x ∷ xs) ys =
    let e : k + 1 + length xs ≡ k + suc (length xs) = omega arith in
    ap (λ zs. own_thunks k x.1 ++ zs) (thunks_from-append (k + 1) xs ys ∙ ap (λ n. thunks_from (k + 1) xs ++ thunks_from n ys) e)
    ∙ sym (append_assoc (own_thunks k x.1) (thunks_from (k + 1) xs) (thunks_from (k + suc (length xs)) ys))

from-all : (n : ℕ) → ((m d : ℕ) (p : Tree) → nodes p ≤ n → thunks_from m (preorder d p) ≡ thunk_nodes m p) → (m : ℕ) (ps : List (ℕ × Tree)) → total ps ≤ n →
    thunks_from m (preorder_of_all ps) ≡ thunks_of_all m ps
from-all n one m [] h = refl
from-all n one m (x ∷ ps) h =
    thunks_from-append m (preorder x.0 x.1) (preorder_of_all ps)
    ∙ (ap (λ xs. xs ++ thunks_from (m + length (preorder x.0 x.1)) (preorder_of_all ps)) (one m x.0 x.1 (omega arith))
    ∙ (ap (λ k. thunk_nodes m x.1 ++ thunks_from (m + k) (preorder_of_all ps)) (length-preorder x.0 x.1)
    ∙ ap (λ xs. thunk_nodes m x.1 ++ xs) (from-all n one (m + nodes x.1) ps (omega arith))))

from-upto : (n m d : ℕ) (p : Tree) → nodes p ≤ n → thunks_from m (preorder d p) ≡ thunk_nodes m p
from-upto zero m d p h = absurd (omega (arith, parts-total d p))
from-upto (suc n) m d p h =
    ap (λ xs. own_thunks m p ++ thunks_from (m + 1) xs) (below-parts d p)
    ∙ (ap (λ xs. own_thunks m p ++ xs) (from-all n (from-upto n) (m + 1) (parts_under d p) (omega (arith, parts-total d p)))
    ∙ sym (thunks-parts m d p))

pub thunks_from-preorder : (m d : ℕ) (p : Tree) → thunks_from m (preorder d p) ≡ thunk_nodes m p
thunks_from-preorder m d p = from-upto (nodes p) m d p (omega arith)

-- ---- how many

count_of_all : List (ℕ × Tree) → ℕ
count_of_all [] = 0
count_of_all (x ∷ xs) = thunks x.1 + count_of_all xs

count-with_depth : (d : ℕ) (ps : Trees) → all_thunks ps ≡ count_of_all (with_depth d ps)
unfolding count_of_all
count-with_depth d no_trees = refl
count-with_depth d (and_tree p ps) = ap (λ n. thunks p + n) (count-with_depth d ps)

count-parts : (m d : ℕ) (p : Tree) → thunks p ≡ length (own_thunks m p) + count_of_all (parts_under d p)
unfolding count_of_all
count-parts m d (case e parts at) = omega (arith, count-with_depth d parts)
count-parts m d p = omega arith

count-all : (n : ℕ) → ((m : ℕ) (p : Tree) → nodes p ≤ n → length (thunk_nodes m p) ≡ thunks p) → (m : ℕ) (ps : List (ℕ × Tree)) → total ps ≤ n →
    length (thunks_of_all m ps) ≡ count_of_all ps
unfolding count_of_all
count-all n one m [] h = refl
count-all n one m (x ∷ ps) h =
    omega (arith, length-append (thunk_nodes m x.1) (thunks_of_all (m + nodes x.1) ps), one m x.1 (omega arith), count-all n one (m + nodes x.1) ps (omega arith))

count-upto : (n m : ℕ) (p : Tree) → nodes p ≤ n → length (thunk_nodes m p) ≡ thunks p
count-upto zero m p h = absurd (omega (arith, parts-total 0 p))
count-upto (suc n) m p h =
    omega (
      arith,
      ap length (thunks-parts m 0 p),
      length-append (own_thunks m p) (thunks_of_all (m + 1) (parts_under 0 p)),
      count-parts m 0 p,
      count-all n (count-upto n) (m + 1) (parts_under 0 p) (omega (arith, parts-total 0 p)),
    )

pub length-thunk_nodes : (m : ℕ) (p : Tree) → length (thunk_nodes m p) ≡ thunks p
length-thunk_nodes m p = count-upto (nodes p) m p (omega arith)

-- ---- each node's own

-- the number stands in the list
abbrev pub Stands : List ℕ → ℕ → Type 0
Stands ns n = (i : ℕ) × (slice_get ns i ≡ Some n)

stands-left : (xs ys : List ℕ) (n : ℕ) → Stands xs n → Stands (xs ++ ys) n
stands-left xs ys n s = (s.0, get-left xs ys s.0 (get-within xs s.0 n s.1) ∙ s.1)

stands-right : (xs ys : List ℕ) (n : ℕ) → Stands ys n → Stands (xs ++ ys) n
stands-right xs ys n s = (length xs + s.0, get-right xs ys s.0 (length xs + s.0) refl ∙ s.1)

mutual
  pub own-stands : {d m e k : ℕ} {p q : Tree} → IsNodeUnder d m p e k q → (n : ℕ) → Stands (own_thunks k q) n → Stands (thunk_nodes m p) n
  own-stands (itself {d = d} {m = m} {p = p}) n s =
      subst (λ ns. Stands ns n) (sym (thunks-parts m d p)) (stands-left (own_thunks m p) (thunks_of_all (m + 1) (parts_under d p)) n s)
  own-stands (in_part {d = d} {m = m} {p = p} among) n s =
      subst (λ ns. Stands ns n) (sym (thunks-parts m d p)) (stands-right (own_thunks m p) (thunks_of_all (m + 1) (parts_under d p)) n (own-among among n s))

  own-among : {m e k : ℕ} {ps : List (ℕ × Tree)} {q : Tree} → IsNodeAmongUnder m ps e k q → (n : ℕ) → Stands (own_thunks k q) n → Stands (thunks_of_all m ps) n
  own-among (in_first {m = m} {p = p} {ps = ps} node) n s = stands-left (thunk_nodes m p) (thunks_of_all (m + nodes p) ps) n (own-stands node n s)
  own-among (in_later {m = m} {p = p} {ps = ps} among) n s = stands-right (thunk_nodes m p) (thunks_of_all (m + nodes p) ps) n (own-among among n s)

-- ---- by the form

pub argument-form : (q : Tree) → Some Argument ≡ thunk_of q → (f : Tree) × (a : Tree) × (at : Place) × (q ≡ app f a at)
argument-form (app f a at) e = (f, a, at, refl)
argument-form q e = absurd cc

pub definition-form : (q : Tree) → Some Definition ≡ thunk_of q → (n : ℕ) × (a : Tree) × (b : Tree) × (at : Place) × (q ≡ let_in n a b at)
definition-form (let_in n a b at) e = (n, a, b, at, refl)
definition-form q e = absurd cc

pub itself-form : (q : Tree) (k : ℕ) → Some Itself ≡ thunk_of q → k ∷ [] ≡ own_thunks k q
itself-form (rec n T b at) k e = refl
itself-form q k e = absurd cc

pub no-form : (q : Tree) (k : ℕ) → None ≡ thunk_of q → [] ≡ own_thunks k q
no-form (app f a at) k e = absurd cc
no-form (let_in n a b at) k e = absurd cc
no-form (rec n T b at) k e = absurd cc
no-form q k e = refl

-- one node more
pub thunks_from-more : (ns : List (ℕ × Tree)) (i d : ℕ) (q : Tree) → slice_get ns i ≡ Some (d, q) → thunks_from 0 (take (i + 1) ns) ≡ thunks_from 0 (take i ns) ++ own_thunks i q
thunks_from-more ns i d q at =
    let lt = get-within ns i (d, q) at in
    let number : 0 + length (take i ns) ≡ i = omega (arith, length-take-le i ns (omega arith)) in
    ap (thunks_from 0) (take_more ns i (d, q) lt)
    ∙ (ap (λ x. thunks_from 0 (take i ns ++ x ∷ [])) (get_or_from_slice_get ns i (d, q) (d, q) at)
    ∙ (thunks_from-append 0 (take i ns) ((d, q) ∷ [])
    ∙ ap (λ xs. thunks_from 0 (take i ns) ++ xs) (append-nil (own_thunks (0 + length (take i ns)) q) ∙ ap (λ k. own_thunks k q) number)))
