-- The number of a phrase's visits is at most that of its nodes, each as often as it is visited.
use Rattle.std.proofs.Common.{ℕ, suc, ◌+◌, ◌*◌, ◌≤◌, List, ◌∷◌, ◌++◌, length, arith}
use Rattle.std.proofs.lemmas.List.{length-append}
use Rattle.fy_types.specs.declared.types.Atom.TheVariants.{Compl}
use Rattle.fy_types.specs.Types.{PlainTypes, no_types, and_type}
use Rattle.fy_types.specs.Paths.{PlainPaths, paths}
use Rattle.fy_phrase.specs.Tree.{Tree, Trees, no_trees, and_tree, var, lit, unary, binary, cond, case, lam, app, field, sel, merge, let_in, rec, skip, seq, assign, while_do, forever, new, cells, escape, accept, put, read, mark}
use Rattle.fy_phrase.specs.Sizes.{nodes}
use Rattle.fy_phrase.specs.CoreLimits.{types_count, visits_of, parts_visits}
use Rattle.fy_derive.specs.Atoms.{data_atom, cell_type, sequence_type}
use Rattle.fy_derive.specs.Least.{one_end, least_type, Visit, visits, visits_under, visits_of_all}

-- under each alternative there are at most as many
under-length : (As : PlainTypes) (f : PlainPaths → List Visit) (n : ℕ) → ((D : PlainPaths) → length (f D) ≤ n) →
    length (visits_under As f) ≤ types_count As * n
under-length no_types f n h = omega arith
under-length (and_type A As) f n h =
    omega (arith, length-append (f (paths A)) (visits_under As f), h (paths A), under-length As f n h)

both-length : (us vs : List Visit) (m n : ℕ) → length us ≤ m → length vs ≤ n → suc (length (us ++ vs)) ≤ suc (m + n)
both-length us vs m n e f = omega (arith, length-append us vs)

one-length : (vs : List Visit) (n : ℕ) → length vs ≤ n → suc (length vs) ≤ suc n
one-length vs n e = omega arith

mutual
  pub visits-length : (p : Tree) (m : ℕ) (G : List PlainPaths) → length (visits m G p) ≤ visits_of p
  visits-length (var k at) m G = omega arith
  visits-length (lit v at) m G = omega arith
  visits-length (unary op p at) m G = one-length (visits (m + 1) G p) (visits_of p) (visits-length p (m + 1) G)
  visits-length (binary op p q at) m G = both-length (visits (m + 1) G p) (visits (m + 1 + nodes p) G q) (visits_of p) (visits_of q) (visits-length p (m + 1) G) (visits-length q (m + 1 + nodes p) G)
  visits-length (cond b p q at) m G = omega (
    arith,
    length-append (visits (m + 1) G b) (visits (m + 1 + nodes b) G p ++ visits (m + 1 + nodes b + nodes p) G q),
    length-append (visits (m + 1 + nodes b) G p) (visits (m + 1 + nodes b + nodes p) G q),
    visits-length b (m + 1) G,
    visits-length p (m + 1 + nodes b) G,
    visits-length q (m + 1 + nodes b + nodes p) G,
  )
  visits-length (case e parts at) m G = both-length (visits (m + 1) G e) (visits_of_all (m + 1 + nodes e) G parts) (visits_of e) (parts_visits parts) (visits-length e (m + 1) G) (parts-length parts (m + 1 + nodes e) G)
  visits-length (lam d As b at) m G =
      one-length (visits_under As (λ D. visits (m + 1) (D ∷ G) b)) (types_count As * visits_of b) (under-length As (λ D. visits (m + 1) (D ∷ G) b) (visits_of b) (λ D. visits-length b (m + 1) (D ∷ G)))
  visits-length (app p q at) m G = both-length (visits (m + 1) G p) (visits (m + 1 + nodes p) G q) (visits_of p) (visits_of q) (visits-length p (m + 1) G) (visits-length q (m + 1 + nodes p) G)
  visits-length (field i p at) m G = one-length (visits (m + 1) G p) (visits_of p) (visits-length p (m + 1) G)
  visits-length (sel p i at) m G = one-length (visits (m + 1) G p) (visits_of p) (visits-length p (m + 1) G)
  visits-length (merge p q at) m G = both-length (visits (m + 1) G p) (visits (m + 1 + nodes p) G q) (visits_of p) (visits_of q) (visits-length p (m + 1) G) (visits-length q (m + 1 + nodes p) G)
  visits-length (let_in d p b at) m G =
      both-length (visits (m + 1) G p) (visits (m + 1 + nodes p) (least_type G p ∷ G) b) (visits_of p) (visits_of b) (visits-length p (m + 1) G) (visits-length b (m + 1 + nodes p) (least_type G p ∷ G))
  visits-length (rec d T b at) m G = one-length (visits (m + 1) (paths T ∷ G) b) (visits_of b) (visits-length b (m + 1) (paths T ∷ G))
  visits-length (skip at) m G = omega arith
  visits-length (seq p q at) m G = both-length (visits (m + 1) G p) (visits (m + 1 + nodes p) G q) (visits_of p) (visits_of q) (visits-length p (m + 1) G) (visits-length q (m + 1 + nodes p) G)
  visits-length (assign p q at) m G = both-length (visits (m + 1) G p) (visits (m + 1 + nodes p) G q) (visits_of p) (visits_of q) (visits-length p (m + 1) G) (visits-length q (m + 1 + nodes p) G)
  visits-length (while_do b c at) m G = both-length (visits (m + 1) G b) (visits (m + 1 + nodes b) G c) (visits_of b) (visits_of c) (visits-length b (m + 1) G) (visits-length c (m + 1 + nodes b) G)
  visits-length (forever c at) m G = one-length (visits (m + 1) G c) (visits_of c) (visits-length c (m + 1) G)
  visits-length (new d D e b at) m G =
      both-length (visits (m + 1) G e) (visits (m + 1 + nodes e) (paths (cell_type D) ∷ G) b) (visits_of e) (visits_of b) (visits-length e (m + 1) G) (visits-length b (m + 1 + nodes e) (paths (cell_type D) ∷ G))
  visits-length (cells d e b at) m G =
      both-length (visits (m + 1) G e) (visits (m + 1 + nodes e) (paths sequence_type ∷ G) b) (visits_of e) (visits_of b) (visits-length e (m + 1) G) (visits-length b (m + 1 + nodes e) (paths sequence_type ∷ G))
  visits-length (escape d b at) m G = one-length (visits (m + 1) (one_end Compl ∷ G) b) (visits_of b) (visits-length b (m + 1) (one_end Compl ∷ G))
  visits-length (accept d D b at) m G = one-length (visits (m + 1) (one_end (data_atom D) ∷ G) b) (visits_of b) (visits-length b (m + 1) (one_end (data_atom D) ∷ G))
  visits-length (put kind p at) m G = one-length (visits (m + 1) G p) (visits_of p) (visits-length p (m + 1) G)
  visits-length (read p at) m G = one-length (visits (m + 1) G p) (visits_of p) (visits-length p (m + 1) G)
  visits-length (mark k at) m G = omega arith

  parts-length : (ps : Trees) (m : ℕ) (G : List PlainPaths) → length (visits_of_all m G ps) ≤ parts_visits ps
  parts-length no_trees m G = omega arith
  parts-length (and_tree p ps) m G = omega (
    arith,
    length-append (visits m G p) (visits_of_all (m + nodes p) G ps),
    visits-length p m G,
    parts-length ps (m + nodes p) G,
  )

-- each phrase is visited
pub visits-some : (p : Tree) → 1 ≤ visits_of p
visits-some (var k at) = omega arith
visits-some p = omega arith
