-- Merges in a phrase, and how many nodes are left beside them.
use Rattle.std.proofs.Common.{ℕ, ◌+◌, ◌-◌, ◌*◌, ◌≤◌, ◌≡◌, Some, refl, arith}
use Rattle.fy_base.specs.declared.data.Datum.{Datum}
use Rattle.fy_phrase.specs.Tree.{Tree, Trees, no_trees, and_tree, var, lit, unary, binary, cond as conditional, case, lam, app, field, sel, merge, let_in, rec, skip, seq, assign, while_do, forever, new, cells, escape, accept, put, read, mark}
use Rattle.fy_phrase.specs.Sizes.{nodes, all_nodes}
use Rattle.pe_right.specs.Constants.{value_of}
use Rattle.pe_right.proofs.ConstantLemmas.{unary-of, binary-of}

abbrev mutual
  pub merges : Tree → ℕ
  merges (var k at) = 0
  merges (lit v at) = 0
  merges (unary op p at) = merges p
  merges (binary op p q at) = merges p + merges q
  merges (conditional b p q at) = merges b + merges p + merges q
  merges (case e parts at) = merges e + all_merges parts
  merges (lam n As b at) = merges b
  merges (app p q at) = merges p + merges q
  merges (field i p at) = merges p
  merges (sel p i at) = merges p
  merges (merge p q at) = merges p + merges q + 1
  merges (let_in n p b at) = merges p + merges b
  merges (rec n T b at) = merges b
  merges (skip at) = 0
  merges (seq p q at) = merges p + merges q
  merges (assign p q at) = merges p + merges q
  merges (while_do b c at) = merges b + merges c
  merges (forever c at) = merges c
  merges (new n D e b at) = merges e + merges b
  merges (cells n e b at) = merges e + merges b
  merges (escape n b at) = merges b
  merges (accept n D b at) = merges b
  merges (put kind p at) = merges p
  merges (read p at) = merges p
  merges (mark m at) = 0

  pub all_merges : Trees → ℕ
  all_merges no_trees = 0
  all_merges (and_tree p ps) = merges p + all_merges ps

mutual
  -- fewer than half the nodes
  pub merges-half : (p : Tree) → 2 * merges p + 1 ≤ nodes p
  merges-half (var k at) = omega arith
  merges-half (lit v at) = omega arith
  merges-half (unary op p at) = let h0 = merges-half p in omega arith
  merges-half (binary op p q at) = let h0 = merges-half p in let h1 = merges-half q in omega arith
  merges-half (conditional b p q at) = let h0 = merges-half b in let h1 = merges-half p in let h2 = merges-half q in omega arith
  merges-half (case e parts at) = let h0 = merges-half e in let h1 = all-merges-half parts in omega arith
  merges-half (lam n As b at) = let h0 = merges-half b in omega arith
  merges-half (app p q at) = let h0 = merges-half p in let h1 = merges-half q in omega arith
  merges-half (field i p at) = let h0 = merges-half p in omega arith
  merges-half (sel p i at) = let h0 = merges-half p in omega arith
  merges-half (merge p q at) = let h0 = merges-half p in let h1 = merges-half q in omega arith
  merges-half (let_in n p b at) = let h0 = merges-half p in let h1 = merges-half b in omega arith
  merges-half (rec n T b at) = let h0 = merges-half b in omega arith
  merges-half (skip at) = omega arith
  merges-half (seq p q at) = let h0 = merges-half p in let h1 = merges-half q in omega arith
  merges-half (assign p q at) = let h0 = merges-half p in let h1 = merges-half q in omega arith
  merges-half (while_do b c at) = let h0 = merges-half b in let h1 = merges-half c in omega arith
  merges-half (forever c at) = let h0 = merges-half c in omega arith
  merges-half (new n D e b at) = let h0 = merges-half e in let h1 = merges-half b in omega arith
  merges-half (cells n e b at) = let h0 = merges-half e in let h1 = merges-half b in omega arith
  merges-half (escape n b at) = let h0 = merges-half b in omega arith
  merges-half (accept n D b at) = let h0 = merges-half b in omega arith
  merges-half (put kind p at) = let h0 = merges-half p in omega arith
  merges-half (read p at) = let h0 = merges-half p in omega arith
  merges-half (mark m at) = omega arith

  pub all-merges-half : (ps : Trees) → 2 * all_merges ps ≤ all_nodes ps
  all-merges-half no_trees = omega arith
  all-merges-half (and_tree p ps) = let h0 = merges-half p in let h1 = all-merges-half ps in omega arith

pub merges-few : (p : Tree) → merges p + 1 ≤ nodes p
merges-few p = let h = merges-half p in omega arith

pub all-merges-few : (ps : Trees) → all_merges ps ≤ all_nodes ps
all-merges-few ps = let h = all-merges-half ps in omega arith

-- the nodes beside the merges, but one
abbrev pub spare : Tree → ℕ
spare p = nodes p - (merges p + 1)

-- more than half of a quarter
pub quarter-spare : (n : ℕ) (p : Tree) → 4 * n ≤ nodes p → 2 * n ≤ spare p
quarter-spare n p few = let h = merges-half p in omega arith

-- a constant has none
pub value-merges : (q : Tree) (v : Datum) → value_of q ≡ Some v → merges q ≡ 0
value-merges (lit u at) v e = refl
value-merges (unary op p at) v e = let x = unary-of op (value_of p) v e in value-merges p x.0 x.1
value-merges (binary op p q at) v e =
    let x = binary-of op (value_of p) (value_of q) v e in
    let h0 = value-merges p x.0 x.2 in
    let h1 = value-merges q x.1 x.3 in
    omega arith
value-merges q v e = absurd cc
