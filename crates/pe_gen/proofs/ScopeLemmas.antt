-- What is so of a whole program is so of each of its nodes: its variables are bound, its binders carry their depths, it is well made and not deep.
use Rattle.std.proofs.Common.{ℕ, suc, ◌+◌, ◌≤◌, ◌≡◌, List, [], ◌∷◌, subst, arith}
use Rattle.fy_phrase.specs.Sizes.{depth, all_depth}
use Rattle.fy_phrase.specs.Tree.{Tree, Trees, var, lit, unary, binary, cond, case, lam, app, field, sel, merge, let_in, rec, skip, seq, assign, while_do, forever, new, cells, escape, accept, put, read, mark, no_trees, and_tree}
use Rattle.fy_phrase.specs.WellMade.{IsClosedUnder, AreClosedUnder, HasDepthsUnder, HaveDepthsUnder, IsWellMade, AreWellMade}
use Rattle.pe_right.specs.Right.{with_depth, parts_under, IsNodeUnder, itself, in_part, IsNodeAmongUnder, in_first, in_later}

-- a phrase under d binders that a program has
pub record IsScoped (d : ℕ) (p : Tree) : Type 0 where
  pub closed : IsClosedUnder d p
  pub depths : HasDepthsUnder d p
  pub made : IsWellMade p
  pub low : depth p ≤ 511
  pub few : d ≤ 512

abbrev pub AreScoped : List (ℕ × Tree) → Type 0
AreScoped [] = Unit {0}
AreScoped (x ∷ xs) = IsScoped x.0 x.1 × AreScoped xs

scoped : (d : ℕ) (p : Tree) → IsClosedUnder d p → HasDepthsUnder d p → IsWellMade p → depth p ≤ 511 → d ≤ 512 → IsScoped d p
scoped d p closed depths made low few = record { closed = closed; depths = depths; made = made; low = low; few = few }

-- the same under one more binder
inside : (d n : ℕ) (p : Tree) → IsClosedUnder (suc d) p → HasDepthsUnder (suc d) p → IsWellMade p → depth p ≤ 511 → n ≡ d → n ≤ 511 → IsScoped (d + 1) p
inside d n p closed depths made low at few =
    let next : suc d ≡ d + 1 = omega arith in
    scoped (d + 1) p (subst (λ k. IsClosedUnder k p) next closed) (subst (λ k. HasDepthsUnder k p) next depths) made low (omega arith)

all-scoped : (d : ℕ) (ps : Trees) → AreClosedUnder d ps → HaveDepthsUnder d ps → AreWellMade ps → all_depth ps ≤ 511 → d ≤ 512 → AreScoped (with_depth d ps)
all-scoped d no_trees closed depths made low few = tt
all-scoped d (and_tree p ps) closed depths made low few =
    (scoped d p closed.0 depths.0 made.0 (omega arith) few, all-scoped d ps closed.1 depths.1 made.1 (omega arith) few)

parts-scoped : (d : ℕ) (p : Tree) → IsScoped d p → AreScoped (parts_under d p)
parts-scoped d (var k at) s = tt
parts-scoped d (lit v at) s = tt
parts-scoped d (unary op p at) s = (scoped d p s.closed s.depths s.made s.low s.few, tt)
parts-scoped d (binary op p q at) s = (
  scoped d p s.closed.0 s.depths.0 s.made.0 (omega (arith, s.low)) s.few,
  (scoped d q s.closed.1 s.depths.1 s.made.1 (omega (arith, s.low)) s.few, tt),
)
parts-scoped d (cond b p q at) s = (
  scoped d b s.closed.0 s.depths.0 s.made.0 (omega (arith, s.low)) s.few,
  (
    scoped d p s.closed.1 s.depths.1 s.made.1 (omega (arith, s.low)) s.few,
    (scoped d q s.closed.2 s.depths.2 s.made.2 (omega (arith, s.low)) s.few, tt),
  ),
)
parts-scoped d (case e parts at) s = (
  scoped d e s.closed.0 s.depths.0 s.made.0 (omega (arith, s.low)) s.few,
  all-scoped d parts s.closed.1 s.depths.1 s.made.2 (omega (arith, s.low)) s.few,
)
parts-scoped d (lam n As b at) s = (inside d n b s.closed s.depths.1 s.made (omega (arith, s.low)) s.depths.0 (omega (arith, s.low)), tt)
parts-scoped d (app p q at) s = (
  scoped d p s.closed.0 s.depths.0 s.made.0 (omega (arith, s.low)) s.few,
  (scoped d q s.closed.1 s.depths.1 s.made.1 (omega (arith, s.low)) s.few, tt),
)
parts-scoped d (field i p at) s = (scoped d p s.closed s.depths s.made s.low s.few, tt)
parts-scoped d (sel p i at) s = (scoped d p s.closed s.depths s.made s.low s.few, tt)
parts-scoped d (merge p q at) s = (
  scoped d p s.closed.0 s.depths.0 s.made.0 (omega (arith, s.low)) s.few,
  (scoped d q s.closed.1 s.depths.1 s.made.2 (omega (arith, s.low)) s.few, tt),
)
parts-scoped d (let_in n p b at) s = (
  scoped d p s.closed.0 s.depths.1 s.made.0 (omega (arith, s.low)) s.few,
  (inside d n b s.closed.1 s.depths.2 s.made.1 (omega (arith, s.low)) s.depths.0 (omega (arith, s.low)), tt),
)
parts-scoped d (rec n T b at) s = (inside d n b s.closed s.depths.1 s.made (omega (arith, s.low)) s.depths.0 (omega (arith, s.low)), tt)
parts-scoped d (skip at) s = tt
parts-scoped d (seq p q at) s = (
  scoped d p s.closed.0 s.depths.0 s.made.0 (omega (arith, s.low)) s.few,
  (scoped d q s.closed.1 s.depths.1 s.made.1 (omega (arith, s.low)) s.few, tt),
)
parts-scoped d (assign p q at) s = (
  scoped d p s.closed.0 s.depths.0 s.made.0 (omega (arith, s.low)) s.few,
  (scoped d q s.closed.1 s.depths.1 s.made.1 (omega (arith, s.low)) s.few, tt),
)
parts-scoped d (while_do b c at) s = (
  scoped d b s.closed.0 s.depths.0 s.made.0 (omega (arith, s.low)) s.few,
  (scoped d c s.closed.1 s.depths.1 s.made.1 (omega (arith, s.low)) s.few, tt),
)
parts-scoped d (forever c at) s = (scoped d c s.closed s.depths s.made s.low s.few, tt)
parts-scoped d (new n D e b at) s = (
  scoped d e s.closed.0 s.depths.1 s.made.0 (omega (arith, s.low)) s.few,
  (inside d n b s.closed.1 s.depths.2 s.made.1 (omega (arith, s.low)) s.depths.0 (omega (arith, s.low)), tt),
)
parts-scoped d (cells n e b at) s = (
  scoped d e s.closed.0 s.depths.1 s.made.0 (omega (arith, s.low)) s.few,
  (inside d n b s.closed.1 s.depths.2 s.made.1 (omega (arith, s.low)) s.depths.0 (omega (arith, s.low)), tt),
)
parts-scoped d (escape n b at) s = (inside d n b s.closed s.depths.1 s.made (omega (arith, s.low)) s.depths.0 (omega (arith, s.low)), tt)
parts-scoped d (accept n D b at) s = (inside d n b s.closed s.depths.1 s.made (omega (arith, s.low)) s.depths.0 (omega (arith, s.low)), tt)
parts-scoped d (put kind p at) s = (scoped d p s.closed s.depths s.made s.low s.few, tt)
parts-scoped d (read p at) s = (scoped d p s.closed s.depths s.made s.low s.few, tt)
parts-scoped d (mark m at) s = tt

mutual
  pub node-scoped : {d m e k : ℕ} {p q : Tree} → IsNodeUnder d m p e k q → IsScoped d p → IsScoped e q
  node-scoped itself s = s
  node-scoped (in_part {d = d} {p = p} among) s = among-scoped among (parts-scoped d p s)

  among-scoped : {m e k : ℕ} {ps : List (ℕ × Tree)} {q : Tree} → IsNodeAmongUnder m ps e k q → AreScoped ps → IsScoped e q
  among-scoped (in_first node) s = node-scoped node s.0
  among-scoped (in_later among) s = among-scoped among s.1
