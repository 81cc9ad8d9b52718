-- A phrase has no more thunks than nodes.
use Rattle.std.proofs.Common.{◌≤◌, ◌≡◌, arith}
use Rattle.fy_phrase.specs.Tree.{Tree, Trees, no_trees, and_tree, var, lit, unary, binary, cond, case, lam, app, field, sel, merge, let_in, rec, skip, seq, assign, while_do, forever, new, cells, escape, accept, put, read, mark}
use Rattle.fy_phrase.specs.Sizes.{nodes, all_nodes, greatest_u32}
use Rattle.fy_derive.specs.Shapes.{thunks, all_thunks}

mutual
  thunks-few : (p : Tree) → thunks p ≤ nodes p
  thunks-few (var k at) = omega arith
  thunks-few (lit v at) = omega arith
  thunks-few (unary op p at) = omega (arith, thunks-few p)
  thunks-few (binary op p q at) = omega (arith, thunks-few p, thunks-few q)
  thunks-few (cond b p q at) = omega (arith, thunks-few b, thunks-few p, thunks-few q)
  thunks-few (case e parts at) = omega (arith, thunks-few e, all-few parts)
  thunks-few (lam d As b at) = omega (arith, thunks-few b)
  thunks-few (app p q at) = omega (arith, thunks-few p, thunks-few q)
  thunks-few (field i p at) = omega (arith, thunks-few p)
  thunks-few (sel p i at) = omega (arith, thunks-few p)
  thunks-few (merge p q at) = omega (arith, thunks-few p, thunks-few q)
  thunks-few (let_in d p b at) = omega (arith, thunks-few p, thunks-few b)
  thunks-few (rec d T b at) = omega (arith, thunks-few b)
  thunks-few (skip at) = omega arith
  thunks-few (seq p q at) = omega (arith, thunks-few p, thunks-few q)
  thunks-few (assign p q at) = omega (arith, thunks-few p, thunks-few q)
  thunks-few (while_do b c at) = omega (arith, thunks-few b, thunks-few c)
  thunks-few (forever c at) = omega (arith, thunks-few c)
  thunks-few (new d D e b at) = omega (arith, thunks-few e, thunks-few b)
  thunks-few (cells d e b at) = omega (arith, thunks-few e, thunks-few b)
  thunks-few (escape d b at) = omega (arith, thunks-few b)
  thunks-few (accept d D b at) = omega (arith, thunks-few b)
  thunks-few (put kind p at) = omega (arith, thunks-few p)
  thunks-few (read p at) = omega (arith, thunks-few p)
  thunks-few (mark m at) = omega arith

  all-few : (ps : Trees) → all_thunks ps ≤ all_nodes ps
  all-few no_trees = omega arith
  all-few (and_tree p ps) = omega (arith, thunks-few p, all-few ps)

-- so the count in 32 bits is exact
pub thunks-exact : (p : Tree) → nodes p ≤ 65536 → greatest_u32 (thunks p) ≡ thunks p
thunks-exact p h = omega (arith, thunks-few p)
