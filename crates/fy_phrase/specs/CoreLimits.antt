-- The limits on core phrases: on what they measure, and on the types that they are written with.
use Rattle.std.specs.Prelude.{ℕ, suc, ◌+◌, ◌*◌, ◌≤◌, max}
use Rattle.fy_types.specs.Types.{PlainTypes}
use Rattle.fy_types.specs.Nested.{type_nodes, types_nodes, type_nesting}
use Rattle.fy_phrase.specs.Tree.{Tree, Trees, no_trees, and_tree, var, lit, unary, binary, cond, case, lam, app, field, sel, merge, let_in, rec, skip, seq, assign, while_do, forever, new, cells, escape, accept, put, read, mark}
use Rattle.fy_phrase.specs.Sizes.{nesting}

abbrev mutual
  -- the number of nodes, those of its types counted
  pub size_of : Tree → ℕ
  size_of (var k at) = 1
  size_of (lit v at) = 1
  size_of (unary op p at) = suc (size_of p)
  size_of (binary op p q at) = suc (size_of p + size_of q)
  size_of (cond b p q at) = suc (size_of b + size_of p + size_of q)
  size_of (case e parts at) = suc (size_of e + parts_size parts)
  size_of (lam d alternatives p at) = suc (types_nodes alternatives + size_of p)
  size_of (app p q at) = suc (size_of p + size_of q)
  size_of (field i p at) = suc (size_of p)
  size_of (sel p i at) = suc (size_of p)
  size_of (merge p q at) = suc (size_of p + size_of q)
  size_of (let_in d p q at) = suc (size_of p + size_of q)
  size_of (rec d T p at) = suc (type_nodes T + size_of p)
  size_of (skip at) = 1
  size_of (seq p q at) = suc (size_of p + size_of q)
  size_of (assign p q at) = suc (size_of p + size_of q)
  size_of (while_do b p at) = suc (size_of b + size_of p)
  size_of (forever p at) = suc (size_of p)
  size_of (new d D p q at) = suc (size_of p + size_of q)
  size_of (cells d p q at) = suc (size_of p + size_of q)
  size_of (escape d p at) = suc (size_of p)
  size_of (accept d D p at) = suc (size_of p)
  size_of (put kind p at) = suc (size_of p)
  size_of (read p at) = suc (size_of p)
  size_of (mark m at) = 1

  pub parts_size : Trees → ℕ
  parts_size no_trees = 0
  parts_size (and_tree p more) = size_of p + parts_size more

-- the number of an abstraction's alternatives
abbrev pub types_count : PlainTypes → ℕ
types_count PlainTypes.no_types = 0
types_count (PlainTypes.and_type A As) = suc (types_count As)

abbrev mutual
  -- the number of nodes, types left out, where an abstraction's body counts once for each alternative
  pub visits_of : Tree → ℕ
  visits_of (var k at) = 1
  visits_of (lit v at) = 1
  visits_of (unary op p at) = suc (visits_of p)
  visits_of (binary op p q at) = suc (visits_of p + visits_of q)
  visits_of (cond b p q at) = suc (visits_of b + visits_of p + visits_of q)
  visits_of (case e parts at) = suc (visits_of e + parts_visits parts)
  visits_of (lam d alternatives p at) = suc (types_count alternatives * visits_of p)
  visits_of (app p q at) = suc (visits_of p + visits_of q)
  visits_of (field i p at) = suc (visits_of p)
  visits_of (sel p i at) = suc (visits_of p)
  visits_of (merge p q at) = suc (visits_of p + visits_of q)
  visits_of (let_in d p q at) = suc (visits_of p + visits_of q)
  visits_of (rec d T p at) = suc (visits_of p)
  visits_of (skip at) = 1
  visits_of (seq p q at) = suc (visits_of p + visits_of q)
  visits_of (assign p q at) = suc (visits_of p + visits_of q)
  visits_of (while_do b p at) = suc (visits_of b + visits_of p)
  visits_of (forever p at) = suc (visits_of p)
  visits_of (new d D p q at) = suc (visits_of p + visits_of q)
  visits_of (cells d p q at) = suc (visits_of p + visits_of q)
  visits_of (escape d p at) = suc (visits_of p)
  visits_of (accept d D p at) = suc (visits_of p)
  visits_of (put kind p at) = suc (visits_of p)
  visits_of (read p at) = suc (visits_of p)
  visits_of (mark m at) = 1

  pub parts_visits : Trees → ℕ
  parts_visits no_trees = 0
  parts_visits (and_tree p more) = visits_of p + parts_visits more

abbrev mutual
  -- the nesting of the deepest type of a recursion, or 0 where there is none
  pub deepest_written : Tree → ℕ
  deepest_written (var k at) = 0
  deepest_written (lit v at) = 0
  deepest_written (unary op p at) = deepest_written p
  deepest_written (binary op p q at) = max (deepest_written p) (deepest_written q)
  deepest_written (cond b p q at) = max (deepest_written b) (max (deepest_written p) (deepest_written q))
  deepest_written (case e parts at) = max (deepest_written e) (deepest_of_parts parts)
  deepest_written (lam d As b at) = deepest_written b
  deepest_written (app p q at) = max (deepest_written p) (deepest_written q)
  deepest_written (field i p at) = deepest_written p
  deepest_written (sel p i at) = deepest_written p
  deepest_written (merge p q at) = max (deepest_written p) (deepest_written q)
  deepest_written (let_in d p b at) = max (deepest_written p) (deepest_written b)
  deepest_written (rec d T b at) = max (type_nesting T) (deepest_written b)
  deepest_written (skip at) = 0
  deepest_written (seq p q at) = max (deepest_written p) (deepest_written q)
  deepest_written (assign p q at) = max (deepest_written p) (deepest_written q)
  deepest_written (while_do b c at) = max (deepest_written b) (deepest_written c)
  deepest_written (forever c at) = deepest_written c
  deepest_written (new d D e b at) = max (deepest_written e) (deepest_written b)
  deepest_written (cells d e b at) = max (deepest_written e) (deepest_written b)
  deepest_written (escape d b at) = deepest_written b
  deepest_written (accept d D b at) = deepest_written b
  deepest_written (put kind p at) = deepest_written p
  deepest_written (read p at) = deepest_written p
  deepest_written (mark m at) = 0

  pub deepest_of_parts : Trees → ℕ
  deepest_of_parts no_trees = 0
  deepest_of_parts (and_tree p ps) = max (deepest_written p) (deepest_of_parts ps)

-- the nesting of the deepest type that a recursion is written with: of 256, in a field and a meet
abbrev pub most_written_nesting : ℕ
most_written_nesting = 258

-- the phrase keeps the limits on its nesting, its nodes and its visits, and its recursions are written with types within theirs
pub record KeepsCoreLimits (p : Tree) : Type 0 where
  pub shallow : nesting p ≤ 512
  pub small : size_of p ≤ 65536
  pub few_visits : visits_of p ≤ 65536
  pub written : deepest_written p ≤ most_written_nesting
