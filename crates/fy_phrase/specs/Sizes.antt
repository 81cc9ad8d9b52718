-- How large a phrase is.
use Rattle.std.specs.Prelude.{ℕ, ◌+◌, ◌-◌, ◌^◌, min, max, Bool, nat_le, ◌&&◌}
use Rattle.fy_phrase.specs.Tree.{Tree, Trees, var, lit, unary, binary, cond, case, lam, app, field, sel, merge, let_in, rec, skip, seq, assign, while_do, forever, new, cells, escape, accept, put, read, mark, no_trees, and_tree}

-- the number of nodes
abbrev mutual
  pub nodes : Tree → ℕ
  nodes (var k at) = 1
  nodes (lit v at) = 1
  nodes (unary op p at) = 1 + nodes p
  nodes (binary op p q at) = 1 + nodes p + nodes q
  nodes (cond b p q at) = 1 + nodes b + nodes p + nodes q
  nodes (case e parts at) = 1 + nodes e + all_nodes parts
  nodes (lam d alternatives body at) = 1 + nodes body
  nodes (app p q at) = 1 + nodes p + nodes q
  nodes (field i p at) = 1 + nodes p
  nodes (sel p i at) = 1 + nodes p
  nodes (merge p q at) = 1 + nodes p + nodes q
  nodes (let_in d p body at) = 1 + nodes p + nodes body
  nodes (rec d T body at) = 1 + nodes body
  nodes (skip at) = 1
  nodes (seq p q at) = 1 + nodes p + nodes q
  nodes (assign p q at) = 1 + nodes p + nodes q
  nodes (while_do b c at) = 1 + nodes b + nodes c
  nodes (forever c at) = 1 + nodes c
  nodes (new d D e body at) = 1 + nodes e + nodes body
  nodes (cells d e body at) = 1 + nodes e + nodes body
  nodes (escape d body at) = 1 + nodes body
  nodes (accept d D body at) = 1 + nodes body
  nodes (put kind p at) = 1 + nodes p
  nodes (read p at) = 1 + nodes p
  nodes (mark m at) = 1

  pub all_nodes : Trees → ℕ
  all_nodes no_trees = 0
  all_nodes (and_tree p ps) = nodes p + all_nodes ps

-- the greatest depth of a binder, or 0 where there is none
abbrev mutual
  pub depth : Tree → ℕ
  depth (var k at) = 0
  depth (lit v at) = 0
  depth (unary op p at) = depth p
  depth (binary op p q at) = max (depth p) (depth q)
  depth (cond b p q at) = max (depth b) (max (depth p) (depth q))
  depth (case e parts at) = max (depth e) (all_depth parts)
  depth (lam d alternatives body at) = max d (depth body)
  depth (app p q at) = max (depth p) (depth q)
  depth (field i p at) = depth p
  depth (sel p i at) = depth p
  depth (merge p q at) = max (depth p) (depth q)
  depth (let_in d p body at) = max d (max (depth p) (depth body))
  depth (rec d T body at) = max d (depth body)
  depth (skip at) = 0
  depth (seq p q at) = max (depth p) (depth q)
  depth (assign p q at) = max (depth p) (depth q)
  depth (while_do b c at) = max (depth b) (depth c)
  depth (forever c at) = depth c
  depth (new d D e body at) = max d (max (depth e) (depth body))
  depth (cells d e body at) = max d (max (depth e) (depth body))
  depth (escape d body at) = max d (depth body)
  depth (accept d D body at) = max d (depth body)
  depth (put kind p at) = depth p
  depth (read p at) = depth p
  depth (mark m at) = 0

  pub all_depth : Trees → ℕ
  all_depth no_trees = 0
  all_depth (and_tree p ps) = max (depth p) (all_depth ps)

-- the greatest number of nodes on one path
abbrev mutual
  pub nesting : Tree → ℕ
  nesting (var k at) = 1
  nesting (lit v at) = 1
  nesting (unary op p at) = 1 + nesting p
  nesting (binary op p q at) = 1 + max (nesting p) (nesting q)
  nesting (cond b p q at) = 1 + max (nesting b) (max (nesting p) (nesting q))
  nesting (case e parts at) = 1 + max (nesting e) (all_nesting parts)
  nesting (lam d alternatives body at) = 1 + nesting body
  nesting (app p q at) = 1 + max (nesting p) (nesting q)
  nesting (field i p at) = 1 + nesting p
  nesting (sel p i at) = 1 + nesting p
  nesting (merge p q at) = 1 + max (nesting p) (nesting q)
  nesting (let_in d p body at) = 1 + max (nesting p) (nesting body)
  nesting (rec d T body at) = 1 + nesting body
  nesting (skip at) = 1
  nesting (seq p q at) = 1 + max (nesting p) (nesting q)
  nesting (assign p q at) = 1 + max (nesting p) (nesting q)
  nesting (while_do b c at) = 1 + max (nesting b) (nesting c)
  nesting (forever c at) = 1 + nesting c
  nesting (new d D e body at) = 1 + max (nesting e) (nesting body)
  nesting (cells d e body at) = 1 + max (nesting e) (nesting body)
  nesting (escape d body at) = 1 + nesting body
  nesting (accept d D body at) = 1 + nesting body
  nesting (put kind p at) = 1 + nesting p
  nesting (read p at) = 1 + nesting p
  nesting (mark m at) = 1

  pub all_nesting : Trees → ℕ
  all_nesting no_trees = 0
  all_nesting (and_tree p ps) = max (nesting p) (all_nesting ps)

-- whether a runner of the copy rule holds the phrase
abbrev pub fits : Tree → Bool
fits p = nat_le (nesting p) 2048 && nat_le (nodes p) 1048576

-- a number, or the greatest of its type
abbrev pub greatest_u32 : ℕ → ℕ
greatest_u32 n = min n (2 ^ 32 - 1)

abbrev pub greatest_u64 : ℕ → ℕ
greatest_u64 n = min n (2 ^ 64 - 1)
