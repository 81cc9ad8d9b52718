-- A closed phrase copied in for a variable.
use Rattle.std.specs.Prelude.{ℕ, ◌+◌, ◌-◌, nat_lt, nat_eq, if◌then◌else◌}
use Rattle.fy_phrase.specs.Tree.{Tree, Trees, var, lit, unary, binary, cond, case, lam, app, field, sel, merge, let_in, rec, skip, seq, assign, while_do, forever, new, cells, escape, accept, put, read, mark, no_trees, and_tree}

-- one of three, as k is below n, equal to it or above it
abbrev pub compared : ℕ → ℕ → Tree → Tree → Tree → Tree
compared k n below same above = if nat_lt k n then below else (if nat_eq k n then same else above)

-- a phrase that stands n binders below the variable, with the closed a for it; a variable of a binder farther out loses one
abbrev mutual
  pub closed_at : ℕ → Tree → Tree → Tree
  closed_at n a (var k at) = compared k n (var k at) a (var (k - 1) at)
  closed_at n a (lit v at) = lit v at
  closed_at n a (unary op p at) = unary op (closed_at n a p) at
  closed_at n a (binary op p q at) = binary op (closed_at n a p) (closed_at n a q) at
  closed_at n a (cond b p q at) = cond (closed_at n a b) (closed_at n a p) (closed_at n a q) at
  closed_at n a (case e parts at) = case (closed_at n a e) (all_closed_at n a parts) at
  closed_at n a (lam d alternatives body at) = lam d alternatives (closed_at (n + 1) a body) at
  closed_at n a (app p q at) = app (closed_at n a p) (closed_at n a q) at
  closed_at n a (field i p at) = field i (closed_at n a p) at
  closed_at n a (sel p i at) = sel (closed_at n a p) i at
  closed_at n a (merge p q at) = merge (closed_at n a p) (closed_at n a q) at
  closed_at n a (let_in d p body at) = let_in d (closed_at n a p) (closed_at (n + 1) a body) at
  closed_at n a (rec d T body at) = rec d T (closed_at (n + 1) a body) at
  closed_at n a (skip at) = skip at
  closed_at n a (seq p q at) = seq (closed_at n a p) (closed_at n a q) at
  closed_at n a (assign p q at) = assign (closed_at n a p) (closed_at n a q) at
  closed_at n a (while_do b c at) = while_do (closed_at n a b) (closed_at n a c) at
  closed_at n a (forever c at) = forever (closed_at n a c) at
  closed_at n a (new d D e body at) = new d D (closed_at n a e) (closed_at (n + 1) a body) at
  closed_at n a (cells d e body at) = cells d (closed_at n a e) (closed_at (n + 1) a body) at
  closed_at n a (escape d body at) = escape d (closed_at (n + 1) a body) at
  closed_at n a (accept d D body at) = accept d D (closed_at (n + 1) a body) at
  closed_at n a (put kind p at) = put kind (closed_at n a p) at
  closed_at n a (read p at) = read (closed_at n a p) at
  closed_at n a (mark m at) = mark m at

  pub all_closed_at : ℕ → Tree → Trees → Trees
  all_closed_at n a no_trees = no_trees
  all_closed_at n a (and_tree p ps) = and_tree (closed_at n a p) (all_closed_at n a ps)

-- the body with a copied in for variable 0
abbrev pub closed_with : Tree → Tree → Tree
closed_with body a = closed_at 0 a body
