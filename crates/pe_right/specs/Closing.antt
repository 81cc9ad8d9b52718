-- Closed phrases copied in for all the variables of a phrase that are free.
use Rattle.std.specs.Prelude.{ℕ, zero, suc, ◌+◌, ◌-◌, nat_lt, if◌then◌else◌, List, [], ◌∷◌}
use Rattle.fy_base.specs.declared.data.Place.{Place}
use Rattle.fy_phrase.specs.Tree.{Tree, Trees, var, lit, unary, binary, cond, case, lam, app, field, sel, merge, let_in, rec, skip, seq, assign, while_do, forever, new, cells, escape, accept, put, read, mark, no_trees, and_tree}

-- the phrase with the number, or a closed one where there is none
abbrev pub phrase_at : List Tree → ℕ → Place → Tree
phrase_at [] k at = skip at
phrase_at (q ∷ qs) zero at = q
phrase_at (q ∷ qs) (suc k) at = phrase_at qs k at

-- a phrase with the closed phrases qs for its variables from n on, where n binders stand between it and theirs
abbrev mutual
  pub closed_by : ℕ → List Tree → Tree → Tree
  closed_by n qs (var k at) = if nat_lt k n then var k at else phrase_at qs (k - n) at
  closed_by n qs (lit v at) = lit v at
  closed_by n qs (unary op p at) = unary op (closed_by n qs p) at
  closed_by n qs (binary op p q at) = binary op (closed_by n qs p) (closed_by n qs q) at
  closed_by n qs (cond b p q at) = cond (closed_by n qs b) (closed_by n qs p) (closed_by n qs q) at
  closed_by n qs (case e parts at) = case (closed_by n qs e) (all_closed_by n qs parts) at
  closed_by n qs (lam d As b at) = lam d As (closed_by (n + 1) qs b) at
  closed_by n qs (app p q at) = app (closed_by n qs p) (closed_by n qs q) at
  closed_by n qs (field i p at) = field i (closed_by n qs p) at
  closed_by n qs (sel p i at) = sel (closed_by n qs p) i at
  closed_by n qs (merge p q at) = merge (closed_by n qs p) (closed_by n qs q) at
  closed_by n qs (let_in d p b at) = let_in d (closed_by n qs p) (closed_by (n + 1) qs b) at
  closed_by n qs (rec d T b at) = rec d T (closed_by (n + 1) qs b) at
  closed_by n qs (skip at) = skip at
  closed_by n qs (seq p q at) = seq (closed_by n qs p) (closed_by n qs q) at
  closed_by n qs (assign p q at) = assign (closed_by n qs p) (closed_by n qs q) at
  closed_by n qs (while_do b c at) = while_do (closed_by n qs b) (closed_by n qs c) at
  closed_by n qs (forever c at) = forever (closed_by n qs c) at
  closed_by n qs (new d D e b at) = new d D (closed_by n qs e) (closed_by (n + 1) qs b) at
  closed_by n qs (cells d e b at) = cells d (closed_by n qs e) (closed_by (n + 1) qs b) at
  closed_by n qs (escape d b at) = escape d (closed_by (n + 1) qs b) at
  closed_by n qs (accept d D b at) = accept d D (closed_by (n + 1) qs b) at
  closed_by n qs (put kind p at) = put kind (closed_by n qs p) at
  closed_by n qs (read p at) = read (closed_by n qs p) at
  closed_by n qs (mark m at) = mark m at

  pub all_closed_by : ℕ → List Tree → Trees → Trees
  all_closed_by n qs no_trees = no_trees
  all_closed_by n qs (and_tree p ps) = and_tree (closed_by n qs p) (all_closed_by n qs ps)
