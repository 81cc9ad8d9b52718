-- Which core phrases programs are: closed, with the depths of their binders, and well made.
use Rattle.std.specs.Prelude.{ℕ, suc, ◌≡◌, ◌<◌}
use Rattle.fy_phrase.specs.Tree.{Tree, Trees, var, lit, unary, binary, cond, case, lam, app, field, sel, merge, let_in, rec, skip, seq, assign, while_do, forever, new, cells, escape, accept, put, read, mark, no_trees, and_tree}

abbrev mutual
  -- each variable's binder is in the phrase or is one of n around it
  pub IsClosedUnder : ℕ → Tree → Type 0
  IsClosedUnder n (var k at) = k < n
  IsClosedUnder n (lit v at) = Unit {0}
  IsClosedUnder n (unary op p at) = IsClosedUnder n p
  IsClosedUnder n (binary op p q at) = IsClosedUnder n p × IsClosedUnder n q
  IsClosedUnder n (cond b p q at) = IsClosedUnder n b × IsClosedUnder n p × IsClosedUnder n q
  IsClosedUnder n (case e parts at) = IsClosedUnder n e × AreClosedUnder n parts
  IsClosedUnder n (lam d alternatives p at) = IsClosedUnder (suc n) p
  IsClosedUnder n (app p q at) = IsClosedUnder n p × IsClosedUnder n q
  IsClosedUnder n (field i p at) = IsClosedUnder n p
  IsClosedUnder n (sel p i at) = IsClosedUnder n p
  IsClosedUnder n (merge p q at) = IsClosedUnder n p × IsClosedUnder n q
  IsClosedUnder n (let_in d p q at) = IsClosedUnder n p × IsClosedUnder (suc n) q
  IsClosedUnder n (rec d T p at) = IsClosedUnder (suc n) p
  IsClosedUnder n (skip at) = Unit {0}
  IsClosedUnder n (seq p q at) = IsClosedUnder n p × IsClosedUnder n q
  IsClosedUnder n (assign p q at) = IsClosedUnder n p × IsClosedUnder n q
  IsClosedUnder n (while_do b p at) = IsClosedUnder n b × IsClosedUnder n p
  IsClosedUnder n (forever p at) = IsClosedUnder n p
  IsClosedUnder n (new d D p q at) = IsClosedUnder n p × IsClosedUnder (suc n) q
  IsClosedUnder n (cells d p q at) = IsClosedUnder n p × IsClosedUnder (suc n) q
  IsClosedUnder n (escape d p at) = IsClosedUnder (suc n) p
  IsClosedUnder n (accept d D p at) = IsClosedUnder (suc n) p
  IsClosedUnder n (put kind p at) = IsClosedUnder n p
  IsClosedUnder n (read p at) = IsClosedUnder n p
  IsClosedUnder n (mark m at) = Unit {0}

  pub AreClosedUnder : ℕ → Trees → Type 0
  AreClosedUnder n no_trees = Unit {0}
  AreClosedUnder n (and_tree p more) = IsClosedUnder n p × AreClosedUnder n more

abbrev pub IsClosed : Tree → Type 0
IsClosed p = IsClosedUnder 0 p

abbrev mutual
  -- each binder carries the number of binders around it, n of which are around the phrase
  pub HasDepthsUnder : ℕ → Tree → Type 0
  HasDepthsUnder n (var k at) = Unit {0}
  HasDepthsUnder n (lit v at) = Unit {0}
  HasDepthsUnder n (unary op p at) = HasDepthsUnder n p
  HasDepthsUnder n (binary op p q at) = HasDepthsUnder n p × HasDepthsUnder n q
  HasDepthsUnder n (cond b p q at) = HasDepthsUnder n b × HasDepthsUnder n p × HasDepthsUnder n q
  HasDepthsUnder n (case e parts at) = HasDepthsUnder n e × HaveDepthsUnder n parts
  HasDepthsUnder n (lam d alternatives p at) = (d ≡ n) × HasDepthsUnder (suc n) p
  HasDepthsUnder n (app p q at) = HasDepthsUnder n p × HasDepthsUnder n q
  HasDepthsUnder n (field i p at) = HasDepthsUnder n p
  HasDepthsUnder n (sel p i at) = HasDepthsUnder n p
  HasDepthsUnder n (merge p q at) = HasDepthsUnder n p × HasDepthsUnder n q
  HasDepthsUnder n (let_in d p q at) = (d ≡ n) × HasDepthsUnder n p × HasDepthsUnder (suc n) q
  HasDepthsUnder n (rec d T p at) = (d ≡ n) × HasDepthsUnder (suc n) p
  HasDepthsUnder n (skip at) = Unit {0}
  HasDepthsUnder n (seq p q at) = HasDepthsUnder n p × HasDepthsUnder n q
  HasDepthsUnder n (assign p q at) = HasDepthsUnder n p × HasDepthsUnder n q
  HasDepthsUnder n (while_do b p at) = HasDepthsUnder n b × HasDepthsUnder n p
  HasDepthsUnder n (forever p at) = HasDepthsUnder n p
  HasDepthsUnder n (new d D p q at) = (d ≡ n) × HasDepthsUnder n p × HasDepthsUnder (suc n) q
  HasDepthsUnder n (cells d p q at) = (d ≡ n) × HasDepthsUnder n p × HasDepthsUnder (suc n) q
  HasDepthsUnder n (escape d p at) = (d ≡ n) × HasDepthsUnder (suc n) p
  HasDepthsUnder n (accept d D p at) = (d ≡ n) × HasDepthsUnder (suc n) p
  HasDepthsUnder n (put kind p at) = HasDepthsUnder n p
  HasDepthsUnder n (read p at) = HasDepthsUnder n p
  HasDepthsUnder n (mark m at) = Unit {0}

  pub HaveDepthsUnder : ℕ → Trees → Type 0
  HaveDepthsUnder n no_trees = Unit {0}
  HaveDepthsUnder n (and_tree p more) = HasDepthsUnder n p × HaveDepthsUnder n more

abbrev pub HasDepths : Tree → Type 0
HasDepths p = HasDepthsUnder 0 p

-- what takes demands of one kind from the right of a merge: an abstraction, a field definition or an acceptor
abbrev pub IsOperand : Tree → Type 0
IsOperand (lam d alternatives p at) = Unit {0}
IsOperand (field i p at) = Unit {0}
IsOperand (accept d D p at) = Unit {0}
IsOperand _ = ⊥

abbrev pub HasPart : Trees → Type 0
HasPart no_trees = ⊥
HasPart (and_tree p more) = Unit {0}

abbrev mutual
  -- each list of parts has one, and each merge has such a right operand
  pub IsWellMade : Tree → Type 0
  IsWellMade (var k at) = Unit {0}
  IsWellMade (lit v at) = Unit {0}
  IsWellMade (unary op p at) = IsWellMade p
  IsWellMade (binary op p q at) = IsWellMade p × IsWellMade q
  IsWellMade (cond b p q at) = IsWellMade b × IsWellMade p × IsWellMade q
  IsWellMade (case e parts at) = IsWellMade e × HasPart parts × AreWellMade parts
  IsWellMade (lam d alternatives p at) = IsWellMade p
  IsWellMade (app p q at) = IsWellMade p × IsWellMade q
  IsWellMade (field i p at) = IsWellMade p
  IsWellMade (sel p i at) = IsWellMade p
  IsWellMade (merge p q at) = IsWellMade p × IsOperand q × IsWellMade q
  IsWellMade (let_in d p q at) = IsWellMade p × IsWellMade q
  IsWellMade (rec d T p at) = IsWellMade p
  IsWellMade (skip at) = Unit {0}
  IsWellMade (seq p q at) = IsWellMade p × IsWellMade q
  IsWellMade (assign p q at) = IsWellMade p × IsWellMade q
  IsWellMade (while_do b p at) = IsWellMade b × IsWellMade p
  IsWellMade (forever p at) = IsWellMade p
  IsWellMade (new d D p q at) = IsWellMade p × IsWellMade q
  IsWellMade (cells d p q at) = IsWellMade p × IsWellMade q
  IsWellMade (escape d p at) = IsWellMade p
  IsWellMade (accept d D p at) = IsWellMade p
  IsWellMade (put kind p at) = IsWellMade p
  IsWellMade (read p at) = IsWellMade p
  IsWellMade (mark m at) = Unit {0}

  pub AreWellMade : Trees → Type 0
  AreWellMade no_trees = Unit {0}
  AreWellMade (and_tree p more) = IsWellMade p × AreWellMade more
