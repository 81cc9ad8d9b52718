-- The names in a core phrase, of its fields, its selections, the types that it is written with and the types of its sequences; and the
-- meets of the types that it is written with.
use Rattle.std.specs.Prelude.{ℕ}
use Rattle.fy_types.specs.Fields.{AllFields, AllFieldsOf, HasFullMeets, HaveFullMeets}
use Rattle.fy_phrase.specs.Tree.{Tree, Trees, no_trees, and_tree, var, lit, unary, binary, cond, case, lam, app, field, sel, merge, let_in, rec, skip, seq, assign, while_do, forever, new, cells, escape, accept, put, read, mark}

abbrev mutual
  -- each name in the phrase has the property
  pub AllNames : (ℕ → Type 0) → Tree → Type 0
  AllNames P (var k at) = Unit {0}
  AllNames P (lit v at) = Unit {0}
  AllNames P (unary op p at) = AllNames P p
  AllNames P (binary op p q at) = AllNames P p × AllNames P q
  AllNames P (cond b p q at) = AllNames P b × AllNames P p × AllNames P q
  AllNames P (case e parts at) = AllNames P e × AllNamesOf P parts
  AllNames P (lam d As b at) = AllFieldsOf P As × AllNames P b
  AllNames P (app p q at) = AllNames P p × AllNames P q
  AllNames P (field i p at) = P i × AllNames P p
  AllNames P (sel p i at) = P i × AllNames P p
  AllNames P (merge p q at) = AllNames P p × AllNames P q
  AllNames P (let_in d p b at) = AllNames P p × AllNames P b
  AllNames P (rec d T b at) = AllFields P T × AllNames P b
  AllNames P (skip at) = Unit {0}
  AllNames P (seq p q at) = AllNames P p × AllNames P q
  AllNames P (assign p q at) = AllNames P p × AllNames P q
  AllNames P (while_do b c at) = AllNames P b × AllNames P c
  AllNames P (forever c at) = AllNames P c
  AllNames P (new d D e b at) = AllNames P e × AllNames P b
  AllNames P (cells d e b at) = P 0 × AllNames P e × AllNames P b
  AllNames P (escape d b at) = AllNames P b
  AllNames P (accept d D b at) = AllNames P b
  AllNames P (put kind p at) = AllNames P p
  AllNames P (read p at) = AllNames P p
  AllNames P (mark m at) = Unit {0}

  pub AllNamesOf : (ℕ → Type 0) → Trees → Type 0
  AllNamesOf P no_trees = Unit {0}
  AllNamesOf P (and_tree p more) = AllNames P p × AllNamesOf P more

abbrev mutual
  -- each meet in the types that the phrase is written with has two members or more
  pub HasFullTypes : Tree → Type 0
  HasFullTypes (var k at) = Unit {0}
  HasFullTypes (lit v at) = Unit {0}
  HasFullTypes (unary op p at) = HasFullTypes p
  HasFullTypes (binary op p q at) = HasFullTypes p × HasFullTypes q
  HasFullTypes (cond b p q at) = HasFullTypes b × HasFullTypes p × HasFullTypes q
  HasFullTypes (case e parts at) = HasFullTypes e × HaveFullTypes parts
  HasFullTypes (lam d As b at) = HaveFullMeets As × HasFullTypes b
  HasFullTypes (app p q at) = HasFullTypes p × HasFullTypes q
  HasFullTypes (field i p at) = HasFullTypes p
  HasFullTypes (sel p i at) = HasFullTypes p
  HasFullTypes (merge p q at) = HasFullTypes p × HasFullTypes q
  HasFullTypes (let_in d p b at) = HasFullTypes p × HasFullTypes b
  HasFullTypes (rec d T b at) = HasFullMeets T × HasFullTypes b
  HasFullTypes (skip at) = Unit {0}
  HasFullTypes (seq p q at) = HasFullTypes p × HasFullTypes q
  HasFullTypes (assign p q at) = HasFullTypes p × HasFullTypes q
  HasFullTypes (while_do b c at) = HasFullTypes b × HasFullTypes c
  HasFullTypes (forever c at) = HasFullTypes c
  HasFullTypes (new d D e b at) = HasFullTypes e × HasFullTypes b
  HasFullTypes (cells d e b at) = HasFullTypes e × HasFullTypes b
  HasFullTypes (escape d b at) = HasFullTypes b
  HasFullTypes (accept d D b at) = HasFullTypes b
  HasFullTypes (put kind p at) = HasFullTypes p
  HasFullTypes (read p at) = HasFullTypes p
  HasFullTypes (mark m at) = Unit {0}

  pub HaveFullTypes : Trees → Type 0
  HaveFullTypes no_trees = Unit {0}
  HaveFullTypes (and_tree p more) = HasFullTypes p × HaveFullTypes more
