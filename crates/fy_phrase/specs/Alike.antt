-- Phrases that are the same but for the numbers of their variables, their places and the depths of their binders.
use Rattle.std.specs.Prelude.{ℕ, zero, suc, ◌≡◌}
use Rattle.fy_base.specs.declared.data.Place.{Place}
use Rattle.fy_base.specs.declared.data.Datum.{Datum}
use Rattle.fy_base.specs.declared.data.UnOp.{UnOp}
use Rattle.fy_base.specs.declared.data.BinOp.{BinOp}
use Rattle.fy_base.specs.declared.data.PutKind.{PutKind}
use Rattle.fy_types.specs.Types.{PlainType, PlainTypes}
use Rattle.fy_phrase.specs.declared.phrase.DataTy.{DataTy}
use Rattle.fy_phrase.specs.Tree as tree
use Rattle.fy_phrase.specs.Tree.{Tree, Trees}

-- a renaming of variables below one more binder, whose variable stays
abbrev pub lifted : (ℕ → ℕ) → ℕ → ℕ
lifted f zero = zero
lifted f (suc k) = suc (f k)

mutual
  -- variable k of the first phrase is variable f k of the second; only phrases without marks are alike
  pub data Alike : (ℕ → ℕ) → Tree → Tree → Type 0 where
    var : {f : ℕ → ℕ} {k j : ℕ} {a b : Place} → j ≡ f k → Alike f (tree.var k a) (tree.var j b)
    lit : {f : ℕ → ℕ} {v : Datum} {a b : Place} → Alike f (tree.lit v a) (tree.lit v b)
    unary : {f : ℕ → ℕ} {op : UnOp} {p q : Tree} {a b : Place} → Alike f p q → Alike f (tree.unary op p a) (tree.unary op q b)
    binary : {f : ℕ → ℕ} {op : BinOp} {p q p2 q2 : Tree} {a b : Place} → Alike f p q → Alike f p2 q2 →
        Alike f (tree.binary op p p2 a) (tree.binary op q q2 b)
    cond : {f : ℕ → ℕ} {p q p2 q2 p3 q3 : Tree} {a b : Place} → Alike f p q → Alike f p2 q2 → Alike f p3 q3 →
        Alike f (tree.cond p p2 p3 a) (tree.cond q q2 q3 b)
    case : {f : ℕ → ℕ} {p q : Tree} {ps qs : Trees} {a b : Place} → Alike f p q → AllAlike f ps qs → Alike f (tree.case p ps a) (tree.case q qs b)
    lam : {f : ℕ → ℕ} {d e : ℕ} {As : PlainTypes} {p q : Tree} {a b : Place} → Alike (lifted f) p q → Alike f (tree.lam d As p a) (tree.lam e As q b)
    app : {f : ℕ → ℕ} {p q p2 q2 : Tree} {a b : Place} → Alike f p q → Alike f p2 q2 → Alike f (tree.app p p2 a) (tree.app q q2 b)
    field : {f : ℕ → ℕ} {i : ℕ} {p q : Tree} {a b : Place} → Alike f p q → Alike f (tree.field i p a) (tree.field i q b)
    sel : {f : ℕ → ℕ} {i : ℕ} {p q : Tree} {a b : Place} → Alike f p q → Alike f (tree.sel p i a) (tree.sel q i b)
    merge : {f : ℕ → ℕ} {p q p2 q2 : Tree} {a b : Place} → Alike f p q → Alike f p2 q2 → Alike f (tree.merge p p2 a) (tree.merge q q2 b)
    let_in : {f : ℕ → ℕ} {d e : ℕ} {p q p2 q2 : Tree} {a b : Place} → Alike f p q → Alike (lifted f) p2 q2 →
        Alike f (tree.let_in d p p2 a) (tree.let_in e q q2 b)
    rec : {f : ℕ → ℕ} {d e : ℕ} {T : PlainType} {p q : Tree} {a b : Place} → Alike (lifted f) p q → Alike f (tree.rec d T p a) (tree.rec e T q b)
    skip : {f : ℕ → ℕ} {a b : Place} → Alike f (tree.skip a) (tree.skip b)
    seq : {f : ℕ → ℕ} {p q p2 q2 : Tree} {a b : Place} → Alike f p q → Alike f p2 q2 → Alike f (tree.seq p p2 a) (tree.seq q q2 b)
    assign : {f : ℕ → ℕ} {p q p2 q2 : Tree} {a b : Place} → Alike f p q → Alike f p2 q2 → Alike f (tree.assign p p2 a) (tree.assign q q2 b)
    while_do : {f : ℕ → ℕ} {p q p2 q2 : Tree} {a b : Place} → Alike f p q → Alike f p2 q2 → Alike f (tree.while_do p p2 a) (tree.while_do q q2 b)
    forever : {f : ℕ → ℕ} {p q : Tree} {a b : Place} → Alike f p q → Alike f (tree.forever p a) (tree.forever q b)
    new : {f : ℕ → ℕ} {d e : ℕ} {D : DataTy} {p q p2 q2 : Tree} {a b : Place} → Alike f p q → Alike (lifted f) p2 q2 →
        Alike f (tree.new d D p p2 a) (tree.new e D q q2 b)
    cells : {f : ℕ → ℕ} {d e : ℕ} {p q p2 q2 : Tree} {a b : Place} → Alike f p q → Alike (lifted f) p2 q2 →
        Alike f (tree.cells d p p2 a) (tree.cells e q q2 b)
    escape : {f : ℕ → ℕ} {d e : ℕ} {p q : Tree} {a b : Place} → Alike (lifted f) p q → Alike f (tree.escape d p a) (tree.escape e q b)
    accept : {f : ℕ → ℕ} {d e : ℕ} {D : DataTy} {p q : Tree} {a b : Place} → Alike (lifted f) p q → Alike f (tree.accept d D p a) (tree.accept e D q b)
    put : {f : ℕ → ℕ} {kind : PutKind} {p q : Tree} {a b : Place} → Alike f p q → Alike f (tree.put kind p a) (tree.put kind q b)
    read : {f : ℕ → ℕ} {p q : Tree} {a b : Place} → Alike f p q → Alike f (tree.read p a) (tree.read q b)

  -- part for part
  pub data AllAlike : (ℕ → ℕ) → Trees → Trees → Type 0 where
    no_parts : {f : ℕ → ℕ} → AllAlike f tree.no_trees tree.no_trees
    and_part : {f : ℕ → ℕ} {p q : Tree} {ps qs : Trees} → Alike f p q → AllAlike f ps qs → AllAlike f (tree.and_tree p ps) (tree.and_tree q qs)
