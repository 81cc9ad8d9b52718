-- Core phrases as plain data.
use Rattle.std.specs.Prelude.{ℕ}
use Rattle.fy_base.specs.declared.data.Place.{Place}
use Rattle.fy_base.specs.declared.data.Datum.{Datum}
use Rattle.fy_base.specs.declared.data.UnOp.{UnOp}
use Rattle.fy_base.specs.declared.data.BinOp.{BinOp}
use Rattle.fy_base.specs.declared.data.PutKind.{PutKind}
use Rattle.fy_types.specs.Types.{PlainType, PlainTypes}
use Rattle.fy_phrase.specs.declared.phrase.DataTy.{DataTy}
use Rattle.fy_phrase.specs.declared.phrase.MarkKind.{MarkKind}

mutual
  -- a core phrase; the last part of each is its place in the source, and d is a binder's depth
  pub data Tree : Type 0 where
    -- the variable of the binder outside k others
    var : (k : ℕ) (at : Place) → Tree
    lit : (v : Datum) (at : Place) → Tree
    unary : (op : UnOp) (p : Tree) (at : Place) → Tree
    binary : (op : BinOp) (p q : Tree) (at : Place) → Tree
    -- `if b then p else q`
    cond : (b p q : Tree) (at : Place) → Tree
    -- the part that e picks, from 0
    case : (e : Tree) (parts : Trees) (at : Place) → Tree
    -- `\ x : A | B | .. . p`
    lam : (d : ℕ) (alternatives : PlainTypes) (body : Tree) (at : Place) → Tree
    app : (p q : Tree) (at : Place) → Tree
    -- `i == p`
    field : (i : ℕ) (p : Tree) (at : Place) → Tree
    -- `p . i`
    sel : (p : Tree) (i : ℕ) (at : Place) → Tree
    -- `p , q`
    merge : (p q : Tree) (at : Place) → Tree
    -- `let x == p in q`
    let_in : (d : ℕ) (p body : Tree) (at : Place) → Tree
    -- `letrec x : T where x == p in x`
    rec : (d : ℕ) (T : PlainType) (body : Tree) (at : Place) → Tree
    skip : (at : Place) → Tree
    seq : (p q : Tree) (at : Place) → Tree
    -- `p := q`
    assign : (p q : Tree) (at : Place) → Tree
    while_do : (b c : Tree) (at : Place) → Tree
    -- `loop c`
    forever : (c : Tree) (at : Place) → Tree
    -- `new x : D := e in q`
    new : (d : ℕ) (D : DataTy) (e body : Tree) (at : Place) → Tree
    -- the body where x stands for a sequence of e new cells, numbered from 0, that hold 0; only the prelude makes one
    cells : (d : ℕ) (e body : Tree) (at : Place) → Tree
    escape : (d : ℕ) (body : Tree) (at : Place) → Tree
    -- `accept x : D in q`
    accept : (d : ℕ) (D : DataTy) (body : Tree) (at : Place) → Tree
    put : (kind : PutKind) (p : Tree) (at : Place) → Tree
    read : (p : Tree) (at : Place) → Tree
    -- a cell, a jump or a sequence, which only a run makes
    mark : (m : MarkKind) (at : Place) → Tree

  pub data Trees : Type 0 where
    no_trees : Trees
    and_tree : Tree → Trees → Trees

-- the place of a phrase
abbrev pub place_of : Tree → Place
place_of (var k at) = at
place_of (lit v at) = at
place_of (unary op p at) = at
place_of (binary op p q at) = at
place_of (cond b p q at) = at
place_of (case e parts at) = at
place_of (lam d alternatives body at) = at
place_of (app p q at) = at
place_of (field i p at) = at
place_of (sel p i at) = at
place_of (merge p q at) = at
place_of (let_in d p body at) = at
place_of (rec d T body at) = at
place_of (skip at) = at
place_of (seq p q at) = at
place_of (assign p q at) = at
place_of (while_do b c at) = at
place_of (forever c at) = at
place_of (new d D e body at) = at
place_of (cells d e body at) = at
place_of (escape d body at) = at
place_of (accept d D body at) = at
place_of (put kind p at) = at
place_of (read p at) = at
place_of (mark m at) = at
