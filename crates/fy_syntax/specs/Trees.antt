-- The trees of the grammar as plain data: what the program's trees are read as. The last place of each case is that of its first token.
use Rattle.std.specs.Prelude.{ℕ, ℤ, Bool, List}
use Rattle.fy_base.specs.Outside.{Bytes}
use Rattle.fy_base.specs.declared.data.BinOp.{BinOp}
use Rattle.fy_base.specs.declared.data.Place.{Place}
use Rattle.fy_types.specs.declared.types.Atom.{Atom}
use Rattle.fy_syntax.specs.declared.surface.Prefixed.{Prefixed}

mutual
  -- a written type
  pub data TypeTree : Type 0 where
    -- `A -> B`
    arrow : (a b : TypeTree) (at : Place) → TypeTree
    -- `A & B & ..`
    meet : (members : TypeTrees) (at : Place) → TypeTree
    -- `i : j : .. A`, the fields by their names' numbers
    field : (names : List ℕ) (a : TypeTree) (at : Place) → TypeTree
    -- `ns`
    ns : (at : Place) → TypeTree
    -- `int`, `comm` and their like
    atom : (atom : Atom) (at : Place) → TypeTree
    -- the name of a type
    ident : (name : ℕ) (at : Place) → TypeTree
    -- `( A )`
    group : (a : TypeTree) (at : Place) → TypeTree

  pub data TypeTrees : Type 0 where
    no_types : TypeTrees
    and_type : (a : TypeTree) (more : TypeTrees) → TypeTrees

-- a declaration `f : A`, with the place of its name
pub record DeclTree : Type 0 where
  pub name : ℕ
  pub at : Place
  pub type : TypeTree

mutual
  -- a written phrase
  pub data Tree : Type 0 where
    -- `p , q , ..`
    merge : (members : Trees) (at : Place) → Tree
    -- `p ; q ; ..`
    sequence : (members : Trees) (at : Place) → Tree
    -- `\ x : A | B | .. . p`
    lam : (name : ℕ) (alternatives : TypeTrees) (body : Tree) (at : Place) → Tree
    -- `let x == p , .. in q`
    let_in : (defs : Defs) (body : Tree) (at : Place) → Tree
    -- `letrec f : A , .. where f == p , .. in q`, with the place of `in`
    letrec : (decls : List DeclTree) (defs : Defs) (in_at : Place) (body : Tree) (at : Place) → Tree
    -- `lettype t == A in p`
    let_type : (name : ℕ) (a : TypeTree) (body : Tree) (at : Place) → Tree
    -- `new x : D := p in q`
    new : (name : ℕ) (kind : Atom) (first body : Tree) (at : Place) → Tree
    -- `escape x in p`
    escape : (name : ℕ) (body : Tree) (at : Place) → Tree
    -- `accept x : D in p`
    accept : (name : ℕ) (kind : Atom) (body : Tree) (at : Place) → Tree
    -- `if b then p else q`
    cond : (b p q : Tree) (at : Place) → Tree
    -- `while b do p`
    while_do : (b p : Tree) (at : Place) → Tree
    -- `loop p`
    loop : (p : Tree) (at : Place) → Tree
    -- `i == p`
    field : (name : ℕ) (p : Tree) (at : Place) → Tree
    -- `p := q`, with the place of `:=`
    assign : (p : Tree) (becomes_at : Place) (q : Tree) (at : Place) → Tree
    -- operands with operators of one level between them
    chain : (p : Tree) (links : Links) (at : Place) → Tree
    -- operators in front of one operand
    prefixed : (operators : List Prefixed) (p : Tree) (at : Place) → Tree
    -- `p q r ..`
    apply : (p : Tree) (arguments : Trees) (at : Place) → Tree
    -- `p . i . j ..`
    select : (p : Tree) (names : List ℕ) (at : Place) → Tree
    ident : (name : ℕ) (at : Place) → Tree
    number : (value : ℤ) (at : Place) → Tree
    letter : (byte : ℕ) (at : Place) → Tree
    string : (bytes : Bytes) (at : Place) → Tree
    -- `true` or `false`
    truth : (value : Bool) (at : Place) → Tree
    skip : (at : Place) → Tree
    -- `( p )`
    group : (p : Tree) (at : Place) → Tree
    -- `seq ( p , q , .. )`
    seq_of : (parts : Trees) (at : Place) → Tree

  pub data Trees : Type 0 where
    no_trees : Trees
    and_tree : (p : Tree) (more : Trees) → Trees

  -- definitions `x == p`, each with the place of its name
  pub data Defs : Type 0 where
    no_defs : Defs
    and_def : (name : ℕ) (at : Place) (body : Tree) (more : Defs) → Defs

  -- operands, each behind an operator with its place
  pub data Links : Type 0 where
    no_links : Links
    and_link : (op : BinOp) (at : Place) (item : Tree) (more : Links) → Links
