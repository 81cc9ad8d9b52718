-- Types as plain data: what the program's trees are read as.
use Rattle.std.specs.Prelude.{ℕ}
use Rattle.fy_types.specs.declared.types.Atom.{Atom}

mutual
  pub data PlainType : Type 0 where
    -- the greatest type
    ns : PlainType
    -- `int`, `comm` and their like
    atom : Atom → PlainType
    -- `A -> B`
    arrow : PlainType → PlainType → PlainType
    -- `i : A`, the field by its name's number
    field : ℕ → PlainType → PlainType
    -- `A1 & .. & An`, of any number of members
    meet : PlainTypes → PlainType

  pub data PlainTypes : Type 0 where
    no_types : PlainTypes
    and_type : PlainType → PlainTypes → PlainTypes
