-- A table as the types that its numbers stand for.
use Rattle.std.specs.Prelude.{ℕ, ◌<◌, ◌≤◌, ◌≡◌, List, All, map, length}
use Rattle.fy_types.specs.Types.{PlainType}
use Rattle.fy_derive.specs.declared.table.TypeTable.{TypeTable}
use Rattle.fy_derive.specs.Tables.{types_of, type_at}

-- how many types the table has
abbrev pub total : TypeTable → ℕ
total t = length t.nodes.keys

abbrev pub types_in : TypeTable → List PlainType
types_in t = types_of t.nodes.keys

-- the type with the number
abbrev pub shown : TypeTable → ℕ → PlainType
shown t k = type_at (types_in t) k

-- the types with the numbers
abbrev pub all_shown : TypeTable → List ℕ → List PlainType
all_shown t ks = map (shown t) ks

-- each number of the old table stands for the same type in the new one
pub record Extends (old new : TypeTable) : Type 0 where
  pub more : total old ≤ total new
  pub same : (k : ℕ) → k < total old → shown new k ≡ shown old k

-- each number is one of the table's
pub record AreIn (t : TypeTable) (ks : List ℕ) : Type 0 where
  pub below : All (λ k. k < total t) ks
