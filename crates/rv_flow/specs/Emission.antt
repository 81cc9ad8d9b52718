-- What appending the items of micro-operations asks and leaves.
use Rattle.std.specs.Prelude.{◌≡◌, Bool, true, nat_lt, List, ◌++◌}
use Rattle.std.specs.List.{list_all}
use Rattle.rv_asm.specs.declared.items.Item.{Item}
use Rattle.rv_word.specs.declared.micros.Micro.{Micro}
use Rattle.rv_word.specs.declared.micros.Micro.TheVariants.{Get, Save}
use Rattle.rv_word.specs.Word.{Named}
use Rattle.rv_word.specs.Discipline.{Bounds, is_disciplined_from}

-- a word that it reads or writes is near enough for the offset of a load or a store
abbrev pub is_near : Micro → Bool
is_near (Get r s k) = nat_lt k 256
is_near (Save s k r) = nat_lt k 256
is_near _ = true

abbrev pub are_near : List Micro → Bool
are_near micros = list_all is_near micros

-- the operations of disciplined blocks are near
abbrev pub DisciplinedAreNear : Type 0
DisciplinedAreNear = (b : Bounds) (windows : Named) (micros : List Micro) → is_disciplined_from b windows micros ≡ true → are_near micros ≡ true

-- what was there stays, and more may stand behind it
pub record Extends (before after : List Item) : Type 0 where
  pub more : List Item
  pub is : after ≡ before ++ more
