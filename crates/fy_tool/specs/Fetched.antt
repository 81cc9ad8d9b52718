-- Which files an order is due to fetch, one after another, and none behind the first cause of a refusal; and how often `fetch` is called.
use Rattle.std.specs.Prelude.{◌≡◌, List, [], ◌∷◌, ◌++◌, length, Some, None, Ok}
use Rattle.std.specs.declared.option.Option.{Option}
use Rattle.fy_base.specs.Outside.{Bytes, FileCalls, Rose}
use Rattle.fy_phrase.specs.Tree.{Tree}
use Rattle.fy_expand.specs.Judged.{IsJudged}
use Rattle.fy_link.specs.declared.unit.Unit.{Unit as UnitValue}
use Rattle.fy_words.specs.Order.{Order}
use Rattle.fy_world.specs.World.{Counts}
use Rattle.fy_world.specs.Counted.{HasCalled}
use Rattle.fy_world.specs.Runs.{Due, told}
use Rattle.fy_tool.specs.Units.{Listed, names_of, AreUnitsRead}
use Rattle.fy_tool.specs.Due.{Sources, named_by, text_of, file_of}

-- files that are fetched one after another, as far as it goes, where a file and a derivation are named, the text of the file is this, and it lists these units
pub data AreFetched (file named text : Option Bytes) (units : List Listed) : List Bytes → Type 0 where
  -- none at all
  no_file : AreFetched file named text units []
  -- the file alone
  just_file : (name : Bytes) → file ≡ Some name → AreFetched file named text units (name ∷ [])
  -- the file and then the derivation, where the text has a core phrase
  derivation_too : (name second content : Bytes) (p : Tree) → file ≡ Some name → named ≡ Some second → text ≡ Some content → IsJudged content (Ok p) → AreFetched file named text units (name ∷ second ∷ [])
  -- the list, those on it that hold units, and one behind them
  units_too : (name : Bytes) (read : List Listed) (unit : Listed) (behind : List Listed) (values : List UnitValue) (names : List Bytes) → file ≡ Some name → units ≡ read ++ unit ∷ behind → AreUnitsRead read values names
      → AreFetched file named text units (name ∷ (names_of read ++ unit.name ∷ []))

-- `fetch` was called at most once for each of such files, and `keep` wasn't
pub record HasFetched (file named text : Option Bytes) (units : List Listed) (before now : FileCalls) : Type 0 where
  pub names : List Bytes
  pub are : AreFetched file named text units names
  pub called : HasCalled (length names) 0 before now

-- the count of `fetch` rose of the last of such files
pub record LastRose (file named text : Option Bytes) (units : List Listed) (before now : Counts) : Type 0 where
  pub first : List Bytes
  pub name : Bytes
  pub are : AreFetched file named text units (first ++ name ∷ [])
  pub rose : Rose (before.fetches name) (now.fetches name)

-- the same of an order's files
abbrev pub AreDue : Order → Sources → List Bytes → Type 0
AreDue order sources names = AreFetched (file_of order) (named_by order) (text_of order sources) sources.units names

abbrev pub HasFetchedDue : Order → Sources → FileCalls → FileCalls → Type 0
HasFetchedDue order sources before now = HasFetched (file_of order) (named_by order) (text_of order sources) sources.units before now

abbrev pub LastDueRose : Order → Sources → Counts → Counts → Type 0
LastDueRose order sources before now = LastRose (file_of order) (named_by order) (text_of order sources) sources.units before now

-- a fetch failed: it was due, and nothing else was done
abbrev pub IsUnfetched : Option Order → Sources → Due → Counts → Counts → Type 0
IsUnfetched None sources due counts counts' = ⊥
IsUnfetched (Some order) sources due counts counts' = (due ≡ told 7 []) × LastDueRose order sources counts counts'
