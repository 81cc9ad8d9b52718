-- All that a call touches, as one: what the objects hold, and their counts of faults.
use Rattle.std.specs.Prelude.{ℕ, ◌≤◌}
use Rattle.std.specs.declared.option.Option.{Option}
use Rattle.fy_base.specs.Outside.{Bytes, Folder, NoneFalls}

-- what the objects hold, where they tell it
pub record Contents : Type 0 where
  pub files : Option Folder
  pub input : Option Bytes
  pub output : Option Bytes
  pub notes : Option Bytes

-- the counts of faults, those of files by name
pub record Counts : Type 0 where
  pub fetches : Bytes → ℕ
  pub keeps : Bytes → ℕ
  pub input : ℕ
  pub output : ℕ
  pub notes : ℕ

-- no count fell
pub record Later (before now : Counts) : Type 0 where
  pub fetches : NoneFalls before.fetches now.fetches
  pub keeps : NoneFalls before.keeps now.keeps
  pub input : before.input ≤ now.input
  pub output : before.output ≤ now.output
  pub notes : before.notes ≤ now.notes
