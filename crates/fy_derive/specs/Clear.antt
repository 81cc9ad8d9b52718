-- Answers for each number of a table.
use Rattle.std.specs.Prelude.{ℕ, ◌<◌, ◌≡◌, Bool, true, false, List, length, slice_index_or}
use Rattle.fy_types.specs.Paths.{PlainPaths, no_paths, and_path, paths}
use Rattle.fy_derive.specs.declared.table.TypeTable.{TypeTable}
use Rattle.fy_derive.specs.Shown.{shown}
use Rattle.fy_derive.specs.Kinds.{Kind, none_begins}

abbrev pub has_none : PlainPaths → Bool
has_none no_paths = true
has_none (and_path p P) = false

-- each answer says whether the type has no path
pub record AreEmpty (t : TypeTable) (answers : List Bool) : Type 0 where
  pub each : (k : ℕ) (d : Bool) → k < length answers → slice_index_or answers k d ≡ has_none (paths (shown t k))

-- each answer says whether no path of the type begins with a demand of the kind
pub record AreClear (kind : Kind) (t : TypeTable) (answers : List Bool) : Type 0 where
  pub each : (k : ℕ) (d : Bool) → k < length answers → slice_index_or answers k d ≡ none_begins kind (paths (shown t k))
