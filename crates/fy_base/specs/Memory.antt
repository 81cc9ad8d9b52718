-- Sources, sinks and files in memory.
use Rattle.std.specs.Prelude.{◌≡◌, ℕ, ◌+◌, ◌<◌, ◌≤◌, ◌==◌, Bool, IsTrue, false, List, [], ◌∷◌, length, map, string_bytes, is_some, if◌then◌else◌, IsSomeAnd, Some, None}
use Rattle.std.specs.declared.option.Option.{Option}
use Rattle.std.specs.declared.result.Result.{Result}
use Rattle.std.specs.declared.result.Result.TheVariants.{Ok, Err}
use Rattle.std.specs.declared.alloc.Global.{Global}
use Rattle.std.specs.declared.vec.Vec.{Vec}
use Rattle.std.specs.List.{list_any}
use Rattle.std.specs.Str.{bytes_eq}
use Rattle.std.specs.FinMap.{from_entries, get}
use Rattle.fy_base.specs.Outside.{Bytes, Folder, next_count}
use Rattle.fy_base.specs.declared.memory.Calls.{Calls}
use Rattle.fy_base.specs.declared.memory.Entry.{Entry}
use Rattle.fy_base.specs.declared.memory.Fault.{Fault}
use Rattle.fy_base.specs.declared.outside.FetchError.{FetchError}
use Rattle.fy_base.specs.declared.outside.FetchError.TheVariants as unfetched
use Rattle.fy_base.specs.declared.outside.KeepError.{KeepError}
use Rattle.fy_base.specs.declared.outside.KeepError.TheVariants as unkept

-- whether the call of this number is to fail
abbrev pub is_to_fail : List ℕ → ℕ → Bool
is_to_fail failing call = list_any (λ k. k == call) failing

-- one more call was made, and the list of those that are to fail stays
pub record CountsCall (before now : Calls) : Type 0 where
  pub failing : now.failing.items ≡ before.failing.items
  pub made : now.made ≡ next_count before.made

-- a name and the file's bytes
abbrev pub pair_of : Entry → Bytes × Bytes
pair_of entry = (string_bytes entry.name, entry.bytes.items)

-- the files of a list, of which the first of a name counts
abbrev pub folder_of : List Entry → Folder
folder_of entries = from_entries (map pair_of entries)

-- how often calls on a name failed
abbrev pub faults_of : List Fault → Bytes → ℕ
faults_of [] name = 0
faults_of (fault ∷ faults) name = (if bytes_eq (string_bytes fault.name) name then 1 else 0) + faults_of faults name

-- one more fault of this name was counted, and none of another
abbrev pub OneMoreFault : (Bytes → ℕ) → (Bytes → ℕ) → Bytes → Type 0
OneMoreFault before now name = (other : Bytes) → now other ≡ (if bytes_eq name other then 1 else 0) + before other

-- a fetch of what is held under the name ends as told, but for want of memory: it fails where it is to, and else the file
-- is missing, or longer than the limit, or comes
abbrev pub FetchesAsTold : Bool → Option Bytes → ℕ → Result (Vec ℕ Global) FetchError → Type 0
FetchesAsTold fails held limit (Ok bytes) = (fails ≡ false) × ((held ≡ Some bytes.items) × (length bytes.items ≤ limit))
FetchesAsTold fails held limit (Err unfetched.Missing) = (fails ≡ false) × (held ≡ None)
FetchesAsTold fails held limit (Err unfetched.Failed) = IsTrue fails
FetchesAsTold fails held limit (Err unfetched.TooLong) = (fails ≡ false) × IsSomeAnd held (λ bytes. limit < length bytes)
FetchesAsTold fails held limit (Err unfetched.OutOfMemory) = Unit {0}

-- a keep ends as told, but for want of memory: it fails exactly where it is to
abbrev pub KeepsAsTold : {T : Type 0} → Bool → Result T KeepError → Type 0
KeepsAsTold fails (Ok done) = fails ≡ false
KeepsAsTold fails (Err unkept.Failed) = IsTrue fails
KeepsAsTold fails (Err unkept.OutOfMemory) = Unit {0}

-- the number of misses counts for each name but those of these files
abbrev pub misses_of : Folder → ℕ → Bytes → ℕ
misses_of folder misses name = if is_some (get folder name) then 0 else misses
