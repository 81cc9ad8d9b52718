-- What a call learns of the outside and does to it: sources, sinks and files, with their counts of faults and of calls.
use Rattle.std.specs.Prelude.{◌≡◌, ℕ, ◌+◌, ◌-◌, ◌^◌, ◌<◌, ◌≤◌, min, Bool, IsTrue, List, [], ◌++◌, length, Some, OnOk, OnErr}
use Rattle.std.specs.Option.{option_map, ForSome}
use Rattle.std.specs.declared.option.Option.{Option}
use Rattle.std.specs.declared.result.Result.{Result}
use Rattle.std.specs.declared.result.Result.TheVariants.{Ok, Err}
use Rattle.std.specs.Ordering.{nat_cmp}
use Rattle.std.specs.Cmp.Lexicographic.{slice_cmp}
use Rattle.std.specs.FinMap.{FinMap, get, insert, remove}
use Rattle.fy_base.specs.declared.outside.FetchError.{FetchError}
use Rattle.fy_base.specs.declared.outside.FetchError.TheVariants as unfetched
use Rattle.fy_base.specs.declared.outside.KeepError.{KeepError}
use Rattle.fy_base.specs.declared.outside.KeepError.TheVariants as unkept

-- a text: its bytes in order
abbrev pub Bytes : Type 0
Bytes = List ℕ

-- files: a finite map from names to contents
abbrev pub Folder : Type 0
Folder = FinMap (slice_cmp nat_cmp) Bytes

-- one more than a counter of 64 bits, which stands still at its last value
abbrev pub next_count : ℕ → ℕ
next_count n = min (n + 1) (2 ^ 64 - 1)

-- a count of faults is greater than before, or stands at the last value of a counter
abbrev pub Rose : ℕ → ℕ → Type 0
Rose before now = min (before + 1) (2 ^ 64 - 1) ≤ now

-- a count of faults doesn't fall, it rose where the call failed, and it stands still where it didn't
pub record HasCause {T E : Type 0} (before now : ℕ) (result : Result T E) : Type 0 where
  pub later : before ≤ now
  pub failed : OnErr result (Rose before now)
  pub quiet : OnOk result (now ≡ before)

-- a source gave these bytes: what was left, where it is told, is these and then what is left now
abbrev pub Gave : Option Bytes → Option Bytes → Bytes → Type 0
Gave before now bytes = before ≡ option_map (λ rest. bytes ++ rest) now

-- nothing is left at a source, where it is told
abbrev pub IsAtEnd : Option Bytes → Type 0
IsAtEnd left = ForSome left (λ rest. rest ≡ [])

-- a source gave these bytes; where it is over, nothing is left, and it stays over and gives none
pub record Drew (left left_now : Option Bytes) (over over_now : Bool) (bytes : Bytes) : Type 0 where
  pub gave : Gave left left_now bytes
  pub none : IsTrue over → bytes ≡ []
  pub stays : IsTrue over → IsTrue over_now
  pub at_end : IsTrue over_now → IsAtEnd left_now

-- what is held, where it is told, and then these bytes
abbrev pub appended : Option Bytes → Bytes → Option Bytes
appended held bytes = option_map (λ h. h ++ bytes) held

-- a sink gained these bytes
abbrev pub Gained : Option Bytes → Option Bytes → Bytes → Type 0
Gained before now bytes = now ≡ appended before bytes

-- the first text begins the second
pub record IsPrefix (part whole : Bytes) : Type 0 where
  pub rest : Bytes
  pub is : whole ≡ part ++ rest

-- a sink gained a beginning of these bytes
pub record GainedPart (before now : Option Bytes) (bytes : Bytes) : Type 0 where
  pub part : Bytes
  pub gained : Gained before now part
  pub begins : IsPrefix part bytes

-- files, where they are told, have this content under the name, or none
abbrev pub Tells : Option Folder → Bytes → Option Bytes → Type 0
Tells held name content = ForSome held (λ folder. get folder name ≡ content)

-- the content of the named file is longer than the limit
pub record IsLong (held : Option Folder) (name : Bytes) (limit : ℕ) : Type 0 where
  pub content : Bytes
  pub told : Tells held name (Some content)
  pub longer : limit < length content

-- the named file holds the bytes, and all others are as before
abbrev pub Kept : Option Folder → Option Folder → Bytes → Bytes → Type 0
Kept before now name bytes = now ≡ option_map (λ folder. insert folder name bytes) before

-- all files but the named one are as before
abbrev pub OthersStay : Option Folder → Option Folder → Bytes → Type 0
OthersStay before now name = option_map (λ folder. remove folder name) now ≡ option_map (λ folder. remove folder name) before

-- no name's count of faults falls
abbrev pub NoneFalls : (Bytes → ℕ) → (Bytes → ℕ) → Type 0
NoneFalls before now = (name : Bytes) → before name ≤ now name

-- this holds unless the file was missing or could not be read
abbrev pub UnlessFetchFails : {T : Type 0} → Result T FetchError → Type 0 → Type 0
UnlessFetchFails (Ok content) P = P
UnlessFetchFails (Err unfetched.Missing) P = Unit {0}
UnlessFetchFails (Err unfetched.Failed) P = Unit {0}
UnlessFetchFails (Err unfetched.TooLong) P = P
UnlessFetchFails (Err unfetched.OutOfMemory) P = P

-- this holds unless the file could not be written
abbrev pub UnlessKeepFails : {T : Type 0} → Result T KeepError → Type 0 → Type 0
UnlessKeepFails (Ok done) P = P
UnlessKeepFails (Err unkept.Failed) P = Unit {0}
UnlessKeepFails (Err unkept.OutOfMemory) P = P

-- every name's count of faults stands still
abbrev pub NoneMoves : (Bytes → ℕ) → (Bytes → ℕ) → Type 0
NoneMoves before now = now ≡ before

-- how often `fetch` and `keep` were called
pub record FileCalls : Type 0 where
  pub fetches : ℕ
  pub keeps : ℕ

-- the counts after one more call of `fetch`, whatever it answered
abbrev pub once_fetched : FileCalls → FileCalls
once_fetched calls = record calls { fetches = next_count calls.fetches }

-- the counts after one more call of `keep`, whatever it answered
abbrev pub once_kept : FileCalls → FileCalls
once_kept calls = record calls { keeps = next_count calls.keeps }
