-- Lists of paths told as types, and where a path of an argument differs from one that is wanted.
use Rattle.std.specs.Prelude.{ℕ, zero, suc, ◌+◌, ◌-◌, Bool, false, ◌&&◌, ◌==◌, nat_le, if◌then◌else◌, Option, Some, None, List, [], ◌++◌, codes, decimal}
use Rattle.fy_base.specs.Outside.{Bytes}
use Rattle.fy_types.specs.Types.{PlainType, PlainTypes, ns, atom, arrow, field, meet, no_types, and_type}
use Rattle.fy_types.specs.Paths.{PlainPath, PlainPaths, end, call, pick, no_paths, and_path}
use Rattle.fy_types.specs.Bounds.{is_end_low}
use Rattle.fy_derive.specs.Clear.{has_none}
use Rattle.fy_short.specs.Cut.{cut}
use Rattle.fy_short.specs.ShortTypes.{short_type}
use Rattle.fy_causes.specs.Causes.{first_missed}

-- the type with the paths, which is a meet only of two or more
abbrev mutual
  pub type_with : PlainPaths → PlainType
  type_with no_paths = ns
  type_with (and_path p no_paths) = type_along p
  type_with (and_path p (and_path q P)) = meet (and_type (type_along p) (and_type (type_along q) (types_with P)))

  pub types_with : PlainPaths → PlainTypes
  types_with no_paths = no_types
  types_with (and_path p P) = and_type (type_along p) (types_with P)

  pub type_along : PlainPath → PlainType
  type_along (end a) = atom a
  type_along (call D p) = arrow (type_with D) (type_along p)
  type_along (pick i p) = field i (type_along p)

-- so many paths, and how many there are
abbrev pub first_paths : ℕ → PlainPaths → PlainPaths
first_paths zero P = no_paths
first_paths (suc n) no_paths = no_paths
first_paths (suc n) (and_path p P) = and_path p (first_paths n P)

abbrev pub count : PlainPaths → ℕ
count no_paths = 0
count (and_path p P) = suc (count P)

-- of n paths those beside the first four
abbrev pub more_text : ℕ → Bytes
more_text n = if nat_le n 4 then [] else codes " & " ++ decimal (n - 4) ++ codes " more"

-- a list of paths as a type: the first four in at most 60 bytes, and how many more there are
abbrev pub paths_text : List Bytes → PlainPaths → Bytes
paths_text names P =
    if has_none P then codes "only ns" else cut 60 (short_type names (type_with (first_paths 4 P))) ++ more_text (count P)

abbrev pub path_text : List Bytes → PlainPath → Bytes
path_text names x = short_type names (type_along x)

-- the same calls and fields, and an end that is as low
abbrev pub is_alike : PlainPath → PlainPath → Bool
is_alike (end a) (end b) = is_end_low a b
is_alike (end a) (call E y) = false
is_alike (end a) (pick j y) = false
is_alike (call D x) (end b) = false
is_alike (call D x) (call E y) = is_alike x y
is_alike (call D x) (pick j y) = false
is_alike (pick i x) (end b) = false
is_alike (pick i x) (call E y) = false
is_alike (pick i x) (pick j y) = (i == j) && is_alike x y

abbrev pub first_alike : PlainPaths → PlainPath → Option PlainPath
first_alike no_paths y = None
first_alike (and_path x P) y = if is_alike x y then Some x else first_alike P y

-- a call, counted from 1, the paths that its argument would have, and one that they lack
pub record Mismatch : Type 0 where
  pub number : ℕ
  pub given : PlainPaths
  pub lacks : PlainPath

abbrev pub mismatch_or : ℕ → PlainPaths → Option PlainPath → Option Mismatch → Option Mismatch
mismatch_or n E None later = later
mismatch_or n E (Some z) later = Some (record { number = n; given = E; lacks = z })

-- the first call of a path, which is the n-th, whose domain isn't above that of the other path there
abbrev pub mismatch : ℕ → PlainPath → PlainPath → Option Mismatch
mismatch n (end a) y = None
mismatch n (call D x) (end b) = None
mismatch n (call D x) (call E y) = mismatch_or n E (first_missed E D) (mismatch (n + 1) x y)
mismatch n (call D x) (pick j y) = mismatch n x y
mismatch n (pick i x) (end b) = None
mismatch n (pick i x) (call E y) = mismatch n x y
mismatch n (pick i x) (pick j y) = mismatch n x y

abbrev pub mismatch_of : Option PlainPath → PlainPath → Option Mismatch
mismatch_of None y = None
mismatch_of (Some x) y = mismatch 1 x y

abbrev pub mismatch_text : List Bytes → Option Mismatch → Bytes
mismatch_text names None = []
mismatch_text names (Some m) =
    codes ": its argument " ++ decimal m.number ++ codes " would be " ++ paths_text names m.given ++ codes ", with no " ++ path_text names m.lacks
