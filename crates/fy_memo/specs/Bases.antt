-- Arguments that have the paths of a base, and others.
use Rattle.std.specs.Prelude.{◌≡◌, ◌<◌, ◌≤◌, ◌⊎◌, ℕ, Bool, true, false, ◌&&◌, ◌||◌, not, List, [], ◌∷◌, length, map, take, get_or}
use Rattle.fy_types.specs.declared.paths.Path.{Path}
use Rattle.fy_types.specs.Paths.{PlainPath, PlainPaths, no_paths, and_path}
use Rattle.fy_types.specs.Reading.{plain_path, paths_from}
use Rattle.fy_derive.specs.Subsumption.{some_below}
use Rattle.fy_order.specs.Demands.{takes_argument}

-- the order sees in P the paths of B and those of N, and no others: what P has a path below, B has one below, or N
abbrev pub IsMadeOf : PlainPaths → PlainPaths → PlainPaths → Type 0
IsMadeOf P B N = (q : PlainPath) → some_below P q ≡ (some_below B q || some_below N q)

-- the order sees in P a path below q
abbrev pub Sees : PlainPaths → PlainPath → Type 0
Sees P q = some_below P q ≡ true

-- what the order sees in P it sees in Q
abbrev pub IsIn : PlainPaths → PlainPaths → Type 0
IsIn P Q = (q : PlainPath) → Sees P q → Sees Q q

-- what the order sees in P it sees in Q or in R
abbrev pub IsInEither : PlainPaths → PlainPaths → PlainPaths → Type 0
IsInEither P Q R = (q : PlainPath) → Sees P q → Sees Q q ⊎ Sees R q

-- P has the paths N beside those of B, and B the paths M beside those of P
pub record IsParted (P B N M : PlainPaths) : Type 0 where
  pub form : IsInEither P B N
  pub base : IsInEither B P M
  pub others : IsIn N P
  pub missing : IsIn M B

-- R has paths of N, and those of N that it lacks are in M
pub record IsRest (N R M : PlainPaths) : Type 0 where
  pub own : IsIn R N
  pub all : IsInEither N R M

-- the paths before the place
abbrev pub first_of : ℕ → List Path → PlainPaths
first_of k xs = paths_from (map plain_path (take k xs))

-- the paths are grown by those from the one place up to the other
pub record IsSkipped (xs : List Path) (from to : ℕ) (before after : PlainPaths) : Type 0 where
  pub kept : IsIn before after
  pub has : IsInEither (first_of to xs) (first_of from xs) after
  pub own : IsInEither after before (first_of to xs)

-- the path stands at the place, which is the first one or past it
pub record IsFound (xs : List Path) (from : ℕ) (p : PlainPath) (place : ℕ) : Type 0 where
  pub past : from ≤ place
  pub few : place < length xs
  pub same : (x : Path) → plain_path (get_or xs place x) ≡ p

-- equality of flags, as a test
abbrev pub is_same_flag : Bool → Bool → Bool
is_same_flag true b = b
is_same_flag false b = not b

-- the flags tell which of the paths P begin with a call that takes an argument with the paths Q
abbrev pub are_takers : List Bool → PlainPaths → PlainPaths → Bool
are_takers [] Q no_paths = true
are_takers [] Q (and_path p P) = false
are_takers (b ∷ bs) Q no_paths = false
are_takers (b ∷ bs) Q (and_path p P) = is_same_flag b (takes_argument Q p) && are_takers bs Q P
