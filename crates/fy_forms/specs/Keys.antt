-- The paths of a list by their keys, and where kept paths stand by their numbers: both in slots, of which a number has the one at its remainder.
use Rattle.std.specs.Prelude.{◌≡◌, ◌<◌, ℕ, zero, suc, ◌%◌, ◌==◌, Bool, true, List, [], ◌∷◌, ◌++◌, length, map, max, Contains, if◌then◌else◌}
use Rattle.std.specs.Borrow.{Bor}
use Rattle.std.specs.List.{filter}
use Rattle.std.specs.declared.alloc.Global.{Global}
use Rattle.std.specs.declared.vec.Vec.{Vec}
use Rattle.fy_types.specs.declared.paths.Path.{Path, size-Path}
use Rattle.fy_types.specs.Once.{contains}
use Rattle.fy_types.specs.Paths.{PlainPath, PlainPaths, no_paths, and_path}
use Rattle.fy_types.specs.Reading.{plain_path, paths_from}
use Rattle.fy_forms.specs.declared.index.Groups.{Groups}
use Rattle.fy_forms.specs.declared.kept.Places.{Places}
use Rattle.fy_forms.specs.Numbers.{key_of, number_of}

-- the list at the place, or nothing where there is none
abbrev pub list_at : {X : Type 0} → List (Vec X Global) → ℕ → List X
list_at [] k = []
list_at (v ∷ vs) zero = v.items
list_at (v ∷ vs) (suc k) = list_at vs k

-- the list at the number's slot
abbrev pub slot_at : {X : Type 0} → List (Vec X Global) → ℕ → List X
slot_at lists n = list_at lists (n % length lists)

-- of so many slots the path's key has the number's
abbrev pub has_slot : ℕ → ℕ → Path → Bool
has_slot count n p = (key_of (plain_path p) % count) == (n % count)

-- the paths at the key's slot
abbrev pub group_at : Groups → ℕ → List (Bor Path)
group_at g k = slot_at g.lists.items k

-- at each slot are the paths of the list whose keys have it, in the list's order
abbrev pub AreGrouped : List (Vec (Bor Path) Global) → List Path → Type 0
AreGrouped lists ps = (k : ℕ) → map (λ p. p.now) (slot_at lists k) ≡ filter (has_slot (length lists) k) ps

-- the slots have the paths of the list
abbrev pub IsIndex : Groups → List Path → Type 0
IsIndex g ps = AreGrouped g.lists.items ps

-- the second lists have the path besides, after those of its slot
pub record IsGrown (before after : List (Vec (Bor Path) Global)) (p : Bor Path) : Type 0 where
  pub long : length after ≡ length before
  pub grown : (k : ℕ) → slot_at after k ≡ slot_at before k ++ (if has_slot (length before) k p.now then p ∷ [] else [])

-- the paths that are lent
abbrev pub lent : List (Bor Path) → PlainPaths
lent ps = paths_from (map (λ p. plain_path p.now) ps)

-- the greatest depth among the lent paths
abbrev pub deepest : List (Bor Path) → ℕ
deepest [] = 0
deepest (p ∷ ps) = max (size-Path p.now) (deepest ps)

-- the second lists have the place besides, at the number's slot
pub record IsNoted (before after : List (Vec ℕ Global)) (number place : ℕ) : Type 0 where
  pub long : length after ≡ length before
  pub kept : (n k : ℕ) → Contains (slot_at before n) k → Contains (slot_at after n) k
  pub noted : Contains (slot_at after number) place

-- the path stands at the place of the list
abbrev pub StandsAt : PlainPaths → ℕ → PlainPath → Type 0
StandsAt no_paths k p = ⊥
StandsAt (and_path q P) zero p = q ≡ p
StandsAt (and_path q P) (suc k) p = StandsAt P k p

-- the path stands at one of the places
abbrev pub StandsAtSome : PlainPaths → List ℕ → PlainPath → Type 0
StandsAtSome P ks p = (k : ℕ) × Contains ks k × StandsAt P k p

-- there are slots, and each kept path stands at a place of its number's
pub record IsSeen (m : Places) (P : PlainPaths) : Type 0 where
  pub some : 0 < length m.lists.items
  pub seen : (p : PlainPath) → contains P p ≡ true → StandsAtSome P (slot_at m.lists.items (number_of p)) p
