-- What is found by signs, and by those in the domains.
use Rattle.std.specs.Prelude.{◌≡◌, ◌<◌, ◌⊎◌, ◌↔◌, ℕ, true, false, List, Contains, length, get_or}
use Rattle.std.specs.declared.alloc.Global.{Global}
use Rattle.std.specs.declared.vec.Vec.{Vec}
use Rattle.fy_order.specs.Levels.{list_at}
use Rattle.fy_order.specs.declared.covered.Covered.{Covered}
use Rattle.fy_order.specs.declared.sign.Wanted.{Wanted}

-- the sign is one of those that are looked for
abbrev pub IsWanted : Wanted → ℕ → Type 0
IsWanted w s = (s ≡ w.own) ⊎ (s ≡ w.other)

-- where there are flags, just those of the places are set
abbrev pub IsFlagged : Covered → Type 0
IsFlagged c = (k : ℕ) → k < length c.flags.items → (get_or c.flags.items k false ≡ true) ↔ Contains c.places.items k

-- each of the numbers is in a list at one of the places
abbrev pub AreCovered : List (Vec ℕ Global) → List ℕ → List ℕ → Type 0
AreCovered lists places ks = (k : ℕ) → Contains ks k → (j : ℕ) × Contains places j × Contains (list_at lists j) k

-- each list at the places has one of the numbers
abbrev pub AreMet : List (Vec ℕ Global) → List ℕ → List ℕ → Type 0
AreMet lists places ks = (j : ℕ) → Contains places j → (k : ℕ) × Contains ks k × Contains (list_at lists j) k
