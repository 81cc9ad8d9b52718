-- Two lists of numbers with the same members.
use Rattle.std.specs.Prelude.{◌≡◌, ℕ, nat_eq, List}
use Rattle.std.specs.List.{list_any}

-- a number is in both or in neither
abbrev pub HaveSameMembers : List ℕ → List ℕ → Type 0
HaveSameMembers xs ys = (n : ℕ) → list_any (nat_eq n) xs ≡ list_any (nat_eq n) ys
