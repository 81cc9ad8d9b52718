-- How many things have a fact.
use Rattle.std.specs.Prelude.{ℕ, ◌≡◌, ◌≤◌, List, length, slice_get, Some, Contains}

-- no member stands twice
abbrev pub StandOnce : {X : Type 0} → List X → Type 0
StandOnce {X} xs = (i j : ℕ) (x : X) → slice_get xs i ≡ Some x → slice_get xs j ≡ Some x → i ≡ j

-- n distinct ones have it
pub record HasMany {X : Type 0} (n : ℕ) (F : X → Type 0) : Type 0 where
  pub members : List X
  pub number : length members ≡ n
  pub distinct : StandOnce members
  pub each : (x : X) → Contains members x → F x

-- a list of at most n has each that has it
pub record HasAtMost {X : Type 0} (n : ℕ) (F : X → Type 0) : Type 0 where
  pub members : List X
  pub number : length members ≤ n
  pub all : (x : X) → F x → Contains members x

-- just n have it
pub record IsCount {X : Type 0} (F : X → Type 0) (n : ℕ) : Type 0 where
  pub members : List X
  pub number : length members ≡ n
  pub distinct : StandOnce members
  pub each : (x : X) → Contains members x → F x
  pub all : (x : X) → F x → Contains members x
