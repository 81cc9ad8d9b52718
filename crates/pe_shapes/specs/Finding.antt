-- What has been found of the shapes of nodes, and what walking a derivation adds to it.
use Rattle.std.specs.Prelude.{ℕ, ◌+◌, ◌<◌, ◌≤◌, ◌≡◌, ◌⊎◌, List, [], All, Contains, length, map, slice_get, Some, Result, Ok, Err, Vec}
use Rattle.std.specs.declared.alloc.Global.{Global}
use Rattle.fy_phrase.specs.declared.shapes.Pair.{Pair}
use Rattle.fy_types.specs.Types.{PlainType}
use Rattle.fy_derive.specs.Shapes.{PlainShape}
use Rattle.pe_shapes.specs.declared.error.ShapeError.{ShapeError}
use Rattle.pe_shapes.specs.declared.found.Found.{Found}
use Rattle.pe_shapes.specs.Contexts.{numbers_of}
use Rattle.pe_shapes.specs.Counts.{StandOnce}
use Rattle.pe_shapes.specs.Shaping.{most_shapes, most_pairs}
use Rattle.pe_shapes.specs.Shown.{all_shown, Extends, AreIn, AreAllIn}
use Rattle.pe_shapes.specs.Standing.{AreJust, AreShapesOfEach, IsStop}

-- the shapes in use, by their places
abbrev pub used_shapes : Found → List PlainShape
used_shapes f = all_shown f.numbers f.used.keys

abbrev pub pair_of : ℕ → ℕ → Pair
pair_of node place = record { node = node; shape = place }

-- the node is recorded with the shape
pub record IsRecorded (f : Found) (node : ℕ) (s : PlainShape) : Type 0 where
  pub place : ℕ
  pub shape : slice_get (used_shapes f) place ≡ Some s
  pub pair : Contains f.pairs.keys (pair_of node place)

-- there are more pairs than there may be
pub record IsFull (f : Found) : Type 0 where
  pub more : most_pairs < length f.pairs.keys

-- nothing stands twice, and what is named is there
pub record IsFound (f : Found) : Type 0 where
  pub used_in : AreIn f.numbers f.used.keys
  pub used_once : StandOnce f.used.keys
  pub few : length f.used.keys ≤ most_shapes
  pub pairs_in : All (λ p. p.shape < length f.used.keys) f.pairs.keys
  pub pairs_once : StandOnce f.pairs.keys
  pub few_pairs : length f.pairs.keys ≤ most_pairs + 1

-- nothing was found yet
pub record IsEmpty (f : Found) : Type 0 where
  pub no_shapes : f.used.keys ≡ []
  pub no_pairs : f.pairs.keys ≡ []

-- the shape is in use, and the pair is recorded where there is room
pub record IsSeen (f : Found) (node : ℕ) (s : PlainShape) : Type 0 where
  pub used : Contains (used_shapes f) s
  pub recorded : IsRecorded f node s ⊎ IsFull f

-- what is new is among the pairs P, and of these all are seen but what may be left
pub record Adds (old new : Found) (P left : ℕ → PlainShape → Type 0) : Type 0 where
  pub extends : Extends old.numbers new.numbers
  pub places : (n : ℕ) (s : PlainShape) → slice_get (used_shapes old) n ≡ Some s → slice_get (used_shapes new) n ≡ Some s
  pub kept : (p : Pair) → Contains old.pairs.keys p → Contains new.pairs.keys p
  pub fuller : length old.pairs.keys ≤ length new.pairs.keys
  pub used : (s : PlainShape) → Contains (used_shapes new) s → Contains (used_shapes old) s ⊎ ((k : ℕ) × P k s)
  pub known : (k : ℕ) (s : PlainShape) → IsRecorded new k s → IsRecorded old k s ⊎ P k s
  pub seen : (k : ℕ) (s : PlainShape) → P k s → IsSeen new k s ⊎ left k s

-- no pair
abbrev pub NoPair : ℕ → PlainShape → Type 0
NoPair k s = ⊥

-- why walking stopped: more than 256 shapes are in use or are of the pairs
abbrev pub IsWalkStop : ShapeError → Found → (ℕ → PlainShape → Type 0) → Type 0
IsWalkStop e old P = IsStop e (λ s. Contains (used_shapes old) s ⊎ ((k : ℕ) × P k s))

-- the pairs of one node
abbrev pub PairsOf : ℕ → List PlainShape → ℕ → PlainShape → Type 0
PairsOf node shapes k s = (k ≡ node) × Contains shapes s

abbrev pub IsRecording : Result (Vec ℕ Global) ShapeError → Found → Found → ℕ → List PlainShape → Type 0
IsRecording (Ok v) old new node shapes = Adds old new (PairsOf node shapes) NoPair
IsRecording (Err e) old new node shapes = IsWalkStop e old (PairsOf node shapes)

abbrev pub OnePair : ℕ → PlainShape → ℕ → PlainShape → Type 0
OnePair node shape k s = (k ≡ node) × (shape ≡ s)

abbrev pub IsOneRecorded : Result (Unit {0}) ShapeError → Found → Found → ℕ → PlainShape → Type 0
IsOneRecorded (Ok v) old new node shape = Adds old new (OnePair node shape) NoPair
IsOneRecorded (Err e) old new node shape = IsWalkStop e old (OnePair node shape)

-- the shapes of the type, with all pairs P recorded, or why not
abbrev pub IsWalk : Result (Vec ℕ Global) ShapeError → Found → Found → PlainType → (ℕ → PlainShape → Type 0) → Type 0
IsWalk (Ok v) old new A P = AreJust (all_shown new.numbers v.items) A × Adds old new P NoPair
IsWalk (Err e) old new A P = IsWalkStop e old P

-- the same for several types
abbrev pub AreWalks : Result (Vec (Vec ℕ Global) Global) ShapeError → Found → Found → List PlainType → (ℕ → PlainShape → Type 0) → Type 0
AreWalks (Ok v) old new As P = AreShapesOfEach new.numbers (map numbers_of v.items) As × Adds old new P NoPair
AreWalks (Err e) old new As P = IsWalkStop e old P

-- the numbers are the table's, which has kept its shapes
pub record Stays (old new : Found) (ks : List ℕ) : Type 0 where
  pub sound : IsFound new
  pub extends : Extends old.numbers new.numbers
  pub within : AreIn new.numbers ks

pub record AllStay (old new : Found) (sets : List (Vec ℕ Global)) : Type 0 where
  pub sound : IsFound new
  pub extends : Extends old.numbers new.numbers
  pub within : AreAllIn new.numbers (map numbers_of sets)
