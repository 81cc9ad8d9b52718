-- The places of shapes in order, and the pairs by them.
use Rattle.std.specs.Prelude.{ℕ, ◌<◌, ◌≤◌, ◌≡◌, ◌↔◌, ◌⊎◌, true, List, AllPairs, All, Contains, length, map, slice_index_or}
use Rattle.fy_phrase.specs.declared.shapes.Pair.{Pair}
use Rattle.fy_phrase.specs.declared.shapes.ShapeTable.{ShapeTable}
use Rattle.fy_derive.specs.Shapes.{PlainShape}
use Rattle.fy_derive.specs.ShapeTables.{plain_shape, HasPairOf}
use Rattle.pe_shapes.specs.declared.found.Found.{Found}
use Rattle.pe_shapes.specs.declared.numbers.ShapeNumbers.{ShapeNumbers}
use Rattle.pe_shapes.specs.Finding.{used_shapes, IsRecorded}
use Rattle.pe_shapes.specs.Order.{comes_before, AreInOrder}
use Rattle.pe_shapes.specs.Shown.{shown}

-- the shape with the one number comes before that with the other
abbrev pub AreNumbersBefore : ShapeNumbers → ℕ → ℕ → Type 0
AreNumbersBefore t k n = comes_before (shown t k) (shown t n) ≡ true

-- the shapes of the numbers are in order
pub record AreNumbersInOrder (t : ShapeNumbers) (ks : List ℕ) : Type 0 where
  pub each : AllPairs (AreNumbersBefore t) ks

-- the shapes in front of the place come before the number's, and that before those from the place on
pub record IsPlaceAmong (t : ShapeNumbers) (ks : List ℕ) (number place : ℕ) : Type 0 where
  pub within : place ≤ length ks
  pub before : (k d : ℕ) → k < place → comes_before (shown t (slice_index_or ks k d)) (shown t number) ≡ true
  pub behind : (k d : ℕ) → place ≤ k → k < length ks → comes_before (shown t number) (shown t (slice_index_or ks k d)) ≡ true

-- the place in one list of what stands at each place of the other
pub record ArePlaces (old new places : List ℕ) : Type 0 where
  pub all : length places ≡ length old
  pub within : All (λ m. m < length new) places
  pub same : (k d : ℕ) → k < length old → slice_index_or new (slice_index_or places k d) d ≡ slice_index_or old k d

-- the pair with its shape's new place
abbrev pub placed : List ℕ → Pair → Pair
placed places x = record { node = x.node; shape = slice_index_or places x.shape 0 }

-- no pair stands before an earlier one
pub record AreNotBefore (pairs : List Pair) : Type 0 where
  pub each : AllPairs (λ x y. (x.node < y.node) ⊎ (x.node ≡ y.node) × (x.shape ≤ y.shape)) pairs

-- the table has what was found, in order
pub record IsTableFound (f : Found) (t : ShapeTable) : Type 0 where
  pub shapes : (s : PlainShape) → Contains (map plain_shape t.shapes) s → Contains (used_shapes f) s
  pub number : length t.shapes ≡ length f.used.keys
  pub few : length t.pairs ≡ length f.pairs.keys
  pub within : All (λ p. p.shape < length t.shapes) t.pairs
  pub same : (k : ℕ) (s : PlainShape) → HasPairOf t k s ↔ IsRecorded f k s
  pub ordered : AreInOrder t
