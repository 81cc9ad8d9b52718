-- The shapes of a table by their first demands.
use Rattle.std.specs.Prelude.{ℕ, ◌≡◌, ◌≢◌, List, [], ◌∷◌, length, slice_get, Option, Some}
use Rattle.std.specs.Option.{option_map}
use Rattle.fy_phrase.specs.declared.shapes.Shape.{Shape}
use Rattle.fy_phrase.specs.declared.shapes.ShapeElem.{ShapeElem}
use Rattle.fy_derive.specs.Shapes.{PlainShape, at_end}
use Rattle.fy_derive.specs.ShapeTables.{plain_end, behind, plain_shape}
use Rattle.pe_gen.specs.declared.steps.ShapeStep.{ShapeStep}
use Rattle.pe_gen.specs.declared.steps.ShapeStep.TheVariants.{End, Before, Apart}

-- the shape with the number
abbrev pub shape_in : List Shape → ℕ → Option PlainShape
shape_in shapes n = option_map plain_shape (slice_get shapes n)

-- no shape stands twice
abbrev pub AreShapesOnce : List Shape → Type 0
AreShapesOnce shapes = (i j : ℕ) (s : PlainShape) → shape_in shapes i ≡ Some s → shape_in shapes j ≡ Some s → i ≡ j

-- the shape with the number has the step
abbrev pub IsStep : List Shape → ℕ → ShapeStep → Type 0
IsStep shapes n (End e) = shape_in shapes n ≡ Some (at_end (plain_end e))
IsStep shapes n (Before e m) = (s : PlainShape) × (shape_in shapes m ≡ Some s) × (shape_in shapes n ≡ Some (behind (e ∷ []) s))
IsStep shapes n (Apart m) =
    (m ≡ n) × ((e : ShapeElem) × (s : PlainShape) × (shape_in shapes n ≡ Some (behind (e ∷ []) s)) × ((k : ℕ) → shape_in shapes k ≢ Some s))

-- each shape's step stands at its number
pub record AreSteps (shapes : List Shape) (steps : List ShapeStep) : Type 0 where
  pub all : length steps ≡ length shapes
  pub each : (n : ℕ) (t : ShapeStep) → slice_get steps n ≡ Some t → IsStep shapes n t
