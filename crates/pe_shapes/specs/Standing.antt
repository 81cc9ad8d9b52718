-- Sets of shapes for types.
use Rattle.std.specs.Prelude.{ℕ, ◌≡◌, List, All, Contains, Result, Ok, Err, Vec}
use Rattle.std.specs.List.{AllZip}
use Rattle.std.specs.declared.alloc.Global.{Global}
use Rattle.fy_types.specs.Types.{PlainType}
use Rattle.fy_types.specs.Paths.{PlainPath, paths}
use Rattle.fy_derive.specs.Shapes.{PlainShape, erase, HasPath}
use Rattle.pe_shapes.specs.declared.error.ShapeError.{ShapeError}
use Rattle.pe_shapes.specs.declared.error.ShapeError.TheVariants.{TooManyShapes, TooManyEntries, TablesTooLarge, OutOfMemory}
use Rattle.pe_shapes.specs.declared.numbers.ShapeNumbers.{ShapeNumbers}
use Rattle.pe_shapes.specs.Contexts.{PlainBound, by_shapes, by_type}
use Rattle.pe_shapes.specs.Counts.{HasMany}
use Rattle.pe_shapes.specs.Shown.{all_shown, AreIn}

-- the type has a path of the shape
pub record HasShape (A : PlainType) (s : PlainShape) : Type 0 where
  pub path : PlainPath
  pub stands : HasPath (paths A) path
  pub shape_is : erase path ≡ s

-- the shapes are just those of the type
pub record AreJust (shapes : List PlainShape) (A : PlainType) : Type 0 where
  pub has : (s : PlainShape) → HasShape A s → Contains shapes s
  pub known : (s : PlainShape) → Contains shapes s → HasShape A s

-- why no shapes are given: more than 256 have the fact, or memory was wanting
abbrev pub IsStop : ShapeError → (PlainShape → Type 0) → Type 0
IsStop TooManyShapes F = HasMany 257 F
IsStop TooManyEntries F = ⊥
IsStop TablesTooLarge F = ⊥
IsStop OutOfMemory F = Unit {0}

-- the numbers of the type's shapes, or why they are not given
abbrev pub AreMade : Result (Vec ℕ Global) ShapeError → ShapeNumbers → PlainType → Type 0
AreMade (Ok v) t A = AreJust (all_shown t v.items) A
AreMade (Err e) t A = IsStop e (HasShape A)

-- what is known of a variable names shapes of the table
abbrev pub IsBound : ShapeNumbers → PlainBound → Type 0
IsBound t (by_shapes ks) = AreIn t ks
IsBound t (by_type A) = Unit {0}

pub record AreBound (t : ShapeNumbers) (bs : List PlainBound) : Type 0 where
  pub each : All (IsBound t) bs

-- what is known of a variable is right for the type
abbrev pub Fits : ShapeNumbers → PlainBound → PlainType → Type 0
Fits t (by_shapes ks) A = AreJust (all_shown t ks) A
Fits t (by_type B) A = B ≡ A

pub record AreFit (t : ShapeNumbers) (bs : List PlainBound) (G : List PlainType) : Type 0 where
  pub each : AllZip (Fits t) bs G

-- each set has just the shapes of its type
pub record AreShapesOfEach (t : ShapeNumbers) (sets : List (List ℕ)) (As : List PlainType) : Type 0 where
  pub each : AllZip (λ ks A. AreJust (all_shown t ks) A) sets As
