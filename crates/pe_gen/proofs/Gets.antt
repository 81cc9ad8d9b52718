-- Members of lists by their places.
use Rattle.std.proofs.Common.{ℕ, zero, suc, ◌+◌, ◌<◌, ◌≤◌, ◌≡◌, List, [], ◌∷◌, ◌++◌, length, Some, refl, ap, arith}
use Rattle.std.specs.Prelude.{slice_get}
pub use Rattle.pe_right.proofs.NodeValues.{get-right}
pub use Rattle.fy_derive.proofs.SoundLemmas.{some_same}

pub pair_first : {X Y : Type 0} {a x : X} {b y : Y} → ◌≡◌ {A = X × Y} (a, b) (x, y) → a ≡ x
pair_first e = ap (λ p. p.0) e

pub pair_second : {X Y : Type 0} {a x : X} {b y : Y} → ◌≡◌ {A = X × Y} (a, b) (x, y) → b ≡ y
pair_second e = ap (λ p. p.1) e

pub get-within : {X : Type 0} (xs : List X) (i : ℕ) (x : X) → slice_get xs i ≡ Some x → i < length xs
get-within [] i x e = absurd cc
get-within (y ∷ xs) zero x e = omega arith
get-within (y ∷ xs) (suc i) x e = omega (arith, get-within xs i x e)

-- each place below the length has a member
pub get-some : {X : Type 0} (xs : List X) (i : ℕ) → i < length xs → (x : X) × (slice_get xs i ≡ Some x)
get-some [] i h = absurd (omega arith)
get-some (y ∷ xs) zero h = (y, refl)
get-some (y ∷ xs) (suc i) h = get-some xs i (omega arith)

pub get-left : {X : Type 0} (xs ys : List X) (i : ℕ) → i < length xs → slice_get (xs ++ ys) i ≡ slice_get xs i
get-left [] ys i h = absurd (omega arith)
get-left (x ∷ xs) ys zero h = refl
get-left (x ∷ xs) ys (suc i) h = get-left xs ys i (omega arith)

-- a member of a list with one more at its end is one of the list or the last
pub get-pushed : {X : Type 0} (xs : List X) (x y : X) (i : ℕ) → slice_get (xs ++ x ∷ []) i ≡ Some y → i ≤ length xs
get-pushed [] x y zero e = omega arith
get-pushed [] x y (suc i) e = absurd cc
get-pushed (z ∷ xs) x y zero e = omega arith
get-pushed (z ∷ xs) x y (suc i) e = omega (arith, get-pushed xs x y i e)

pub get-last : {X : Type 0} (xs : List X) (x : X) (i : ℕ) → i ≡ length xs → slice_get (xs ++ x ∷ []) i ≡ Some x
get-last xs x i e = get-right xs (x ∷ []) 0 i (omega arith)
