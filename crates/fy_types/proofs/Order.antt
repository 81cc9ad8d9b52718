-- The order of path forms is reflexive and transitive.
use Rattle.fy_types.specs.declared.types.Atom.{Atom}
use Rattle.fy_types.specs.Paths.{PlainPath, PlainPaths, end, call, pick, no_paths, and_path}
use Rattle.fy_types.specs.PathOrder.{IsEndBelow, same_end, compl_below, IsPathBelow, ends, calls, picks, ArePathsBelow, none_left, and_above, HasBelow, here, there}

IsEndBelow-trans : {a b c : Atom} → IsEndBelow a b → IsEndBelow b c → IsEndBelow a c
IsEndBelow-trans same_end below = below
IsEndBelow-trans compl_below same_end = compl_below

-- where what has one list below it has the other too, the other list is below whatever the one is
pub paths-widened : {P Q R : PlainPaths} → ((r : PlainPath) → HasBelow Q r → HasBelow P r) → ArePathsBelow Q R → ArePathsBelow P R
paths-widened f none_left = none_left
paths-widened f (and_above {q = q} some rest) = and_above (f q some) (paths-widened f rest)

some-raised : {P : PlainPaths} {q r : PlainPath} → ((p : PlainPath) → IsPathBelow p q → IsPathBelow p r) → HasBelow P q → HasBelow P r
some-raised f (here {p = p} below) = here (f p below)
some-raised f (there some) = there (some-raised f some)

mutual
  pub IsPathBelow-refl : (p : PlainPath) → IsPathBelow p p
  IsPathBelow-refl (end a) = ends same_end
  IsPathBelow-refl (call D p) = calls (ArePathsBelow-refl D) (IsPathBelow-refl p)
  IsPathBelow-refl (pick i p) = picks (IsPathBelow-refl p)

  pub ArePathsBelow-refl : (P : PlainPaths) → ArePathsBelow P P
  ArePathsBelow-refl no_paths = none_left
  ArePathsBelow-refl (and_path p P) =
      and_above (here (IsPathBelow-refl p)) (paths-widened (λ r some. there some) (ArePathsBelow-refl P))

-- by recursion on the middle, since the two facts on a domain change places
mutual
  pub IsPathBelow-trans : (q : PlainPath) {p r : PlainPath} → IsPathBelow p q → IsPathBelow q r → IsPathBelow p r
  IsPathBelow-trans (end b) (ends low) (ends high) = ends (IsEndBelow-trans low high)
  IsPathBelow-trans (call E q) (calls wide low) (calls narrow high) =
      calls (paths-widened (λ d some. HasBelow-trans E narrow some) wide) (IsPathBelow-trans q low high)
  IsPathBelow-trans (pick i q) (picks low) (picks high) = picks (IsPathBelow-trans q low high)

  pub HasBelow-trans : (Q : PlainPaths) {P : PlainPaths} {r : PlainPath} → ArePathsBelow P Q → HasBelow Q r → HasBelow P r
  HasBelow-trans no_paths below some = elim some [ ]
  HasBelow-trans (and_path q Q) (and_above first rest) (here high) = some-raised (λ p low. IsPathBelow-trans q low high) first
  HasBelow-trans (and_path q Q) (and_above first rest) (there some) = HasBelow-trans Q rest some

pub ArePathsBelow-trans : (Q : PlainPaths) {P R : PlainPaths} → ArePathsBelow P Q → ArePathsBelow Q R → ArePathsBelow P R
ArePathsBelow-trans Q low high = paths-widened (λ r some. HasBelow-trans Q low some) high
