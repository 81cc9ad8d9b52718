-- The test is subtyping.
use Rattle.std.proofs.Common.{ℕ, ◌≡◌, ◌↔◌, Bool, true, false, ◌&&◌, ◌||◌, eqb, IsTrue, refl, sym, subst, eqb-true, eq-eqb}
use Rattle.std.proofs.lemmas.Bool.{and_from, or_left, or_right}
use Rattle.fy_types.specs.declared.types.Atom.{Atom}
use Rattle.fy_types.specs.declared.types.Atom.TheVariants.{Comm, Compl}
use Rattle.fy_types.specs.Types.{PlainType}
use Rattle.fy_types.specs.Subtyping.{IsSubtype}
use Rattle.fy_types.specs.Paths.{PlainPath, PlainPaths, end, call, pick, no_paths, and_path, paths}
use Rattle.fy_types.specs.PathOrder.{IsEndBelow, same_end, compl_below, IsPathBelow, ends, calls, picks, ArePathsBelow, none_left, and_above, HasBelow, here, there}
use Rattle.fy_types.specs.Once.{place}
use Rattle.fy_types.specs.Bounds.{is_end_low}
use Rattle.fy_types.proofs.OnceLemmas.{both_true, place-same}
use Rattle.fy_types.proofs.Central.{subtype-iff}
use Rattle.fy_derive.specs.Subsumption.{all_pass, some_passes, path_below, path_above, some_below, each_above, paths_below, is_below}

pub or_cases : {C : Type 0} (a b : Bool) → a || b ≡ true → (a ≡ true → C) → (b ≡ true → C) → C
or_cases true b e f g = f refl
or_cases false b e f g = g e

is_end_low-refl : (a : Atom) → is_end_low a a ≡ true
is_end_low-refl a = or_left _ _ (eq-eqb (place a) (place a) refl)

IsEndBelow-test : {a b : Atom} → IsEndBelow a b → is_end_low a b ≡ true
IsEndBelow-test (same_end {a = a}) = is_end_low-refl a
IsEndBelow-test compl_below = refl

pub is_end_low-sound : (a b : Atom) → is_end_low a b ≡ true → IsEndBelow a b
is_end_low-sound a b e = or_cases (eqb (place a) (place b)) ((eqb (place a) 4) && (eqb (place b) 3)) e
    (λ h. subst (λ x. IsEndBelow a x) (place-same a b (eqb-true (place a) (place b) h)) same_end)
    (λ h. let t = both_true (eqb (place a) 4) (eqb (place b) 3) h in
    rw (place-same a Compl (eqb-true (place a) 4 t.0), place-same b Comm (eqb-true (place b) 3 t.1)) compl_below)

all_pass-ArePathsBelow : (D : PlainPaths) (f : PlainPath → Bool) (P : PlainPaths) → ((q : PlainPath) → f q ≡ true → HasBelow D q) → all_pass f P ≡ true → ArePathsBelow D P
all_pass-ArePathsBelow D f no_paths g e = none_left
all_pass-ArePathsBelow D f (and_path p P) g e =
    let t = both_true (f p) (all_pass f P) e in and_above (g p t.0) (all_pass-ArePathsBelow D f P g t.1)

some_passes-HasBelow : (p : PlainPath) (f : PlainPath → Bool) (Q : PlainPaths) → ((q : PlainPath) → f q ≡ true → IsPathBelow q p) → some_passes f Q ≡ true → HasBelow Q p
some_passes-HasBelow p f no_paths g e = absurd (cc)
some_passes-HasBelow p f (and_path q Q) g e =
    or_cases (f q) (some_passes f Q) e (λ h. here (g q h)) (λ h. there (some_passes-HasBelow p f Q g h))

same_pick : {i j : ℕ} {p q : PlainPath} → i ≡ j → IsPathBelow p q → IsPathBelow (pick i p) (pick j q)
same_pick {i = i} {p = p} {q = q} e k = subst (λ x. IsPathBelow (pick i p) (pick x q)) e (picks k)

mutual
  pub path_below-sound : (p q : PlainPath) → path_below p q ≡ true → IsPathBelow p q
  path_below-sound (end a) (end b) e = ends (is_end_low-sound a b e)
  path_below-sound (call D p) (call E q) e =
      let t = both_true (each_above D E) (path_below p q) e in calls (each_above-sound D E t.0) (path_below-sound p q t.1)
  path_below-sound (pick i p) (pick j q) e =
      let t = both_true (eqb i j) (path_below p q) e in same_pick (eqb-true i j t.0) (path_below-sound p q t.1)
  path_below-sound (end a) (call E q) e = absurd (cc)
  path_below-sound (end a) (pick j q) e = absurd (cc)
  path_below-sound (call D p) (end b) e = absurd (cc)
  path_below-sound (call D p) (pick j q) e = absurd (cc)
  path_below-sound (pick i p) (end b) e = absurd (cc)
  path_below-sound (pick i p) (call E q) e = absurd (cc)

  pub path_above-sound : (p q : PlainPath) → path_above p q ≡ true → IsPathBelow q p
  path_above-sound (end a) (end b) e = ends (is_end_low-sound b a e)
  path_above-sound (call D p) (call E q) e =
      let t = both_true (all_pass (some_below D) E) (path_above p q) e in
      calls (all_pass-ArePathsBelow D (some_below D) E (λ x h. some_below-sound D x h) t.0) (path_above-sound p q t.1)
  path_above-sound (pick i p) (pick j q) e =
      let t = both_true (eqb i j) (path_above p q) e in same_pick (sym (eqb-true i j t.0)) (path_above-sound p q t.1)
  path_above-sound (end a) (call E q) e = absurd (cc)
  path_above-sound (end a) (pick j q) e = absurd (cc)
  path_above-sound (call D p) (end b) e = absurd (cc)
  path_above-sound (call D p) (pick j q) e = absurd (cc)
  path_above-sound (pick i p) (end b) e = absurd (cc)
  path_above-sound (pick i p) (call E q) e = absurd (cc)

  pub some_below-sound : (P : PlainPaths) (q : PlainPath) → some_below P q ≡ true → HasBelow P q
  some_below-sound no_paths q e = absurd (cc)
  some_below-sound (and_path p P) q e =
      or_cases (path_below p q) (some_below P q) e (λ h. here (path_below-sound p q h)) (λ h. there (some_below-sound P q h))

  pub each_above-sound : (P Q : PlainPaths) → each_above P Q ≡ true → ArePathsBelow Q P
  each_above-sound no_paths Q e = none_left
  each_above-sound (and_path p P) Q e =
      let t = both_true (some_passes (path_above p) Q) (each_above P Q) e in
      and_above (some_passes-HasBelow p (path_above p) Q (λ q h. path_above-sound p q h) t.0) (each_above-sound P Q t.1)

mutual
  IsPathBelow-le : {p q : PlainPath} → IsPathBelow p q → path_below p q ≡ true
  IsPathBelow-le (ends x) = IsEndBelow-test x
  IsPathBelow-le (calls h k) = and_from _ _ (ArePathsBelow-ge h) (IsPathBelow-le k)
  IsPathBelow-le (picks {i = i} k) = and_from _ _ (eq-eqb i i refl) (IsPathBelow-le k)

  IsPathBelow-ge : {p q : PlainPath} → IsPathBelow p q → path_above q p ≡ true
  IsPathBelow-ge (ends x) = IsEndBelow-test x
  IsPathBelow-ge (calls h k) = and_from _ _ (ArePathsBelow-le h) (IsPathBelow-ge k)
  IsPathBelow-ge (picks {i = i} k) = and_from _ _ (eq-eqb i i refl) (IsPathBelow-ge k)

  HasBelow-le : {P : PlainPaths} {q : PlainPath} → HasBelow P q → some_below P q ≡ true
  HasBelow-le (here k) = or_left _ _ (IsPathBelow-le k)
  HasBelow-le (there s) = or_right _ _ (HasBelow-le s)

  HasBelow-ge : {P : PlainPaths} {q : PlainPath} → HasBelow P q → some_passes (path_above q) P ≡ true
  HasBelow-ge (here k) = or_left _ _ (IsPathBelow-ge k)
  HasBelow-ge (there s) = or_right _ _ (HasBelow-ge s)

  pub ArePathsBelow-le : {P Q : PlainPaths} → ArePathsBelow P Q → all_pass (some_below P) Q ≡ true
  ArePathsBelow-le none_left = refl
  ArePathsBelow-le (and_above s h) = and_from _ _ (HasBelow-le s) (ArePathsBelow-le h)

  ArePathsBelow-ge : {P Q : PlainPaths} → ArePathsBelow P Q → each_above Q P ≡ true
  ArePathsBelow-ge none_left = refl
  ArePathsBelow-ge (and_above s h) = and_from _ _ (HasBelow-ge s) (ArePathsBelow-ge h)

-- the test is exactly the order
pub paths_below-iff : (P Q : PlainPaths) → IsTrue (paths_below P Q) ↔ ArePathsBelow P Q
paths_below-iff P Q = (all_pass-ArePathsBelow P (some_below P) Q (λ q h. some_below-sound P q h), ArePathsBelow-le)

pub is_below-iff : (A B : PlainType) → IsTrue (is_below A B) ↔ IsSubtype A B
is_below-iff A B =
    let tests = paths_below-iff (paths A) (paths B) in
    let order = subtype-iff A B in
    (λ t. order.1 (tests.0 t), λ low. tests.1 (order.0 low))
