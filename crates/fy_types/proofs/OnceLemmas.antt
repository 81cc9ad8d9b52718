-- The test of equality, and lists in which each path stands once.
use Rattle.std.proofs.Common.{ℕ, suc, List, [], ◌∷◌, length, get_or, ◌≡◌, ◌↔◌, Bool, true, false, ◌&&◌, ◌||◌, eqb, IsTrue, if◌then◌else◌, ◌⊎◌, inl, inr, refl, ap, sym, ◌∙◌, subst, eqb-true, eq-eqb}
use Rattle.std.proofs.lemmas.Bool.{and_from}
use Rattle.fy_types.specs.declared.types.Atom.{Atom}
use Rattle.fy_types.specs.declared.types.Atom.TheVariants.{Int, Char, Comm, Compl, IntAcc, BoolAcc, CharAcc}
use Rattle.fy_types.specs.declared.types.Atom.TheVariants as atoms
use Rattle.fy_types.specs.Paths.{PlainPath, PlainPaths, end, call, pick, no_paths, and_path}
use Rattle.fy_types.specs.Reading.{PlainElem, a_call, a_field, front, fronted, paths_from}
use Rattle.fy_types.specs.PathOrder.{IsPathBelow, ArePathsBelow, HasBelow, here, there}
use Rattle.fy_types.specs.Once.{place, is_same, are_same, contains, without, once}
use Rattle.fy_types.proofs.Order.{paths-widened, ArePathsBelow-refl}

pub both_true : (a b : Bool) → a && b ≡ true → (a ≡ true) × (b ≡ true)
both_true true b e = (refl, e)
both_true false b e = absurd (cc)

atom_at : ℕ → Atom
atom_at n = get_or (Int ∷ (atoms.Bool ∷ (Char ∷ (Comm ∷ (Compl ∷ (IntAcc ∷ (BoolAcc ∷ (CharAcc ∷ [])))))))) n Int

atom_at-place : (a : Atom) → atom_at (place a) ≡ a
unfolding atom_at
atom_at-place Int = refl
atom_at-place atoms.Bool = refl
atom_at-place Char = refl
atom_at-place Comm = refl
atom_at-place Compl = refl
atom_at-place IntAcc = refl
atom_at-place BoolAcc = refl
atom_at-place CharAcc = refl

pub place-same : (a b : Atom) → place a ≡ place b → a ≡ b
place-same a b e = sym (atom_at-place a) ∙ (ap atom_at e ∙ atom_at-place b)

mutual
  pub is_same-sound : (p q : PlainPath) → is_same p q ≡ true → p ≡ q
  is_same-sound (end a) (end b) e = ap end (place-same a b (eqb-true (place a) (place b) e))
  is_same-sound (call D p) (call E q) e =
      let both = both_true (are_same D E) (is_same p q) e in
      ap (λ X. call X p) (are_same-sound D E both.0) ∙ ap (call E) (is_same-sound p q both.1)
  is_same-sound (pick i p) (pick j q) e =
      let both = both_true (eqb i j) (is_same p q) e in
      ap (λ k. pick k p) (eqb-true i j both.0) ∙ ap (pick j) (is_same-sound p q both.1)
  is_same-sound (end a) (call E q) e = absurd (cc)
  is_same-sound (end a) (pick j q) e = absurd (cc)
  is_same-sound (call D p) (end b) e = absurd (cc)
  is_same-sound (call D p) (pick j q) e = absurd (cc)
  is_same-sound (pick i p) (end b) e = absurd (cc)
  is_same-sound (pick i p) (call E q) e = absurd (cc)

  are_same-sound : (P Q : PlainPaths) → are_same P Q ≡ true → P ≡ Q
  are_same-sound no_paths no_paths e = refl
  are_same-sound (and_path p P) (and_path q Q) e =
      let both = both_true (is_same p q) (are_same P Q) e in
      ap (λ x. and_path x P) (is_same-sound p q both.0) ∙ ap (and_path q) (are_same-sound P Q both.1)
  are_same-sound no_paths (and_path q Q) e = absurd (cc)
  are_same-sound (and_path p P) no_paths e = absurd (cc)

mutual
  pub is_same-refl : (p : PlainPath) → is_same p p ≡ true
  is_same-refl (end a) = eq-eqb (place a) (place a) refl
  is_same-refl (call D p) = and_from _ _ (are_same-refl D) (is_same-refl p)
  is_same-refl (pick i p) = and_from _ _ (eq-eqb i i refl) (is_same-refl p)

  are_same-refl : (P : PlainPaths) → are_same P P ≡ true
  are_same-refl no_paths = refl
  are_same-refl (and_path p P) = and_from _ _ (is_same-refl p) (are_same-refl P)

-- the test is equality
pub is_same-iff : (p q : PlainPath) → IsTrue (is_same p q) ↔ (p ≡ q)
is_same-iff p q = (is_same-sound p q, λ e. subst (λ x. is_same p x ≡ true) e (is_same-refl p))

-- the list without a path has below another what it had, but for that path
without-some : (p : PlainPath) (Q : PlainPaths) {r : PlainPath} → HasBelow Q r → HasBelow (without p Q) r ⊎ IsPathBelow p r
without-some p no_paths some = elim some [ ]
without-some p (and_path q Q) {r = r} (here low) = cases (is_same q p) refl
  where
    cases : (b : Bool) → is_same q p ≡ b →
        HasBelow (if b then without p Q else and_path q (without p Q)) r ⊎ IsPathBelow p r
    cases true e = inr (subst (λ x. IsPathBelow x r) (is_same-sound q p e) low)
    cases false e = inl (here low)
without-some p (and_path q Q) {r = r} (there some) = cases (is_same q p) (without-some p Q some)
  where
    cases : (b : Bool) → HasBelow (without p Q) r ⊎ IsPathBelow p r →
        HasBelow (if b then without p Q else and_path q (without p Q)) r ⊎ IsPathBelow p r
    cases true (inl s) = inl s
    cases true (inr s) = inr s
    cases false (inl s) = inl (there s)
    cases false (inr s) = inr s

some-without : (p : PlainPath) (Q : PlainPaths) {r : PlainPath} → HasBelow (without p Q) r → HasBelow Q r
some-without p no_paths some = some
some-without p (and_path q Q) {r = r} some = cases (is_same q p) (λ s. some-without p Q s) some
  where
    deeper : (HasBelow (without p Q) r → HasBelow Q r) → HasBelow (and_path q (without p Q)) r → HasBelow (and_path q Q) r
    deeper f (here low) = here low
    deeper f (there s) = there (f s)

    cases : (b : Bool) → (HasBelow (without p Q) r → HasBelow Q r) →
        HasBelow (if b then without p Q else and_path q (without p Q)) r → HasBelow (and_path q Q) r
    cases true f s = there (f s)
    cases false f s = deeper f s

pub once-some : (P : PlainPaths) {r : PlainPath} → HasBelow P r → HasBelow (once P) r
once-some no_paths some = elim some [ ]
once-some (and_path p P) (here low) = here low
once-some (and_path p P) {r = r} (there some) = kept (without-some p (once P) (once-some P some))
  where
    kept : HasBelow (without p (once P)) r ⊎ IsPathBelow p r → HasBelow (and_path p (without p (once P))) r
    kept (inl s) = there s
    kept (inr low) = here low

pub some-once : (P : PlainPaths) {r : PlainPath} → HasBelow (once P) r → HasBelow P r
some-once no_paths some = some
some-once (and_path p P) (here low) = here low
some-once (and_path p P) (there some) = there (some-once P (some-without p (once P) some))

-- a list and the list with each path once are below each other
pub once-below : (P : PlainPaths) → ArePathsBelow (once P) P
once-below P = paths-widened (λ r some. once-some P some) (ArePathsBelow-refl P)

pub below-once : (P : PlainPaths) → ArePathsBelow P (once P)
below-once P = paths-widened (λ r some. some-once P some) (ArePathsBelow-refl (once P))

abbrev paths_count : PlainPaths → ℕ
paths_count no_paths = 0
paths_count (and_path p P) = suc (paths_count P)

paths_count-from : (xs : List PlainPath) → paths_count (paths_from xs) ≡ length xs
paths_count-from [] = refl
paths_count-from (x ∷ xs) = ap suc (paths_count-from xs)

pub paths_from-length : (xs ys : List PlainPath) → paths_from xs ≡ paths_from ys → length xs ≡ length ys
paths_from-length xs ys e = sym (paths_count-from xs) ∙ (ap paths_count e ∙ paths_count-from ys)

abbrev elems_count : PlainPath → ℕ
elems_count (end a) = 0
elems_count (call D p) = suc (elems_count p)
elems_count (pick i p) = suc (elems_count p)

front-count : (x : PlainElem) (p : PlainPath) → elems_count (front x p) ≡ suc (elems_count p)
front-count (a_call D) p = refl
front-count (a_field i) p = refl

elems_count-fronted : (xs : List PlainElem) (a : Atom) → elems_count (fronted xs (end a)) ≡ length xs
elems_count-fronted [] a = refl
elems_count-fronted (x ∷ xs) a = front-count x (fronted xs (end a)) ∙ ap suc (elems_count-fronted xs a)

pub fronted-same_length : (xs ys : List PlainElem) (a b : Atom) → fronted xs (end a) ≡ fronted ys (end b) → length xs ≡ length ys
fronted-same_length xs ys a b e = sym (elems_count-fronted xs a) ∙ (ap elems_count e ∙ elems_count-fronted ys b)

pub contains-first : {b : Bool} (p q : PlainPath) (Q : PlainPaths) → b ≡ true → (IsTrue b → q ≡ p) → true ≡ contains (and_path q Q) p
contains-first p q Q e f = let same = f e in rw (same, is_same-refl p) refl

pub contains-later : {b : Bool} (p q : PlainPath) (Q : PlainPaths) → b ≡ false → (q ≡ p → IsTrue b) → contains (and_path q Q) p ≡ contains Q p
contains-later {b = b} p q Q e f = cases (is_same q p) refl
  where
    cases : (d : Bool) → is_same q p ≡ d → (d || contains Q p) ≡ contains Q p
    cases true h = let t : b ≡ true = f (is_same-sound q p h) in absurd (cc)
    cases false h = refl
