-- One step of a comparison of lists, and its end.
use Rattle.std.proofs.Common.{ℕ, suc, ◌+◌, ◌<◌, ◌≤◌, ◌≡◌, ◌↔◌, List, [], ◌∷◌, length, map, drop, get_or, refl, sym, ap, ◌∙◌, subst, Bool, false, IsTrue, add-one, drop-cons, drop_of_length-le}
use Rattle.fy_types.specs.declared.types.Atom.{Atom}
use Rattle.fy_types.specs.Paths.{PlainPath, PlainPaths, end, no_paths, and_path}
use Rattle.fy_types.specs.PathOrder.{IsEndBelow, IsPathBelow, ends, calls, picks, ArePathsBelow, and_above, HasBelow, here, there}
use Rattle.fy_types.specs.Reading.{PlainElem, a_call, a_field, front, fronted, IsElemBelow, wider, same_field}

-- what is left of a list begins with the item at the index
pub drop_item : {A B : Type 0} (f : A → B) (xs : List A) (i : ℕ) (x : A) → i < length xs → x ≡ get_or xs i x →
    map f (drop i xs) ≡ f x ∷ map f (drop (i + 1) xs)
drop_item f xs i x within is =
    ap (map f) (drop-cons xs i x within) ∙ (ap (λ y. f y ∷ map f (drop (suc i) xs)) (sym is) ∙ rw add-one refl)

pub drop_end : {A B : Type 0} (f : A → B) (xs : List A) (i : ℕ) → length xs ≤ i → map f (drop i xs) ≡ []
drop_end f xs i past = ap (map f) (drop_of_length-le xs past)

pub not_so : {r : Bool} {X : Type 0} → r ≡ false → (X → IsTrue r) → X → ⊥
not_so is f x = let t = f x in cc

pub all-next : {P Q : PlainPaths} {q : PlainPath} → HasBelow P q → ArePathsBelow P (and_path q Q) ↔ ArePathsBelow P Q
all-next some = (rest, and_above some)
  where
    rest : {P Q : PlainPaths} {q : PlainPath} → ArePathsBelow P (and_path q Q) → ArePathsBelow P Q
    rest (and_above some more) = more

pub all-first : {P Q : PlainPaths} {q : PlainPath} → ArePathsBelow P (and_path q Q) → HasBelow P q
all-first (and_above some more) = some

pub some-next : {P : PlainPaths} {p q : PlainPath} → (IsPathBelow p q → ⊥) → HasBelow (and_path p P) q ↔ HasBelow P q
some-next apart = (other apart, there)
  where
    other : {P : PlainPaths} {p q : PlainPath} → (IsPathBelow p q → ⊥) → HasBelow (and_path p P) q → HasBelow P q
    other apart (here low) = absurd (apart low)
    other apart (there some) = some

pub some-none : {q : PlainPath} → HasBelow no_paths q → ⊥
some-none some = elim some [ ]

pub front-split : (x y : PlainElem) (p q : PlainPath) → IsPathBelow (front x p) (front y q) → IsElemBelow x y × IsPathBelow p q
front-split (a_call D) (a_call E) p q (calls wide low) = (wider wide, low)
front-split (a_field i) (a_field j) p q (picks low) = (same_field, low)
front-split (a_call D) (a_field j) p q low = elim low [ ]
front-split (a_field i) (a_call E) p q low = elim low [ ]

pub front-joined : {x y : PlainElem} {p q : PlainPath} → IsElemBelow x y → IsPathBelow p q → IsPathBelow (front x p) (front y q)
front-joined (wider wide) low = calls wide low
front-joined same_field low = picks low

pub front-next : (x y : PlainElem) (p q : PlainPath) → IsElemBelow x y → IsPathBelow (front x p) (front y q) ↔ IsPathBelow p q
front-next x y p q below = (λ low. (front-split x y p q low).1, front-joined below)

pub fronted-length : (xs ys : List PlainElem) (a b : Atom) → IsPathBelow (fronted xs (end a)) (fronted ys (end b)) → length xs ≡ length ys
fronted-length [] [] a b low = refl
fronted-length [] (a_call E ∷ ys) a b low = elim low [ ]
fronted-length [] (a_field j ∷ ys) a b low = elim low [ ]
fronted-length (a_call D ∷ xs) [] a b low = elim low [ ]
fronted-length (a_field i ∷ xs) [] a b low = elim low [ ]
fronted-length (x ∷ xs) (y ∷ ys) a b low =
    ap suc (fronted-length xs ys a b (front-split x y (fronted xs (end a)) (fronted ys (end b)) low).1)

pub fronted-end : (xs ys : List PlainElem) (a b : Atom) → IsPathBelow (fronted xs (end a)) (fronted ys (end b)) → IsEndBelow a b
fronted-end [] [] a b (ends low) = low
fronted-end [] (a_call E ∷ ys) a b low = elim low [ ]
fronted-end [] (a_field j ∷ ys) a b low = elim low [ ]
fronted-end (a_call D ∷ xs) [] a b low = elim low [ ]
fronted-end (a_field i ∷ xs) [] a b low = elim low [ ]
fronted-end (x ∷ xs) (y ∷ ys) a b low =
    fronted-end xs ys a b (front-split x y (fronted xs (end a)) (fronted ys (end b)) low).1

pub elem-call : {D E : PlainPaths} → IsElemBelow (a_call D) (a_call E) ↔ ArePathsBelow E D
elem-call = (as_call, wider)
  where
    as_call : {D E : PlainPaths} → IsElemBelow (a_call D) (a_call E) → ArePathsBelow E D
    as_call (wider wide) = wide

pub elem-field : {i j : ℕ} → IsElemBelow (a_field i) (a_field j) → i ≡ j
elem-field same_field = refl

pub field-elem : {i j : ℕ} → i ≡ j → IsElemBelow (a_field i) (a_field j)
field-elem {i = i} e = subst (λ k. IsElemBelow (a_field i) (a_field k)) e same_field
