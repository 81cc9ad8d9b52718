-- Comparing two paths demand by demand.
use Rattle.std.proofs.Common.{ℕ, suc, ◌+◌, ◌<◌, ◌≤◌, ◌≡◌, ◌↔◌, ◌&&◌, Bool, true, false, List, [], ◌∷◌, length, map, drop, get_or, min, Option, Some, None, IsTrue, refl, sym, ap, ◌∙◌, arith}
use Rattle.std.specs.Prelude.{if◌then◌else◌, nat_le}
use Rattle.std.proofs.lemmas.Bool.{leb-true, leb-false}
use Rattle.fy_types.specs.declared.types.Atom.{Atom}
use Rattle.fy_types.specs.declared.types.Atom.TheVariants as atom
use Rattle.fy_types.specs.declared.paths.Path.{Path}
use Rattle.fy_types.specs.declared.paths.PathElem.{PathElem}
use Rattle.fy_types.specs.Bounds.{is_end_low}
use Rattle.fy_types.specs.PathOrder.{IsEndBelow, same_end, compl_below}
use Rattle.fy_types.specs.Paths.{PlainPath, PlainPaths, end, call, pick}
use Rattle.fy_types.specs.Reading.{PlainElem, a_call, a_field, front, fronted, paths_from, plain_elem, plain_path}
use Rattle.fy_types.proofs.Steps.{drop_end, drop_item}
use Rattle.fy_derive.proofs.SubsumptionLemmas.{is_end_low-sound}
use Rattle.fy_causes.specs.Causes.{first_missed}
use Rattle.fy_why.specs.Types.{Mismatch, first_alike, is_alike, mismatch, mismatch_or}
use Rattle.fy_why.specs.Readings.{are_one_kind, both_domains}

-- ---- ends

low-test : {a b : Atom} → IsEndBelow a b → is_end_low a b ≡ true
low-test {a = a} same_end = low-same a
  where
    low-same : (x : Atom) → is_end_low x x ≡ true
    low-same atom.Int = refl
    low-same atom.Bool = refl
    low-same atom.Char = refl
    low-same atom.Comm = refl
    low-same atom.Compl = refl
    low-same atom.IntAcc = refl
    low-same atom.BoolAcc = refl
    low-same atom.CharAcc = refl
low-test compl_below = refl

-- the test of ends is `is_end_low`
pub ends-low : (r : Bool) (a b : Atom) → IsTrue r ↔ IsEndBelow a b → r ≡ is_end_low a b
ends-low r a b iff = of r (is_end_low a b) refl refl
  where
    of : (x y : Bool) → r ≡ x → is_end_low a b ≡ y → r ≡ is_end_low a b
    of true true e f = e ∙ sym f
    of false false e f = e ∙ sym f
    of true false e f = let low = low-test (iff.0 e) in absurd cc
    of false true e f = let low = iff.1 (is_end_low-sound a b f) in absurd cc

-- ---- one demand of each

step-at : (xs : List PathElem) (i : ℕ) (x : PathElem) (e : Atom) → i < length xs → x ≡ get_or xs i x →
    fronted (map plain_elem (drop i xs)) (end e) ≡ front (plain_elem x) (fronted (map plain_elem (drop (i + 1) xs)) (end e))
step-at xs i x e within is = ap (λ ys. fronted ys (end e)) (drop_item plain_elem xs i x within is)

alike-front : (x y : PlainElem) (p q : PlainPath) → is_alike (front x p) (front y q) ≡ (are_one_kind x y && is_alike p q)
alike-front (a_call D) (a_call E) p q = refl
alike-front (a_call D) (a_field j) p q = refl
alike-front (a_field i) (a_call E) p q = refl
alike-front (a_field i) (a_field j) p q = refl

pub alike-step : (xs ys : List PathElem) (i : ℕ) (x y : PathElem) (a b : Atom) → i < length xs → i < length ys → x ≡ get_or xs i x → y ≡ get_or ys i y →
    is_alike (fronted (map plain_elem (drop i xs)) (end a)) (fronted (map plain_elem (drop i ys)) (end b))
    ≡ (are_one_kind (plain_elem x) (plain_elem y)
    && is_alike (fronted (map plain_elem (drop (i + 1) xs)) (end a)) (fronted (map plain_elem (drop (i + 1) ys)) (end b)))
alike-step xs ys i x y a b h g e f =
    ap (λ p. is_alike p (fronted (map plain_elem (drop i ys)) (end b))) (step-at xs i x a h e)
    ∙ (ap (is_alike (front (plain_elem x) (fronted (map plain_elem (drop (i + 1) xs)) (end a)))) (step-at ys i y b g f)
    ∙ alike-front (plain_elem x) (plain_elem y) (fronted (map plain_elem (drop (i + 1) xs)) (end a)) (fronted (map plain_elem (drop (i + 1) ys)) (end b)))

-- nothing is left of either
pub alike-end : (xs ys : List PathElem) (i : ℕ) (a b : Atom) → length xs ≤ i → length ys ≤ i →
    is_alike (fronted (map plain_elem (drop i xs)) (end a)) (fronted (map plain_elem (drop i ys)) (end b)) ≡ is_end_low a b
alike-end xs ys i a b h g =
    ap (λ zs. is_alike (fronted zs (end a)) (fronted (map plain_elem (drop i ys)) (end b))) (drop_end plain_elem xs i h)
    ∙ ap (λ zs. is_alike (end a) (fronted zs (end b))) (drop_end plain_elem ys i g)

-- paths of different lengths aren't alike
pub alike-lengths : (xs ys : List PlainElem) (a b : Atom) → (length xs ≡ length ys → ⊥) → is_alike (fronted xs (end a)) (fronted ys (end b)) ≡ false
alike-lengths [] [] a b apart = absurd (apart refl)
alike-lengths [] (a_call E ∷ ys) a b apart = refl
alike-lengths [] (a_field j ∷ ys) a b apart = refl
alike-lengths (a_call D ∷ xs) [] a b apart = refl
alike-lengths (a_field i ∷ xs) [] a b apart = refl
alike-lengths (x ∷ xs) (y ∷ ys) a b apart =
    alike-front x y (fronted xs (end a)) (fronted ys (end b))
    ∙ (ap (λ r. are_one_kind x y && r) (alike-lengths xs ys a b (λ same. apart (ap suc same))) ∙ and-false (are_one_kind x y))
  where
    and-false : (r : Bool) → (r && false) ≡ false
    and-false true = refl
    and-false false = refl

-- ---- the first call that differs

abbrev pub mismatch_at : ℕ → Option (PlainPaths × PlainPaths) → PlainPath → PlainPath → Option Mismatch
mismatch_at n None p q = mismatch n p q
mismatch_at n (Some both) p q = mismatch_or n both.1 (first_missed both.1 both.0) (mismatch (n + 1) p q)

mismatch-front : (n : ℕ) (x y : PlainElem) (p q : PlainPath) → mismatch n (front x p) (front y q) ≡ mismatch_at n (both_domains x y) p q
mismatch-front n (a_call D) (a_call E) p q = refl
mismatch-front n (a_call D) (a_field j) p q = refl
mismatch-front n (a_field i) (a_call E) p q = refl
mismatch-front n (a_field i) (a_field j) p q = refl

pub mismatch-step : (n : ℕ) (xs ys : List PathElem) (i : ℕ) (x y : PathElem) (a b : Atom) → i < length xs → i < length ys → x ≡ get_or xs i x → y ≡ get_or ys i y →
    mismatch n (fronted (map plain_elem (drop i xs)) (end a)) (fronted (map plain_elem (drop i ys)) (end b))
    ≡ mismatch_at n (both_domains (plain_elem x) (plain_elem y)) (fronted (map plain_elem (drop (i + 1) xs)) (end a)) (fronted (map plain_elem (drop (i + 1) ys)) (end b))
mismatch-step n xs ys i x y a b h g e f =
    ap (λ p. mismatch n p (fronted (map plain_elem (drop i ys)) (end b))) (step-at xs i x a h e)
    ∙ (ap (mismatch n (front (plain_elem x) (fronted (map plain_elem (drop (i + 1) xs)) (end a)))) (step-at ys i y b g f)
    ∙ mismatch-front n (plain_elem x) (plain_elem y) (fronted (map plain_elem (drop (i + 1) xs)) (end a)) (fronted (map plain_elem (drop (i + 1) ys)) (end b)))

-- nothing is left of one of both
none-left : (n : ℕ) (p : PlainPath) (b : Atom) → mismatch n p (end b) ≡ None
none-left n (end a) b = refl
none-left n (call D p) b = refl
none-left n (pick i p) b = refl

pub mismatch-end : (n : ℕ) (xs ys : List PathElem) (i : ℕ) (a b : Atom) → min (length xs) (length ys) ≤ i →
    mismatch n (fronted (map plain_elem (drop i xs)) (end a)) (fronted (map plain_elem (drop i ys)) (end b)) ≡ None
mismatch-end n xs ys i a b past = of (nat_le (length xs) i) refl
  where
    of : (r : Bool) → nat_le (length xs) i ≡ r → mismatch n (fronted (map plain_elem (drop i xs)) (end a)) (fronted (map plain_elem (drop i ys)) (end b)) ≡ None
    of true e =
        ap (λ zs. mismatch n (fronted zs (end a)) (fronted (map plain_elem (drop i ys)) (end b))) (drop_end plain_elem xs i (leb-true (length xs) i e))
    of false e =
        ap (λ zs. mismatch n (fronted (map plain_elem (drop i xs)) (end a)) (fronted zs (end b)))
        (drop_end plain_elem ys i (let longer = leb-false (length xs) i e in omega (arith, past, longer)))
        ∙ none-left n (fronted (map plain_elem (drop i xs)) (end a)) b

-- ---- the first path that is alike

pub alike-here : (xs : List Path) (i : ℕ) (x : Path) (y : PlainPath) → i < length xs → x ≡ get_or xs i x → is_alike (plain_path x) y ≡ true →
    first_alike (paths_from (map plain_path (drop i xs))) y ≡ Some (plain_path x)
alike-here xs i x y within is same =
    ap (λ ps. first_alike (paths_from ps) y) (drop_item plain_path xs i x within is)
    ∙ ap (λ r. if r then Some (plain_path x) else first_alike (paths_from (map plain_path (drop (i + 1) xs))) y) same

pub alike-later : (xs : List Path) (i : ℕ) (x : Path) (y : PlainPath) → i < length xs → x ≡ get_or xs i x → is_alike (plain_path x) y ≡ false →
    first_alike (paths_from (map plain_path (drop i xs))) y ≡ first_alike (paths_from (map plain_path (drop (i + 1) xs))) y
alike-later xs i x y within is not =
    ap (λ ps. first_alike (paths_from ps) y) (drop_item plain_path xs i x within is)
    ∙ ap (λ r. if r then Some (plain_path x) else first_alike (paths_from (map plain_path (drop (i + 1) xs))) y) not
