-- Numbers by the order of their shapes, and where each stands.
use Rattle.std.proofs.Common.{ℕ, zero, suc, ◌+◌, ◌<◌, ◌≤◌, ◌≡◌, inl, inr, true, false, List, [], ◌∷◌, ◌++◌, length, get_or, take, Some, slice_get, sym, ap, ◌∙◌, subst, arith}
use Rattle.std.specs.List.{AllPairs, Contains, insert}
use Rattle.std.specs.List.Sorted.{IsPermutation}
use Rattle.std.proofs.lemmas.Bool.{cases_lt, cases_Bool}
use Rattle.std.proofs.lemmas.List.{get_or_default, take_more, length_push, get_or_push, get_or_append_left}
use Rattle.std.proofs.lemmas.List.Elements.{All-cons, All-push}
use Rattle.std.proofs.lemmas.List.Sorted.{IsPermutation-insert, IsPermutation-push_more, IsPermutation-sym, Contains-permutation, All-permutation}
use Rattle.std.proofs.lemmas.Option.{slice_get-get_or, slice_get_within, get_or_from_slice_get}
use Rattle.pe_shapes.specs.declared.numbers.ShapeNumbers.{ShapeNumbers}
use Rattle.pe_shapes.specs.Counts.{StandOnce}
use Rattle.pe_shapes.specs.Order.{comes_before}
use Rattle.pe_shapes.specs.Placing.{AreNumbersBefore, AreNumbersInOrder, IsPlaceAmong, ArePlaces}
use Rattle.pe_shapes.specs.Shown.{shown, total, AreIn}
use Rattle.pe_shapes.proofs.Members.{place_of, slice_get-take}
use Rattle.pe_shapes.proofs.NodeTests.{same_number}
use Rattle.pe_shapes.proofs.OrderLemmas.{before-then, one-before}
use Rattle.pe_shapes.proofs.Sorting.{ordered-insert}
use Rattle.pe_shapes.proofs.Standings.{AreIn-at}

-- ---- the place of a number

-- what comes before the shape at the middle comes before what that comes before
pub before-middle : (t : ShapeNumbers) (ks : List ℕ) (n m : ℕ) → AreNumbersInOrder t ks → m < length ks → comes_before (shown t (get_or ks m 0)) (shown t n) ≡ true →
    (k d : ℕ) → k < m + 1 → comes_before (shown t (get_or ks k d)) (shown t n) ≡ true
before-middle t ks n m up l h k d r = elim (cases_lt k m) [
  | inl low ↦ before-then (shown t (get_or ks k d)) (shown t (get_or ks m d)) (shown t n) (up.each k m d low l) there
  | inr from ↦ (let e : m ≡ k = omega (arith, r, from) in subst (λ z. comes_before (shown t (get_or ks z d)) (shown t n) ≡ true) e there)
]
  where
    there : comes_before (shown t (get_or ks m d)) (shown t n) ≡ true
    there = ap (λ z. comes_before (shown t z) (shown t n)) (get_or_default ks m d 0 l) ∙ h

pub behind-middle : (t : ShapeNumbers) (ks : List ℕ) (n m : ℕ) → AreIn t ks → n < total t → AreNumbersInOrder t ks → (Contains ks n → ⊥) → m < length ks →
    comes_before (shown t (get_or ks m 0)) (shown t n) ≡ false → (k d : ℕ) → m ≤ k → k < length ks → comes_before (shown t n) (shown t (get_or ks k d)) ≡ true
behind-middle t ks n m within here up other l h k d from r = elim (cases_lt m k) [
  | inl high ↦ before-then (shown t n) (shown t (get_or ks m d)) (shown t (get_or ks k d)) there (up.each m k d high r)
  | inr low ↦ (let e : m ≡ k = omega (arith, low, from) in subst (λ z. comes_before (shown t n) (shown t (get_or ks z d)) ≡ true) e there)
]
  where
    first : comes_before (shown t n) (shown t (get_or ks m 0)) ≡ true
    first = elim (cases_Bool (comes_before (shown t n) (shown t (get_or ks m 0)))) [
      | inl y ↦ y
      | inr f ↦
          let e = same_number t.nodes.keys t.sound (get_or ks m 0) n (AreIn-at m 0 within l) here (one-before (shown t (get_or ks m 0)) (shown t n) h f) in
          absurd (other (m, l, get_or_default ks m n 0 l ∙ e))
    ]

    there : comes_before (shown t n) (shown t (get_or ks m d)) ≡ true
    there = ap (λ z. comes_before (shown t n) (shown t z)) (get_or_default ks m d 0 l) ∙ first

-- ---- one number more

pub moved-more : (set ks ms : List ℕ) (i place : ℕ) → i < length set → ms ≡ insert ks place (get_or set i 0) → IsPermutation (take i set) ks → IsPermutation (take (i + 1) set) ms
moved-more set ks ms i place l e moved =
    subst (λ xs. IsPermutation xs ms) (sym (take_more set i 0 l))
    (subst (IsPermutation (take i set ++ get_or set i 0 ∷ [])) (sym e)
    (IsPermutation-push_more (take i set) ks (insert ks place (get_or set i 0)) (get_or set i 0) moved (IsPermutation-insert ks place (get_or set i 0))))

-- a number that none of the earlier ones is
pub not-yet : (set ks : List ℕ) (i : ℕ) → i < length set → StandOnce set → IsPermutation (take i set) ks → Contains ks (get_or set i 0) → ⊥
not-yet set ks i l once moved c =
    let p = place_of (take i set) (get_or set i 0) (Contains-permutation ks (take i set) (get_or set i 0) (IsPermutation-sym (take i set) ks moved) c) in
    let e : p.0 ≡ i = once p.0 i (get_or set i 0) (slice_get-take i set p.0 (get_or set i 0) p.1) (slice_get-get_or set i 0 l) in
    omega (arith, e, slice_get_within (take i set) p.0 (get_or set i 0) p.1, length-take-most i set)
  where
    length-take-most : (n : ℕ) (xs : List ℕ) → length (take n xs) ≤ n
    length-take-most zero xs = omega arith
    length-take-most (suc n) [] = omega arith
    length-take-most (suc n) (x ∷ xs) = omega (arith, length-take-most n xs)

-- ---- where each stands

places-push : (xs order ps : List ℕ) (n m : ℕ) → ArePlaces xs order ps → slice_get order m ≡ Some n → ArePlaces (xs ++ n ∷ []) order (ps ++ m ∷ [])
places-push xs order ps n m h e = record {
  all = omega (arith, h.all, length_push xs n, length_push ps m);
  within = All-push (λ j. j < length order) ps m h.within (slice_get_within order m n e);
  same = λ k d l. elim (cases_lt k (length xs)) [
    | inl low ↦
        ap (λ z. get_or order z d) (get_or_append_left ps (m ∷ []) d k (omega (arith, h.all, low)))
        ∙ (h.same k d low ∙ sym (get_or_append_left xs (n ∷ []) d k low))
    | inr high ↦
        let last : length xs ≡ k = omega (arith, high, l, length_push xs n) in
        ap (λ z. get_or order z d) (get_or_push ps m d k (h.all ∙ last)) ∙ (get_or_from_slice_get order m n d e ∙ sym (get_or_push xs n d k last))
  ];
}

pub places-more : (used order ps qs : List ℕ) (i m : ℕ) → i < length used → qs ≡ ps ++ m ∷ [] → slice_get order m ≡ Some (get_or used i 0) → ArePlaces (take i used) order ps →
    ArePlaces (take (i + 1) used) order qs
places-more used order ps qs i m l q e h =
    subst (λ xs. ArePlaces xs order qs) (sym (take_more used i 0 l)) (subst (ArePlaces (take i used ++ get_or used i 0 ∷ []) order) (sym q) (places-push (take i used) order ps (get_or used i 0) m h e))

pub Contains-place : (used order : List ℕ) (i : ℕ) → IsPermutation used order → i < length used → Contains order (get_or used i 0)
Contains-place used order i moved l = Contains-permutation used order (get_or used i 0) moved (i, l, get_or_default used i (get_or used i 0) 0 l)

-- the number is put at its place
pub placed-in : (t : ShapeNumbers) (ks ms : List ℕ) (n place : ℕ) → ms ≡ insert ks place n → AreIn t ks → n < total t → AreIn t ms
placed-in t ks ms n place e within h = record {
  below = All-permutation (λ k. k < total t) (n ∷ ks) ms (subst (IsPermutation (n ∷ ks)) (sym e) (IsPermutation-insert ks place n)) (All-cons (λ k. k < total t) n ks h within.below);
}

pub ordered-in : (t : ShapeNumbers) (ks ms : List ℕ) (n place : ℕ) → IsPlaceAmong t ks n place → ms ≡ insert ks place n → AreNumbersInOrder t ks → AreNumbersInOrder t ms
ordered-in t ks ms n place p e up = record {
  each = subst (AllPairs (AreNumbersBefore t)) (sym e) (ordered-insert (AreNumbersBefore t) ks place n p.within up.each p.before p.behind);
}

-- ---- looking for a number

pub before_end : (ks : List ℕ) (n place : ℕ) → Contains ks n → ((k d : ℕ) → k < place → get_or ks k d ≡ n → ⊥) → place < length ks
before_end ks n place h other = elim (cases_lt place (length ks)) [
  | inl l ↦ l
  | inr from ↦ absurd (other h.0 n (omega (arith, h.1, from)) h.2)
]

pub not_here : (ks : List ℕ) (n place : ℕ) → place < length ks → (get_or ks place 0 ≡ n → ⊥) → ((k d : ℕ) → k < place → get_or ks k d ≡ n → ⊥) →
    (k d : ℕ) → k < place + 1 → get_or ks k d ≡ n → ⊥
not_here ks n place l here other k d below e = elim (cases_lt k place) [
  | inl low ↦ other k d low e
  | inr high ↦ (let at : k ≡ place = omega (arith, below, high) in here (get_or_default ks place 0 d l ∙ (ap (λ j. get_or ks j d) (sym at) ∙ e)))
]

pub stands_here : (ks : List ℕ) (n place : ℕ) → place < length ks → get_or ks place 0 ≡ n → slice_get ks place ≡ Some n
stands_here ks n place l e = slice_get-get_or ks place 0 l ∙ ap Some e
