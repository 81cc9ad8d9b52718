-- Members of lists, and lists in which none stands twice.
use Rattle.std.proofs.Common.{ℕ, zero, suc, ◌<◌, ◌≤◌, ◌≡◌, ◌⊎◌, inl, inr, Bool, true, false, List, [], ◌∷◌, length, get_or, map, take, Some, option_map, slice_get, refl, sym, ap, ◌∙◌, subst, arith}
use Rattle.std.specs.List.{Contains, IsDistinct}
use Rattle.std.proofs.lemmas.Bool.{cases_lt}
use Rattle.std.proofs.lemmas.List.{length-map, length-take-le}
use Rattle.std.proofs.lemmas.Option.{slice_get_within, get_or_from_slice_get, slice_get-get_or, slice_get-map}
use Rattle.std.proofs.lemmas.Map.Keys.{apart_from_distinct}
use Rattle.pe_shapes.specs.Counts.{StandOnce, HasMany}

pub Contains-none : {X : Type 0} (x : X) → Contains [] x → ⊥
Contains-none x h = omega (arith, h.1)

pub Contains-head : {X : Type 0} (x : X) (xs : List X) → Contains (x ∷ xs) x
Contains-head x xs = (0, omega arith, refl)

pub Contains-tail : {X : Type 0} (x y : X) (xs : List X) → Contains xs y → Contains (x ∷ xs) y
Contains-tail x y xs h = (suc h.0, omega (arith, h.1), h.2)

pub Contains-split : {X : Type 0} (x y : X) (xs : List X) → Contains (x ∷ xs) y → (x ≡ y) ⊎ Contains xs y
Contains-split x y xs h = by h.0 h.1 h.2
  where
    by : (k : ℕ) → k < length (x ∷ xs) → get_or (x ∷ xs) k y ≡ y → (x ≡ y) ⊎ Contains xs y
    by zero l e = inl e
    by (suc k) l e = inr (k, omega arith, e)

pub Contains-map : {X Y : Type 0} (f : X → Y) (xs : List X) (x : X) → Contains xs x → Contains (map f xs) (f x)
Contains-map f [] x h = absurd (Contains-none x h)
Contains-map f (y ∷ xs) x h = elim (Contains-split y x xs h) [
  | inl e ↦ subst (λ z. Contains (map f (y ∷ xs)) (f z)) e (Contains-head (f y) (map f xs))
  | inr t ↦ Contains-tail (f y) (f x) (map f xs) (Contains-map f xs x t)
]

pub Contains-unmap : {X Y : Type 0} (f : X → Y) (xs : List X) (y : Y) → Contains (map f xs) y → (x : X) × Contains xs x × (f x ≡ y)
Contains-unmap f [] y h = absurd (Contains-none y h)
Contains-unmap f (x ∷ xs) y h = elim (Contains-split (f x) y (map f xs) h) [
  | inl e ↦ (x, Contains-head x xs, e)
  | inr t ↦ (let r = Contains-unmap f xs y t in (r.0, Contains-tail x r.0 xs r.1, r.2))
]

pub Contains-at : {X : Type 0} (xs : List X) (i : ℕ) (x : X) → slice_get xs i ≡ Some x → Contains xs x
Contains-at xs i x e = (i, slice_get_within xs i x e, get_or_from_slice_get xs i x x e)

pub place_of : {X : Type 0} (xs : List X) (x : X) → Contains xs x → (i : ℕ) × (slice_get xs i ≡ Some x)
place_of xs x h = (h.0, slice_get-get_or xs h.0 x h.1 ∙ ap Some h.2)

-- what is read of a list that a function made
pub unmapped : {X Y : Type 0} (f : X → Y) (xs : List X) (i : ℕ) (y : Y) → slice_get (map f xs) i ≡ Some y → (x : X) × (slice_get xs i ≡ Some x) × (f x ≡ y)
unmapped f [] i y e = absurd cc
unmapped f (x ∷ xs) zero y e = (x, refl, cc)
unmapped f (x ∷ xs) (suc i) y e = unmapped f xs i y e

pub mapped : {X Y : Type 0} (f : X → Y) (xs : List X) (i : ℕ) (x : X) → slice_get xs i ≡ Some x → slice_get (map f xs) i ≡ Some (f x)
mapped f xs i x e = slice_get-map f xs i ∙ ap (option_map f) e

pub slice_get-take : {X : Type 0} (n : ℕ) (xs : List X) (i : ℕ) (x : X) → slice_get (take n xs) i ≡ Some x → slice_get xs i ≡ Some x
slice_get-take zero xs i x e = absurd cc
slice_get-take (suc n) [] i x e = absurd cc
slice_get-take (suc n) (y ∷ xs) zero x e = e
slice_get-take (suc n) (y ∷ xs) (suc i) x e = slice_get-take n xs i x e

pub StandOnce-map : {X Y : Type 0} (f : X → Y) (xs : List X) → ((x y : X) → Contains xs x → Contains xs y → f x ≡ f y → x ≡ y) → StandOnce xs → StandOnce (map f xs)
StandOnce-map f xs same once i j y e g =
    let a = unmapped f xs i y e in
    let b = unmapped f xs j y g in
    let s = same a.0 b.0 (Contains-at xs i a.0 a.1) (Contains-at xs j b.0 b.1) (a.2 ∙ sym b.2) in
    once i j b.0 (a.1 ∙ ap Some s) b.1

-- where a test that finds equals tells all keys apart
pub StandOnce-distinct : {X : Type 0} (eq : X → X → Bool) → ((x : X) → eq x x ≡ true) → (xs : List X) → IsDistinct eq xs → StandOnce xs
StandOnce-distinct eq e xs apart i j x a b = elim (cases_lt i j) [
  | inl l ↦ absurd (clash i j l a b)
  | inr g ↦ elim (cases_lt j i) [ inl l ↦ absurd (clash j i l b a) | inr l ↦ omega arith ]
]
  where
    clash : (i j : ℕ) → i < j → slice_get xs i ≡ Some x → slice_get xs j ≡ Some x → ⊥
    clash i j l a b =
        let f : eq x x ≡ false =
        ap (λ y. eq y x) (sym (get_or_from_slice_get xs i x x a))
        ∙ (ap (eq (get_or xs i x)) (sym (get_or_from_slice_get xs j x x b)) ∙ apart_from_distinct eq xs i j x apart l (slice_get_within xs j x b)) in
        let g : true ≡ false = sym (e x) ∙ f in cc

pub HasMany-from : {X : Type 0} (n : ℕ) (F : X → Type 0) (xs : List X) → n ≤ length xs → StandOnce xs → ((x : X) → Contains xs x → F x) → HasMany n F
HasMany-from n F xs l once all = record {
  members = take n xs;
  number = length-take-le n xs l;
  distinct = λ i j x a b. once i j x (slice_get-take n xs i x a) (slice_get-take n xs j x b);
  each = λ x h. let r = place_of (take n xs) x h in all x (Contains-at xs r.0 x (slice_get-take n xs r.0 x r.1));
}

pub HasMany-weaker : {X : Type 0} {n : ℕ} (F H : X → Type 0) → ((x : X) → F x → H x) → HasMany n F → HasMany n H
HasMany-weaker F H f m = record {
  members = m.members;
  number = m.number;
  distinct = m.distinct;
  each = λ x h. f x (m.each x h);
}

pub HasMany-map : {X Y : Type 0} {n : ℕ} (f : X → Y) (F : X → Type 0) (H : Y → Type 0) → ((x y : X) → f x ≡ f y → x ≡ y) → ((x : X) → F x → H (f x)) →
    HasMany n F → HasMany n H
HasMany-map f F H same to m = record {
  members = map f m.members;
  number = length-map m.members f ∙ m.number;
  distinct = StandOnce-map f m.members (λ x y a b e. same x y e) m.distinct;
  each = λ y h. let r = Contains-unmap f m.members y h in subst H r.2 (to r.0 (m.each r.0 r.1));
}
