-- Lists in which nothing stands twice: how long they are.
use Rattle.std.proofs.Common.{ℕ, zero, suc, ◌+◌, ◌-◌, ◌<◌, ◌≤◌, ◌≡◌, ◌||◌, Bool, true, false, eqb, eqb-true, ne_eqb, ◌⊎◌, inl, inr, List, [], ◌∷◌, ◌++◌, length, get_or, Some, refl, ap, sym, ◌∙◌, arith}
use Rattle.std.specs.List.{list_any}
use Rattle.std.specs.Prelude.{slice_get}
use Rattle.std.proofs.lemmas.Bool.{cases_lt}
use Rattle.std.proofs.lemmas.Map.Keys.{IsDistinct-from_apart}
use Rattle.std.proofs.lemmas.Map.Steps.{length-le_from_distinct_below}
use Rattle.std.proofs.lemmas.Option.{slice_get-get_or}
use Rattle.pe_gen.specs.Sites.{Stands}
use Rattle.pe_gen.proofs.Gets.{some_same, get-within, get-left, get-right}
use Rattle.pe_gen.proofs.KeyLists.{AreKeysOnce}

any-at : (xs : List ℕ) (q : ℕ) → list_any (eqb q) xs ≡ true → Stands xs q
any-at [] q h = absurd cc
any-at (x ∷ xs) q h = by (eqb q x) refl h (λ g. any-at xs q g)
  where
    by : (b : Bool) → eqb q x ≡ b → b || list_any (eqb q) xs ≡ true → (list_any (eqb q) xs ≡ true → Stands xs q) → Stands (x ∷ xs) q
    by true e g rest = (0, ap Some (sym (eqb-true q x e)))
    by false e g rest = let s = rest g in (suc s.0, s.1)

-- different numbers below n are at most n
pub few-below : (xs : List ℕ) (n : ℕ) → AreKeysOnce xs → ((i x : ℕ) → slice_get xs i ≡ Some x → x < n) → length xs ≤ n
few-below xs n once below =
    length-le_from_distinct_below xs n
    (IsDistinct-from_apart eqb xs (λ i j d lt within.
    ne_eqb (get_or xs i d) (get_or xs j d) (λ e.
    let a = slice_get-get_or xs i d (omega arith) in
    let b = slice_get-get_or xs j d within in
    let same : i ≡ j = once i j (get_or xs j d) (a ∙ ap Some e) b in
    omega arith)))
    (λ q h. let s = any-at xs q h in below s.0 q s.1)

-- what stands in another list, each member once
abbrev places : {X : Type 0} (ys : List X) (xs : List X) → ((i : ℕ) (x : X) → slice_get xs i ≡ Some x → Stands ys x) → List ℕ
places ys [] at = []
places ys (x ∷ xs) at = (at 0 x refl).0 ∷ places ys xs (λ i y h. at (suc i) y h)

length-places : {X : Type 0} (ys xs : List X) (at : (i : ℕ) (x : X) → slice_get xs i ≡ Some x → Stands ys x) → length (places ys xs at) ≡ length xs
length-places ys [] at = refl
length-places ys (x ∷ xs) at = omega (arith, length-places ys xs (λ i y h. at (suc i) y h))

-- a place is that of a member
places-read : {X : Type 0} (ys xs : List X) (at : (i : ℕ) (x : X) → slice_get xs i ≡ Some x → Stands ys x) (i n : ℕ) → slice_get (places ys xs at) i ≡ Some n →
    (x : X) × (slice_get xs i ≡ Some x) × (slice_get ys n ≡ Some x)
places-read ys [] at i n h = absurd cc
places-read ys (x ∷ xs) at zero n h = (x, refl, ap (slice_get ys) (sym (some_same h)) ∙ (at 0 x refl).1)
places-read ys (x ∷ xs) at (suc i) n h = places-read ys xs (λ j y g. at (suc j) y g) i n h

pub few-among : {X : Type 0} (ys xs : List X) → AreKeysOnce xs → ((i : ℕ) (x : X) → slice_get xs i ≡ Some x → Stands ys x) → length xs ≤ length ys
few-among ys xs once at =
    let short = few-below (places ys xs at) (length ys)
    (λ i j n a b.
    let x = places-read ys xs at i n a in
    let y = places-read ys xs at j n b in
    once i j x.0 x.1 (y.1 ∙ (sym y.2 ∙ x.2)))
    (λ i n h. let x = places-read ys xs at i n h in get-within ys n x.0 x.2) in
    omega (arith, length-places ys xs at)

-- ---- two lists in a row

either : {X : Type 0} (xs ys : List X) (i : ℕ) (x : X) → slice_get (xs ++ ys) i ≡ Some x →
    ((i < length xs) × (slice_get xs i ≡ Some x)) ⊎ ((j : ℕ) × (i ≡ length xs + j) × (slice_get ys j ≡ Some x))
either xs ys i x h = elim (cases_lt i (length xs)) [
  | inl l ↦ inl (l, sym (get-left xs ys i l) ∙ h)
  | inr g ↦
      let e : i ≡ length xs + (i - length xs) = omega arith in
      inr (i - length xs, e, sym (get-right xs ys (i - length xs) i e) ∙ h)
]

pub stands-either : {X : Type 0} (xs ys : List X) (x : X) → Stands (xs ++ ys) x → Stands xs x ⊎ Stands ys x
stands-either xs ys x s = elim (either xs ys s.0 x s.1) [ inl a ↦ inl (s.0, a.1) | inr b ↦ inr (b.0, b.2) ]

pub once-append : {X : Type 0} (xs ys : List X) → AreKeysOnce xs → AreKeysOnce ys → ((x : X) → Stands xs x → Stands ys x → ⊥) → AreKeysOnce (xs ++ ys)
once-append xs ys once more apart i j x a b = elim (either xs ys i x a) [
  | inl m ↦ elim (either xs ys j x b) [
    | inl n ↦ once i j x m.1 n.1
    | inr n ↦ absurd (apart x (i, m.1) (n.0, n.2))
  ]
  | inr m ↦ elim (either xs ys j x b) [
    | inl n ↦ absurd (apart x (j, n.1) (m.0, m.2))
    | inr n ↦ let e = more m.0 n.0 x m.2 n.2 in omega (arith, m.1, n.1)
  ]
]
