-- The keys of a set after one more is put in.
use Rattle.std.proofs.Common.{ℕ, zero, suc, ◌+◌, ◌<◌, ◌≡◌, ◌||◌, cond, Bool, true, false, ◌⊎◌, inl, inr, List, [], ◌∷◌, ◌++◌, length, get_or, take, Some, refl, ap, sym, ◌∙◌, arith}
use Rattle.std.specs.List.{list_any, position}
use Rattle.std.specs.Prelude.{slice_get}
use Rattle.std.proofs.lemmas.Bool.{or_parts}
use Rattle.std.proofs.lemmas.List.{take_more}
use Rattle.std.proofs.lemmas.List.Quantifiers.{position-Some}
use Rattle.std.proofs.lemmas.Map.Keys.{any_passes_from_place}
use Rattle.std.proofs.lemmas.Option.{slice_get-get_or}
use Rattle.indexmap.specs.IndexSet.{insert_key}
use Rattle.pe_gen.specs.Sites.{Stands}
use Rattle.pe_gen.proofs.Gets.{some_same, get-within, get-left, get-last}

-- no key stands twice
abbrev pub AreKeysOnce : {X : Type 0} → List X → Type 0
AreKeysOnce {X} ks = (i j : ℕ) (x : X) → slice_get ks i ≡ Some x → slice_get ks j ≡ Some x → i ≡ j

-- a member of the first so many is in the list
taken-member : {X : Type 0} (xs : List X) (i j : ℕ) (x : X) → slice_get (take i xs) j ≡ Some x → (j < i) × (slice_get xs j ≡ Some x)
taken-member [] zero j x is = absurd cc
taken-member [] (suc i) j x is = absurd cc
taken-member (y ∷ xs) zero j x is = absurd cc
taken-member (y ∷ xs) (suc i) zero x is = (omega arith, is)
taken-member (y ∷ xs) (suc i) (suc j) x is = let t = taken-member xs i j x is in (omega (arith, t.0), t.1)

-- a member of a list with one more is in the list before it, or the last
pub pushed-member : {X : Type 0} (ks : List X) (x y : X) (i : ℕ) → slice_get (ks ++ x ∷ []) i ≡ Some y →
    ((i < length ks) × (slice_get ks i ≡ Some y)) ⊎ ((i ≡ length ks) × (x ≡ y))
pushed-member [] x y zero is = inr (refl, some_same is)
pushed-member [] x y (suc i) is = absurd cc
pushed-member (k ∷ ks) x y zero is = inl (omega arith, is)
pushed-member (k ∷ ks) x y (suc i) is = elim (pushed-member ks x y i is) [
  | inl m ↦ inl (omega (arith, m.0), m.1)
  | inr e ↦ inr (omega (arith, e.0), e.1)
]

once-pushed : {X : Type 0} (ks : List X) (x : X) → AreKeysOnce ks → ((i : ℕ) → slice_get ks i ≡ Some x → ⊥) → AreKeysOnce (ks ++ x ∷ [])
once-pushed ks x once new i j y a b = elim (pushed-member ks x y i a) [
  | inl m ↦ elim (pushed-member ks x y j b) [
    | inl n ↦ once i j y m.1 n.1
    | inr f ↦ absurd (new i (m.1 ∙ ap Some (sym f.1)))
  ]
  | inr e ↦ elim (pushed-member ks x y j b) [
    | inl n ↦ absurd (new j (n.1 ∙ ap Some (sym e.1)))
    | inr f ↦ e.0 ∙ sym f.0
  ]
]

module _ {X : Type 0} (eq : X → X → Bool) (same : (x y : X) → eq x y ≡ true → x ≡ y) (reflexive : (x : X) → eq x x ≡ true) where
  -- a key that the test finds is in the list
  any-stands : (ks : List X) (x : X) → list_any (eq x) ks ≡ true → Stands ks x
  any-stands [] x h = absurd cc
  any-stands (k ∷ ks) x h = by (eq x k) refl h (λ g. any-stands ks x g)
    where
      by : (b : Bool) → eq x k ≡ b → b || list_any (eq x) ks ≡ true → (list_any (eq x) ks ≡ true → Stands ks x) → Stands (k ∷ ks) x
      by true e g rest = (0, ap Some (sym (same x k e)))
      by false e g rest = let s = rest g in (suc s.0, s.1)

  -- and one that it doesn't find is not
  none-stands : (ks : List X) (x : X) (i : ℕ) → list_any (eq x) ks ≡ false → slice_get ks i ≡ Some x → ⊥
  none-stands [] x i h is = absurd cc
  none-stands (k ∷ ks) x zero h is =
      let found : eq x k ≡ true = ap (eq x) (some_same is) ∙ reflexive x in
      let lost : eq x k ≡ false = (or_parts (eq x k) (list_any (eq x) ks) h).0 in
      absurd cc
  none-stands (k ∷ ks) x (suc i) h is = none-stands ks x i (or_parts (eq x k) (list_any (eq x) ks) h).1 is

  pub insert-member : (ks : List X) (x y : X) (i : ℕ) → slice_get (insert_key eq ks x) i ≡ Some y → Stands ks y ⊎ (x ≡ y)
  insert-member ks x y i is = by (list_any (eq x) ks) is
    where
      by : (b : Bool) → slice_get (cond b ks (ks ++ x ∷ [])) i ≡ Some y → Stands ks y ⊎ (x ≡ y)
      by true g = inl (i, g)
      by false g = elim (pushed-member ks x y i g) [ inl m ↦ inl (i, m.1) | inr e ↦ inr e.1 ]

  pub insert-new : (ks : List X) (x : X) → Stands (insert_key eq ks x) x
  insert-new ks x = by (list_any (eq x) ks) refl
    where
      by : (b : Bool) → list_any (eq x) ks ≡ b → Stands (cond b ks (ks ++ x ∷ [])) x
      by true e = any-stands ks x e
      by false e = (length ks, get-last ks x (length ks) refl)

  pub insert-old : (ks : List X) (x y : X) (i : ℕ) → slice_get ks i ≡ Some y → slice_get (insert_key eq ks x) i ≡ Some y
  insert-old ks x y i is = by (list_any (eq x) ks)
    where
      by : (b : Bool) → slice_get (cond b ks (ks ++ x ∷ [])) i ≡ Some y
      by true = is
      by false = get-left ks (x ∷ []) i (get-within ks i y is) ∙ is

  pub insert-once : (ks : List X) (x : X) → AreKeysOnce ks → AreKeysOnce (insert_key eq ks x)
  insert-once ks x once = by (list_any (eq x) ks) refl
    where
      by : (b : Bool) → list_any (eq x) ks ≡ b → AreKeysOnce (cond b ks (ks ++ x ∷ []))
      by true e = once
      by false e = once-pushed ks x once (λ i is. none-stands ks x i e is)

  -- where a key is found it stands, and where it stands it is found
  pub found-key : (ks : List X) (x : X) (i : ℕ) → position (eq x) ks ≡ Some i → slice_get ks i ≡ Some x
  found-key ks x i h =
      let f = position-Some (eq x) ks i x h in
      slice_get-get_or ks i x f.0 ∙ ap Some (sym (same x (get_or ks i x) f.1))

  pub key-found : (ks : List X) (x : X) (i : ℕ) → slice_get ks i ≡ Some x → list_any (eq x) ks ≡ true
  key-found ks x i h = any_passes_from_place (eq x) ks i x h (reflexive x)

  -- a key that isn't in the list goes last
  pub insert-last : (ks : List X) (x : X) → ((i : ℕ) → slice_get ks i ≡ Some x → ⊥) → insert_key eq ks x ≡ ks ++ x ∷ []
  insert-last ks x new = by (list_any (eq x) ks) refl
    where
      by : (b : Bool) → list_any (eq x) ks ≡ b → cond b ks (ks ++ x ∷ []) ≡ ks ++ x ∷ []
      by true e = let s = any-stands ks x e in absurd (new s.0 s.1)
      by false e = refl

  -- the first of a list in which no key stands twice, with the next
  pub insert-next : (ks : List X) (i : ℕ) (d : X) → AreKeysOnce ks → i < length ks → insert_key eq (take i ks) (get_or ks i d) ≡ take (i + 1) ks
  insert-next ks i d once within =
      insert-last (take i ks) (get_or ks i d) (λ j is.
      let t = taken-member ks i j (get_or ks i d) is in
      let same : j ≡ i = once j i (get_or ks i d) t.1 (slice_get-get_or ks i d within) in
      omega (arith, t.0))
      ∙ sym (take_more ks i d within)
