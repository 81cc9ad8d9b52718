-- Lists in order: one member more, and lists with the same members.
use Rattle.std.proofs.Common.{ℕ, zero, suc, ◌+◌, ◌-◌, ◌<◌, ◌≤◌, ◌≡◌, inl, inr, Bool, true, false, List, [], ◌∷◌, length, get_or, Some, slice_get, refl, ap, sym, ◌∙◌, subst, arith}
use Rattle.std.specs.List.{AllPairs, Contains, insert}
use Rattle.std.specs.List.Sorted.{IsPermutation}
use Rattle.std.proofs.lemmas.Bool.{cases_lt, cases_Bool}
use Rattle.std.proofs.lemmas.List.Edits.{length-insert, get_or-insert_below, get_or-insert_at, get_or-insert_above}
use Rattle.std.proofs.lemmas.Map.Keys.{IsDistinct-from_apart, IsDistinct-IsPermutation}
use Rattle.std.proofs.lemmas.Option.{slice_get-get_or, slice_get_within, get_or_from_slice_get}
use Rattle.pe_shapes.specs.Counts.{StandOnce}
use Rattle.pe_shapes.proofs.Members.{Contains-head, Contains-tail, Contains-split, Contains-none, StandOnce-distinct}

pub ordered-insert : {X : Type 0} (R : X → X → Type 0) (xs : List X) (n : ℕ) (y : X) → n ≤ length xs → AllPairs R xs →
    ((k : ℕ) (d : X) → k < n → R (get_or xs k d) y) → ((k : ℕ) (d : X) → n ≤ k → k < length xs → R y (get_or xs k d)) → AllPairs R (insert xs n y)
ordered-insert R xs n y le up low high i j d l m = elim (cases_lt j n) [
  | inl below ↦ subst (λ z. R z (get_or (insert xs n y) j d)) (sym (get_or-insert_below xs n y d i (omega (arith, l, below)) le))
      (subst (R (get_or xs i d)) (sym (get_or-insert_below xs n y d j below le)) (up i j d l (omega (arith, below, le))))
  | inr from ↦ elim (cases_lt n j) [
    | inr at ↦
        let e : n ≡ j = omega arith in
        subst (λ z. R z (get_or (insert xs n y) j d)) (sym (get_or-insert_below xs n y d i (omega (arith, l, e)) le))
        (subst (R (get_or xs i d)) (sym (get_or-insert_at xs n y d le) ∙ ap (λ k. get_or (insert xs n y) k d) e) (low i d (omega (arith, l, e))))
    | inl behind ↦ last (j - 1) (omega (arith, behind)) (omega (arith, behind)) (omega (arith, behind, l)) (omega (arith, m, length-insert xs n y le, behind))
  ]
]
  where
    last : (k : ℕ) → k + 1 ≡ j → n ≤ k → i ≤ k → k < length xs → R (get_or (insert xs n y) i d) (get_or (insert xs n y) j d)
    last k e from to within =
        let there : get_or xs k d ≡ get_or (insert xs n y) j d = sym (get_or-insert_above xs n y d k from le) ∙ ap (λ z. get_or (insert xs n y) z d) e in
        subst (R (get_or (insert xs n y) i d)) there (elim (cases_lt i n) [
          | inl low_i ↦ subst (λ z. R z (get_or xs k d)) (sym (get_or-insert_below xs n y d i low_i le)) (up i k d (omega (arith, low_i, from)) within)
          | inr high_i ↦ elim (cases_lt n i) [
            | inr at ↦ (let f : n ≡ i = omega arith in
                subst (λ z. R z (get_or xs k d)) (sym (get_or-insert_at xs n y d le) ∙ ap (λ z. get_or (insert xs n y) z d) f) (high k d from within))
            | inl above ↦ (let g : (i - 1) + 1 ≡ i = omega (arith, above) in
                subst (λ z. R z (get_or xs k d)) (sym (get_or-insert_above xs n y d (i - 1) (omega (arith, above)) le) ∙ ap (λ z. get_or (insert xs n y) z d) g)
                (up (i - 1) k d (omega (arith, above, l, e)) within))
          ]
        ])

-- ---- parts of lists in order

ordered-tail : {X : Type 0} (R : X → X → Type 0) (x : X) (xs : List X) → AllPairs R (x ∷ xs) → AllPairs R xs
ordered-tail R x xs up i j d l m = up (suc i) (suc j) d (omega (arith, l)) (omega (arith, m))

ordered-head : {X : Type 0} (R : X → X → Type 0) (x y : X) (xs : List X) → AllPairs R (x ∷ xs) → Contains xs y → R x y
ordered-head R x y xs up c = subst (R x) c.2 (up zero (suc c.0) y (omega arith) (omega (arith, c.1)))

-- lists in one order with the same members are the same
pub same-ordered : {X : Type 0} (R : X → X → Type 0) → ((x : X) → R x x → ⊥) → ((x y : X) → R x y → R y x → ⊥) → (xs ys : List X) → AllPairs R xs → AllPairs R ys →
    ((x : X) → Contains xs x → Contains ys x) → ((x : X) → Contains ys x → Contains xs x) → xs ≡ ys
same-ordered R never once [] [] up rise there back = refl
same-ordered R never once [] (y ∷ ys) up rise there back = absurd (Contains-none y (back y (Contains-head y ys)))
same-ordered R never once (x ∷ xs) [] up rise there back = absurd (Contains-none x (there x (Contains-head x xs)))
same-ordered R never once (x ∷ xs) (y ∷ ys) up rise there back =
    ap (λ z. z ∷ xs) head ∙ ap (λ zs. y ∷ zs) (same-ordered R never once xs ys (ordered-tail R x xs up) (ordered-tail R y ys rise)
    (λ z c. elim (Contains-split y z ys (there z (Contains-tail x z xs c))) [
      | inl e ↦ absurd (never z (subst (λ w. R w z) (head ∙ e) (ordered-head R x z xs up c)))
      | inr t ↦ t
    ])
    (λ z c. elim (Contains-split x z xs (back z (Contains-tail y z ys c))) [
      | inl e ↦ absurd (never z (subst (λ w. R w z) (sym head ∙ e) (ordered-head R y z ys rise c)))
      | inr t ↦ t
    ]))
  where
    head : x ≡ y
    head = elim (Contains-split y x ys (there x (Contains-head x xs))) [
      | inl e ↦ sym e
      | inr t ↦ elim (Contains-split x y xs (back y (Contains-head y ys))) [
        | inl e ↦ e
        | inr u ↦ absurd (once x y (ordered-head R x y xs up u) (ordered-head R y x ys rise t))
      ]
    ]

-- none stands twice in a list in order
pub StandOnce-ordered : {X : Type 0} (R : X → X → Type 0) → ((x : X) → R x x → ⊥) → (xs : List X) → AllPairs R xs → StandOnce xs
StandOnce-ordered R never xs up i j x a b = elim (cases_lt i j) [
  | inl l ↦ absurd (never x (clash i j l a b))
  | inr g ↦ elim (cases_lt j i) [ inl l ↦ absurd (never x (clash j i l b a)) | inr l ↦ omega arith ]
]
  where
    clash : (i j : ℕ) → i < j → slice_get xs i ≡ Some x → slice_get xs j ≡ Some x → R x x
    clash i j l a b = subst (λ z. R z x) (get_or_from_slice_get xs i x x a) (subst (R (get_or xs i x)) (get_or_from_slice_get xs j x x b) (up i j x l (slice_get_within xs j x b)))

-- none stands twice in another order of a list in which none does
pub StandOnce-moved : {X : Type 0} (eq : X → X → Bool) → ((x y : X) → eq x y ≡ eq y x) → ((x : X) → eq x x ≡ true) → ((x y : X) → eq x y ≡ true → x ≡ y) →
    (xs ys : List X) → IsPermutation xs ys → StandOnce xs → StandOnce ys
StandOnce-moved {X = X} eq flips itself same xs ys moved once =
    StandOnce-distinct eq itself ys (IsDistinct-IsPermutation eq flips xs ys moved (IsDistinct-from_apart eq xs apart))
  where
    apart : (i j : ℕ) (d : X) → i < j → j < length xs → eq (get_or xs i d) (get_or xs j d) ≡ false
    apart i j d l m = elim (cases_Bool (eq (get_or xs i d) (get_or xs j d))) [
      | inl t ↦
          let e = same (get_or xs i d) (get_or xs j d) t in
          let here : i ≡ j = once i j (get_or xs j d) (slice_get-get_or xs i d (omega (arith, l, m)) ∙ ap Some e) (slice_get-get_or xs j d m) in
          absurd (omega (arith, here, l))
      | inr f ↦ f
    ]
