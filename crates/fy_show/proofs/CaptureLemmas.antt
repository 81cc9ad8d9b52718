-- Where fewer names are used than are tried, one that is made fresh is free.
use Rattle.std.proofs.Common.{◌≡◌, ◌<◌, ◌≤◌, ℕ, zero, suc, ◌^◌, Bool, true, false, ◌||◌, if◌then◌else◌, ◌⊎◌, inl, inr, List, [], ◌∷◌, ◌++◌, length, codes, refl, sym, ap, ◌∙◌, arith}
use Rattle.std.specs.Fmt.{decimal}
use Rattle.std.specs.List.{list_any}
use Rattle.std.specs.Str.{bytes_eq}
use Rattle.std.proofs.lemmas.Bool.{false≢true, ne_eqb, cases_Bool, cases_lt, cases_eq, or_cases}
use Rattle.std.proofs.lemmas.Fmt.{decimal_injective}
use Rattle.std.proofs.lemmas.List.{length-append}
use Rattle.std.proofs.lemmas.Slice.Eq.{bytes_eq-Decides}
use Rattle.fy_base.specs.Outside.{Bytes}
use Rattle.fy_show.specs.Fresh.{like, fresh, most_names}
use Rattle.fy_show.proofs.FreshLemmas.{fresh-free}

-- the first that is equal goes
without : Bytes → List Bytes → List Bytes
without t [] = []
without t (x ∷ xs) = if bytes_eq t x then xs else x ∷ without t xs

length-front : (b c : Bool) (x : Bytes) (xs rest : List Bytes) → (b || c) ≡ true → (c ≡ true → length xs ≡ suc (length rest)) →
    suc (length xs) ≡ suc (length (if b then xs else x ∷ rest))
length-front true c x xs rest h more = refl
length-front false c x xs rest h more = ap (λ n. suc n) (more h)

length-without : (t : Bytes) (xs : List Bytes) → list_any (bytes_eq t) xs ≡ true → length xs ≡ suc (length (without t xs))
unfolding without
length-without t [] h = absurd (false≢true h)
length-without t (x ∷ xs) h = length-front (bytes_eq t x) (list_any (bytes_eq t) xs) x xs (without t xs) h (length-without t xs)

differs : (a b : Bytes) → (a ≡ b → ⊥) → bytes_eq a b ≡ false
differs a b h = elim (cases_Bool (bytes_eq a b)) [ inl e ↦ absurd (h ((bytes_eq-Decides a b).0 e)) | inr e ↦ e ]

or-true : (b : Bool) → (b || true) ≡ true
or-true true = refl
or-true false = refl

kept-front : (t u x : Bytes) (xs rest : List Bytes) (b : Bool) → bytes_eq t x ≡ b → bytes_eq u t ≡ false → (bytes_eq u x || list_any (bytes_eq u) xs) ≡ true →
    (list_any (bytes_eq u) xs ≡ true → list_any (bytes_eq u) rest ≡ true) → list_any (bytes_eq u) (if b then xs else x ∷ rest) ≡ true
kept-front t u x xs rest true e other h more =
    let same : bytes_eq u x ≡ false = ap (λ y. bytes_eq u y) (sym ((bytes_eq-Decides t x).0 e)) ∙ other in
    sym (ap (λ (b : Bool). b || list_any (bytes_eq u) xs) same) ∙ h
kept-front t u x xs rest false e other h more =
    elim (or_cases (bytes_eq u x) (list_any (bytes_eq u) xs) h) [
      | inl g ↦ ap (λ (b : Bool). b || list_any (bytes_eq u) rest) g
      | inr g ↦ ap (λ (b : Bool). bytes_eq u x || b) (more g) ∙ or-true (bytes_eq u x)
    ]

kept-without : (t u : Bytes) (xs : List Bytes) → bytes_eq u t ≡ false → list_any (bytes_eq u) xs ≡ true → list_any (bytes_eq u) (without t xs) ≡ true
unfolding without
kept-without t u [] other h = h
kept-without t u (x ∷ xs) other h = kept-front t u x xs (without t xs) (bytes_eq t x) refl other h (kept-without t u xs other)

-- n different names among some are at most as many as those
pigeons : (f : ℕ → Bytes) (m : ℕ) → ((i j : ℕ) → i < j → j < m → bytes_eq (f i) (f j) ≡ false) → (n : ℕ) (xs : List Bytes) → n ≤ m →
    ((i : ℕ) → i < n → list_any (bytes_eq (f i)) xs ≡ true) → n ≤ length xs
pigeons f m apart zero xs within h = omega arith
pigeons f m apart (suc n) xs within h =
    let e = length-without (f n) xs (h n (omega arith)) in
    let r = pigeons f m apart n (without (f n) xs) (omega arith) (λ i lt. kept-without (f n) (f i) xs (apart i n lt (omega arith)) (h i (omega arith))) in
    omega (arith, e, r)

-- the first n all pass, or one doesn't
first_out : (p : ℕ → Bool) (n : ℕ) → ((i : ℕ) × (i < n) × (p i ≡ false)) ⊎ ((i : ℕ) → i < n → p i ≡ true)
first_out p zero = inr (λ i h. absurd (omega arith))
first_out p (suc n) =
    elim (first_out p n) [
      | inl w ↦ let lt = w.1 in inl (w.0, omega arith, w.2)
      | inr passed ↦
          elim (cases_Bool (p n)) [
            | inl e ↦ inr (λ i h. elim (cases_lt i n) [ inl lt ↦ passed i lt | inr ge ↦ let same : i ≡ n = omega arith in ap p same ∙ e ])
            | inr e ↦ inl (n, omega arith, e)
          ]
    ]

some_out : (f : ℕ → Bytes) (m : ℕ) → ((i j : ℕ) → i < j → j < m → bytes_eq (f i) (f j) ≡ false) → (xs : List Bytes) → length xs < m →
    (i : ℕ) × (i ≤ length xs) × (list_any (bytes_eq (f i)) xs ≡ false)
some_out f m apart xs few =
    elim (first_out (λ i. list_any (bytes_eq (f i)) xs) (suc (length xs))) [
      | inl w ↦ let lt = w.1 in (w.0, omega arith, w.2)
      | inr passed ↦ let r = pigeons f m apart (suc (length xs)) xs (omega arith) passed in absurd (omega arith)
    ]

same_behind : (x a b : Bytes) → x ++ a ≡ x ++ b → a ≡ b
same_behind [] a b e = e
same_behind (c ∷ x) a b e = let f : x ++ a ≡ x ++ b = cc in same_behind x a b f

like-numbered : (x : Bytes) (i : ℕ) → (i ≡ 0 → ⊥) → like x i ≡ (x ++ codes "_") ++ decimal i
like-numbered x i h = ap (λ b. if b then x else (x ++ codes "_") ++ decimal i) (ne_eqb i 0 h)

like-first : (x : Bytes) (i : ℕ) → i ≡ 0 → like x i ≡ x
like-first x i h = ap (λ n. like x n) h

like-apart : (x : Bytes) (i j : ℕ) → i < j → j < 2 ^ 64 → like x i ≡ like x j → ⊥
like-apart x i j lt small e =
    let later : like x j ≡ (x ++ codes "_") ++ decimal j = like-numbered x j (λ z. omega arith) in
    elim (cases_eq i 0) [
      | inl z ↦
          let g : x ≡ (x ++ codes "_") ++ decimal j = sym (like-first x i z) ∙ (e ∙ later) in
          omega (arith, ap length g, length-append (x ++ codes "_") (decimal j), length-append x (codes "_"))
      | inr z ↦
          let d : decimal i ≡ decimal j = same_behind (x ++ codes "_") (decimal i) (decimal j) (sym (like-numbered x i z) ∙ (e ∙ later)) in
          let same = decimal_injective i j (omega arith) small d in omega arith
    ]

unfolding_most : most_names ≡ 4294967295
unfolding most_names
unfolding_most = refl

-- a name that is made fresh isn't among those that are used, where they are not more than those that are tried
pub fresh-few : (used : Bytes → Bool) (x : Bytes) (xs : List Bytes) → length xs ≤ most_names → ((t : Bytes) → used t ≡ list_any (bytes_eq t) xs) → used (fresh used x) ≡ false
fresh-few used x xs few are =
    let most = unfolding_most in
    let w = some_out (like x) (2 ^ 64) (λ i j lt small. differs (like x i) (like x j) (like-apart x i j lt small)) xs (omega arith) in
    let within = w.1 in
    fresh-free used x w.0 (omega arith) (are (like x w.0) ∙ w.2)
