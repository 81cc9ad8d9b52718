-- Which entries a search in order finds.
use Rattle.std.proofs.Common.{◌≡◌, ℕ, zero, suc, ◌+◌, ◌-◌, ◌<◌, ◌≤◌, Bool, true, false, ◌&&◌, ◌||◌, eqb, ltb, leb, List, [], ◌∷◌, length, take, drop, get_or, filter, Some, None, refl, sym, ap, subst, ◌∙◌, arith, inl, inr}
use Rattle.std.specs.List.{All, AllWithin}
use Rattle.std.specs.List.Sorted.{IsNonDecreasingBy, IsPartitionPoint}
use Rattle.std.proofs.lemmas.Bool.{ltb-true, ltb-false, leb-true, leb-false, eqb-true, eqb-false, eq-eqb, ne_eqb, or_parts, or_cases, and_parts, and_cases, and_from, and_left, and_right, cases_lt, cond-true, cond-false}
use Rattle.std.proofs.lemmas.List.Elements.{All-head, All-tail}
use Rattle.std.proofs.lemmas.List.Recursion.{found_at, found_nowhere}
use Rattle.pe_code.specs.declared.code.Entry.{Entry}
use Rattle.pe_code.specs.Entries.{is_before, AreInOrder}
use Rattle.pe_code.specs.Code.{address_in}

-- nodes do not fall
pub node-order : (es : List Entry) → AreInOrder es → IsNonDecreasingBy (λ e. e.node) es
node-order es o i j d le within = elim (cases_lt i j) [
  | inl lt ↦ ltb-false (get_or es j d).node (get_or es i d).node (or_parts _ _ (o i j d lt within)).0
  | inr ge ↦ let e : i ≡ j = omega arith in let f : (get_or es i d).node ≡ (get_or es j d).node = ap (λ n. (get_or es n d).node) e in omega arith
]

-- where none passes
filter_none : (p : Entry → Bool) (es : List Entry) → All (λ e. p e ≡ false) es → filter p es ≡ []
filter_none p [] h = refl
filter_none p (e ∷ es) h = cond-false _ _ _ (All-head (λ x. p x ≡ false) e es h) ∙ filter_none p es (All-tail (λ x. p x ≡ false) e es h)

-- entries that pass a test and stand together
filter-between : (p : Entry → Bool) (es : List Entry) (i n : ℕ) → AllWithin (λ e. p e ≡ false) es 0 i → AllWithin (λ e. p e ≡ true) es i (i + n) → AllWithin (λ e. p e ≡ false) es (i + n) (length es)
    → i + n ≤ length es → take n (drop i es) ≡ filter p es
filter-between p [] zero zero before here behind within = refl
filter-between p [] zero (suc n) before here behind within = refl
filter-between p [] (suc i) zero before here behind within = refl
filter-between p [] (suc i) (suc n) before here behind within = refl
filter-between p (e ∷ es) zero zero before here behind within = sym (filter_none p (e ∷ es) (λ k d lt. behind k d (omega arith) lt))
filter-between p (e ∷ es) zero (suc n) before here behind within =
    ap (λ l. e ∷ l) (filter-between p es zero n
    (λ k d lo lt. absurd (omega arith))
    (λ k d lo lt. here (suc k) d (omega arith) (omega arith))
    (λ k d lo lt. behind (suc k) d (omega arith) (omega arith)) (omega arith))
    ∙ sym (cond-true _ _ _ (here 0 e (omega arith) (omega arith)))
filter-between p (e ∷ es) (suc i) n before here behind within =
    filter-between p es i n
    (λ k d lo lt. before (suc k) d (omega arith) (omega arith))
    (λ k d lo lt. here (suc k) d (omega arith) (omega arith))
    (λ k d lo lt. behind (suc k) d (omega arith) (omega arith)) (omega arith)
    ∙ sym (cond-false _ _ _ (before 0 e (omega arith) (omega arith)))

-- an entry, for a default
abbrev no_entry : Entry
no_entry = record { node = 0; shape = 0; address = 0 }

-- the entries of a node end behind their beginning
pub node-bounds : (es : List Entry) (node start end : ℕ) → start ≤ length es
    → IsPartitionPoint (λ e. ltb e.node node ≡ true) (λ e. ltb e.node node ≡ false) es start
    → IsPartitionPoint (λ e. leb e.node node ≡ true) (λ e. leb e.node node ≡ false) es end → start ≤ end
node-bounds es node start end within low high = elim (cases_lt end start) [
  | inl lt ↦
      let p : (get_or es end no_entry).node < node = ltb-true _ _ (low.0 end no_entry (omega arith) lt) in
      let q : node < (get_or es end no_entry).node = leb-false _ _ (high.1 end no_entry (omega arith) (omega arith)) in
      absurd (omega arith)
  | inr ge ↦ ge
]

-- and are what stands between
pub node-filter : (es : List Entry) (node start end : ℕ) → start ≤ end → end ≤ length es
    → IsPartitionPoint (λ e. ltb e.node node ≡ true) (λ e. ltb e.node node ≡ false) es start
    → IsPartitionPoint (λ e. leb e.node node ≡ true) (λ e. leb e.node node ≡ false) es end
    → take (end - start) (drop start es) ≡ filter (λ e. eqb e.node node) es
node-filter es node start end le within low high =
    filter-between (λ e. eqb e.node node) es start (end - start)
    (λ k d lo lt. let p : (get_or es k d).node < node = ltb-true _ _ (low.0 k d lo lt) in ne_eqb _ _ (λ e. omega (arith, e)))
    (λ k d lo lt.
    let p : node ≤ (get_or es k d).node = ltb-false _ _ (low.1 k d lo (omega arith)) in
    let q : (get_or es k d).node ≤ node = leb-true _ _ (high.0 k d (omega arith) (omega arith)) in
    eq-eqb _ _ (omega arith))
    (λ k d lo lt. let q : node < (get_or es k d).node = leb-false _ _ (high.1 k d (omega arith) lt) in ne_eqb _ _ (λ e. omega (arith, e)))
    (omega arith)

-- whether an entry is one for the node and the shape
abbrev is_for : ℕ → ℕ → Entry → Bool
is_for node shape e = eqb e.node node && eqb e.shape shape

-- what is before a place is not for it
before-other : (node shape : ℕ) (e : Entry) → is_before node shape e ≡ true → is_for node shape e ≡ false
before-other node shape e h = elim (or_cases (ltb e.node node) (eqb e.node node && ltb e.shape shape) h) [
  | inl p ↦ let l : e.node < node = ltb-true e.node node p in and_left (eqb e.node node) (eqb e.shape shape) (ne_eqb e.node node (λ s. omega (arith, s)))
  | inr q ↦ let l : e.shape < shape = ltb-true e.shape shape (and_parts (eqb e.node node) (ltb e.shape shape) q).1 in and_right (eqb e.node node) (eqb e.shape shape) (ne_eqb e.shape shape (λ s. omega (arith, s)))
]

-- a place that is neither before nor after another is the same
places-meet : (a t m k : ℕ) → (ltb a m || (eqb a m && ltb t k)) ≡ false → (ltb m a || (eqb m a && ltb k t)) ≡ false → (a ≡ m) × (t ≡ k)
places-meet a t m k low high =
    let l = or_parts (ltb a m) (eqb a m && ltb t k) low in
    let g = or_parts (ltb m a) (eqb m a && ltb k t) high in
    let ge : m ≤ a = ltb-false a m l.0 in
    let le : a ≤ m = ltb-false m a g.0 in
    let same : a ≡ m = omega arith in (
      same,
      elim (and_cases (eqb a m) (ltb t k) l.1) [
        | inl x ↦ absurd (eqb-false a m x same)
        | inr x ↦ elim (and_cases (eqb m a) (ltb k t) g.1) [
          | inl y ↦ absurd (eqb-false m a y (sym same))
          | inr y ↦ let tk : k ≤ t = ltb-false t k x in let kt : t ≤ k = ltb-false k t y in omega arith
        ]
      ],
    )

-- what comes behind an entry that is neither before a place nor for it is not for it either
behind-other : (node shape : ℕ) (d e : Entry) → is_before node shape d ≡ false → is_for node shape d ≡ false → is_before d.node d.shape e ≡ false → is_for node shape e ≡ false
behind-other node shape d e after other order = by (is_for node shape e) refl
  where
    by : (b : Bool) → is_for node shape e ≡ b → b ≡ false
    by false is = refl
    by true is =
        let p = and_parts (eqb e.node node) (eqb e.shape shape) is in
        let n : e.node ≡ node = eqb-true e.node node p.0 in
        let s : e.shape ≡ shape = eqb-true e.shape shape p.1 in
        let back : (ltb node d.node || (eqb node d.node && ltb shape d.shape)) ≡ false =
        subst (λ m. (ltb m d.node || (eqb m d.node && ltb shape d.shape)) ≡ false) n (subst (λ m. (ltb e.node d.node || (eqb e.node d.node && ltb m d.shape)) ≡ false) s order) in
        let met = places-meet d.node d.shape node shape after back in
        let yes : is_for node shape d ≡ true = and_from (eqb d.node node) (eqb d.shape shape) (eq-eqb d.node node met.0) (eq-eqb d.shape shape met.1) in
        absurd (cc)

-- the entry at the place is the first for it
pub address-found : (node shape : ℕ) (es : List Entry) (i : ℕ) (e : Entry) → i < length es → e ≡ get_or es i e
    → AllWithin (λ d. is_before node shape d ≡ true) es 0 i → e.node ≡ node → e.shape ≡ shape → address_in es node shape ≡ Some e.address
address-found node shape es i e within is low n s =
    found_at (λ l. address_in l node shape) (is_for node shape) (λ d. Some d.address) None refl (λ _ _. refl) es i e within
    (λ k lt. before-other node shape (get_or es k e) (low k e (omega arith) lt))
    (subst (λ d. is_for node shape d ≡ true) is (and_from _ _ (eq-eqb _ _ n) (eq-eqb _ _ s)))
    ∙ ap (λ (d : Entry). Some d.address) (sym is)

-- where it is another, there is none
pub address-other : (node shape : ℕ) (es : List Entry) (i : ℕ) (e : Entry) → AreInOrder es → i < length es → e ≡ get_or es i e
    → AllWithin (λ d. is_before node shape d ≡ true) es 0 i → AllWithin (λ d. is_before node shape d ≡ false) es i (length es) → is_for node shape e ≡ false
    → address_in es node shape ≡ None
address-other node shape es i e o within is low high other =
    found_nowhere (λ l. address_in l node shape) (is_for node shape) (λ d. Some d.address) None refl (λ _ _. refl) es e
    (λ k lt. elim (cases_lt k i) [
      | inl before ↦ before-other node shape (get_or es k e) (low k e (omega arith) before)
      | inr ge ↦ elim (cases_lt i k) [
        | inl behind ↦ behind-other node shape (get_or es i e) (get_or es k e) (high i e (omega arith) within) here (o i k e behind lt)
        | inr le ↦ let same : i ≡ k = omega arith in subst (λ n. is_for node shape (get_or es n e) ≡ false) same here
      ]
    ])
  where
    here : is_for node shape (get_or es i e) ≡ false
    here = subst (λ d. is_for node shape d ≡ false) is other

-- and where all are before the place
pub address-past : (node shape : ℕ) (es : List Entry) (i : ℕ) → length es ≤ i
    → AllWithin (λ d. is_before node shape d ≡ true) es 0 i → address_in es node shape ≡ None
address-past node shape es i past low =
    found_nowhere (λ l. address_in l node shape) (is_for node shape) (λ d. Some d.address) None refl (λ _ _. refl) es no_entry
    (λ k lt. before-other node shape (get_or es k no_entry) (low k no_entry (omega arith) (omega arith)))
