-- The order of entries, and where one more goes.
use Rattle.std.proofs.Common.{◌≡◌, ℕ, zero, suc, ◌-◌, ◌<◌, ◌≤◌, Bool, true, false, not, ◌&&◌, ◌||◌, if◌then◌else◌, eqb, ltb, List, [], ◌∷◌, length, get_or, Some, refl, sym, ap, subst, ◌∙◌, arith, inl, inr}
use Rattle.std.specs.List.{All, AllWithin, insert, slice_get}
use Rattle.std.specs.List.Sorted.{IsPartitionedBy}
use Rattle.std.proofs.lemmas.Bool.{ltb-true, ltb-false, eqb-true, eqb-false, le-ltb, or_parts, or_cases, and_parts, and_cases, or_from, and_left, and_right, ne_eqb, cases_lt, cases_Bool, cond-true, cond-false, not-true, not_from_false}
use Rattle.std.proofs.lemmas.Option.{get_or_from_slice_get}
use Rattle.std.proofs.lemmas.List.Elements.{All-nil, All-cons, All-head, All-tail, All-weaker}
use Rattle.std.proofs.lemmas.List.Kept.{AllPairs-cons}
use Rattle.pe_code.specs.declared.code.Entry.{Entry}
use Rattle.pe_code.specs.Entries.{is_before, AreInOrder, with_entry}

-- (a, s) is before (b, t)
abbrev below : ℕ → ℕ → ℕ → ℕ → Bool
below a s b t = ltb a b || (eqb a b && ltb s t)

-- before one that is no greater: at the same node
below-tells : (a s b t : ℕ) → below a s b t ≡ true → (b ≤ a) → (a ≡ b) × (s < t)
below-tells a s b t h le = elim (or_cases _ _ h) [
  | inl p ↦ let l : a < b = ltb-true a b p in absurd (omega arith)
  | inr q ↦ (eqb-true a b (and_parts _ _ q).0, ltb-true s t (and_parts _ _ q).1)
]

-- not before: the other is at most as great
not_below-tells : (a s b t : ℕ) → below a s b t ≡ false → (b ≤ a) × (a ≡ b → t ≤ s)
not_below-tells a s b t h =
    let p = or_parts _ _ h in (
      ltb-false a b p.0,
      λ e. elim (and_cases _ _ p.1) [
        | inl q ↦ absurd (eqb-false a b q e)
        | inr r ↦ ltb-false s t r
      ],
    )

-- and back
not_below : (a s b t : ℕ) → b ≤ a → (a ≡ b → t ≤ s) → below a s b t ≡ false
not_below a s b t le rest =
    or_from _ _ (le-ltb a b le) (elim (cases_lt b a) [
      | inl lt ↦ and_left _ _ (ne_eqb a b (λ e. omega (arith, e)))
      | inr ge ↦ and_right _ _ (le-ltb s t (rest (omega arith)))
    ])

-- of three in order the first is not after the last
pub not_below-trans : (a s b t c u : ℕ) → below b t a s ≡ false → below c u b t ≡ false → below c u a s ≡ false
not_below-trans a s b t c u h k =
    let p = not_below-tells b t a s h in
    let q = not_below-tells c u b t k in
    not_below c u a s (omega (arith, p.0, q.0)) (λ e. omega (arith, p.0, q.0, p.1 (omega (arith, p.0, q.0, e)), q.1 (omega (arith, p.0, q.0, e))))

-- what is before another is not after it
pub below-asym : (a s b t : ℕ) → below a s b t ≡ true → below b t a s ≡ false
below-asym a s b t h = elim (cases_lt a b) [
  | inl lt ↦ not_below b t a s (omega arith) (λ e. absurd (omega (arith, e)))
  | inr ge ↦ let p = below-tells a s b t h ge in not_below b t a s (omega (arith, p.0)) (λ e. omega (arith, p.1))
]

-- what is at most as great as a place that is before a third is before the third too
pub below-from : (a s b t c u : ℕ) → below b t a s ≡ false → below b t c u ≡ true → below a s c u ≡ true
below-from a s b t c u h k = elim (cases_Bool (below a s c u)) [
  | inl e ↦ e
  | inr e ↦ let f : below b t c u ≡ false = not_below-trans c u a s b t e h in absurd (cc)
]

-- e is not before d
abbrev NotBefore : Entry → Entry → Type 0
NotBefore d e = is_before d.node d.shape e ≡ false

-- no later entry is before the first, and the later ones are in order
pub order-head : (d : Entry) (es : List Entry) → AreInOrder (d ∷ es) → All (λ e. is_before d.node d.shape e ≡ false) es
order-head d es h = λ k e lt. h 0 (suc k) e (omega arith) (omega arith)

pub order-tail : (d : Entry) (es : List Entry) → AreInOrder (d ∷ es) → AreInOrder es
order-tail d es h = λ i j e lt within. h (suc i) (suc j) e (omega arith) (omega arith)

-- entries that are before a place stand in front
pub partitioned-before : (node shape : ℕ) (es : List Entry) → AreInOrder es → IsPartitionedBy (is_before node shape) es
partitioned-before node shape es o i j d le within h = elim (cases_lt i j) [
  | inl lt ↦ below-from (get_or es i d).node (get_or es i d).shape (get_or es j d).node (get_or es j d).shape node shape (o i j d lt within) h
  | inr ge ↦ let e : j ≡ i = omega arith in subst (λ n. is_before node shape (get_or es n d) ≡ true) e h
]

-- and so do those that an entry is not before
pub partitioned-after : (item : Entry) (es : List Entry) → AreInOrder es → IsPartitionedBy (λ e. not (is_before e.node e.shape item)) es
partitioned-after item es o i j d le within h = elim (cases_lt i j) [
  | inl lt ↦ not_from_false _ (not_below-trans (get_or es i d).node (get_or es i d).shape (get_or es j d).node (get_or es j d).shape item.node item.shape (o i j d lt within) (not-true _ h))
  | inr ge ↦ let e : j ≡ i = omega arith in subst (λ n. not (is_before (get_or es n d).node (get_or es n d).shape item) ≡ true) e h
]

-- what is not before the last entry is before none
pub after-all : (item : Entry) (es : List Entry) (last : Entry) → AreInOrder es → slice_get es (length es - 1) ≡ Some last → is_before last.node last.shape item ≡ false
    → AllWithin (λ e. is_before e.node e.shape item ≡ false) es 0 (length es)
after-all item es last o is after k d low lt =
    let last-is : get_or es (length es - 1) d ≡ last = get_or_from_slice_get es (length es - 1) last d is in
    let more : is_before (get_or es (length es - 1) d).node (get_or es (length es - 1) d).shape item ≡ false = subst (λ (e : Entry). is_before e.node e.shape item ≡ false) (sym last-is) after in
    elim (cases_lt k (length es - 1)) [
      | inl before ↦ not_below-trans (get_or es k d).node (get_or es k d).shape (get_or es (length es - 1) d).node (get_or es (length es - 1) d).shape item.node item.shape (o k (length es - 1) d before (omega arith)) more
      | inr ge ↦ let e : length es - 1 ≡ k = omega arith in subst (λ n. is_before (get_or es n d).node (get_or es n d).shape item ≡ false) e more
    ]

-- where an entry goes
pub with_entry-insert : (item : Entry) (es : List Entry) (i : ℕ) → i ≤ length es
    → AllWithin (λ e. is_before e.node e.shape item ≡ false) es 0 i → AllWithin (λ e. is_before e.node e.shape item ≡ true) es i (length es)
    → with_entry item es ≡ insert es i item
with_entry-insert item [] zero within low high = refl
with_entry-insert item [] (suc i) within low high = absurd (omega arith)
with_entry-insert item (d ∷ ds) zero within low high = cond-true _ _ _ (high 0 d (omega arith) (omega arith))
with_entry-insert item (d ∷ ds) (suc i) within low high =
    cond-false _ _ _ (low 0 d (omega arith) (omega arith))
    ∙ ap (λ l. d ∷ l) (with_entry-insert item ds i (omega arith)
    (λ k e lo lt. low (suc k) e (omega arith) (omega arith))
    (λ k e lo lt. high (suc k) e (omega arith) (omega arith)))

-- what holds of the entry and of the others
All-with_entry : (P : Entry → Type 0) (item : Entry) (es : List Entry) → P item → All P es → All P (with_entry item es)
All-with_entry P item [] p h = All-cons P item [] p (All-nil P)
All-with_entry P item (d ∷ ds) p h = by (is_before d.node d.shape item) (All-with_entry P item ds p (All-tail P d ds h))
  where
    by : (b : Bool) → All P (with_entry item ds) → All P (if b then item ∷ d ∷ ds else d ∷ with_entry item ds)
    by true rest = All-cons P item (d ∷ ds) p h
    by false rest = All-cons P d (with_entry item ds) (All-head P d ds h) rest

-- entries in order stay so
pub order-with_entry : (item : Entry) (es : List Entry) → AreInOrder es → AreInOrder (with_entry item es)
order-with_entry item [] o = AllPairs-cons NotBefore item [] (All-nil (NotBefore item)) o
order-with_entry item (d ∷ ds) o = by (is_before d.node d.shape item) refl (order-with_entry item ds (order-tail d ds o))
  where
    by : (b : Bool) → is_before d.node d.shape item ≡ b → AreInOrder (with_entry item ds) → AreInOrder (if b then item ∷ d ∷ ds else d ∷ with_entry item ds)
    by true e further =
        let first : NotBefore item d = below-asym item.node item.shape d.node d.shape e in
        let rest : All (NotBefore item) ds = All-weaker (NotBefore d) (NotBefore item) (λ (x : Entry) (h : NotBefore d x). not_below-trans item.node item.shape d.node d.shape x.node x.shape first h) ds (order-head d ds o) in
        AllPairs-cons NotBefore item (d ∷ ds) (All-cons (NotBefore item) d ds first rest) o
    by false e further = AllPairs-cons NotBefore d (with_entry item ds) (All-with_entry (NotBefore d) item ds e (order-head d ds o)) further
