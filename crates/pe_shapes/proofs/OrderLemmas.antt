-- The order of shapes is strict and total.
use Rattle.std.proofs.Common.{ℕ, ◌<◌, ◌≡◌, ◌&&◌, ◌||◌, eqb, ltb, Bool, true, false, ◌⊎◌, inl, inr, refl, ap, sym, ◌∙◌, arith}
use Rattle.std.proofs.lemmas.Bool.{ltb-true, ltb-false, lt-ltb, le-ltb, eqb-true, eq-eqb, or_cases, or_parts, or_left, or_right, and_parts, and_from, and_cases, eqb-false, or_from, and_right}
use Rattle.fy_derive.specs.Shapes.{EndShape, a_value, an_assignment, a_run, PlainShape, at_end, a_call, a_field}
use Rattle.pe_shapes.specs.Order.{end_rank, comes_before}

-- fields: by the number, then by what is behind

field-cases : (i j : ℕ) (b : Bool) → (ltb i j || (eqb i j && b)) ≡ true → (i < j) ⊎ (i ≡ j) × (b ≡ true)
field-cases i j b h = elim (or_cases (ltb i j) (eqb i j && b) h) [
  | inl l ↦ inl (ltb-true i j l)
  | inr r ↦ (let p = and_parts (eqb i j) b r in inr (eqb-true i j p.0, p.1))
]

field-less : (i j : ℕ) (b : Bool) → i < j → (ltb i j || (eqb i j && b)) ≡ true
field-less i j b l = or_left (ltb i j) (eqb i j && b) (lt-ltb i j l)

field-same : (i j : ℕ) (b : Bool) → i ≡ j → b ≡ true → (ltb i j || (eqb i j && b)) ≡ true
field-same i j b e h = or_right (ltb i j) (eqb i j && b) (and_from (eqb i j) b (eq-eqb i j e) h)

-- no shape comes before itself
pub before-itself : (s : PlainShape) → comes_before s s ≡ false
before-itself (at_end x) = le-ltb (end_rank x) (end_rank x) (omega arith)
before-itself (a_call s) = before-itself s
before-itself (a_field i s) = or_from (ltb i i) (eqb i i && comes_before s s) (le-ltb i i (omega arith)) (and_right (eqb i i) (comes_before s s) (before-itself s))

pub before-then : (s t u : PlainShape) → comes_before s t ≡ true → comes_before t u ≡ true → comes_before s u ≡ true
before-then (at_end x) (at_end y) (at_end z) a b =
    lt-ltb (end_rank x) (end_rank z) (omega (arith, ltb-true (end_rank x) (end_rank y) a, ltb-true (end_rank y) (end_rank z) b))
before-then (at_end x) t (a_call u) a b = refl
before-then (at_end x) t (a_field k u) a b = refl
before-then (at_end x) (a_call t) (at_end z) a b = absurd cc
before-then (at_end x) (a_field j t) (at_end z) a b = absurd cc
before-then (a_call s) (at_end y) u a b = absurd cc
before-then (a_call s) (a_call t) (at_end z) a b = absurd cc
before-then (a_call s) (a_call t) (a_call u) a b = before-then s t u a b
before-then (a_call s) t (a_field k u) a b = refl
before-then (a_call s) (a_field j t) (at_end z) a b = absurd cc
before-then (a_call s) (a_field j t) (a_call u) a b = absurd cc
before-then (a_field i s) (at_end y) u a b = absurd cc
before-then (a_field i s) (a_call t) u a b = absurd cc
before-then (a_field i s) (a_field j t) (at_end z) a b = absurd cc
before-then (a_field i s) (a_field j t) (a_call u) a b = absurd cc
before-then (a_field i s) (a_field j t) (a_field k u) a b = elim (field-cases i j (comes_before s t) a) [
  | inl l ↦ elim (field-cases j k (comes_before t u) b) [
    | inl m ↦ field-less i k (comes_before s u) (omega (arith, l, m))
    | inr f ↦ field-less i k (comes_before s u) (omega (arith, l, f.0))
  ]
  | inr e ↦ elim (field-cases j k (comes_before t u) b) [
    | inl m ↦ field-less i k (comes_before s u) (omega (arith, e.0, m))
    | inr f ↦ field-same i k (comes_before s u) (e.0 ∙ f.0) (before-then s t u e.1 f.1)
  ]
]

same-rank : (x y : EndShape) → end_rank x ≡ end_rank y → x ≡ y
same-rank a_value a_value e = refl
same-rank a_value an_assignment e = absurd (omega (arith, e))
same-rank a_value a_run e = absurd (omega (arith, e))
same-rank an_assignment a_value e = absurd (omega (arith, e))
same-rank an_assignment an_assignment e = refl
same-rank an_assignment a_run e = absurd (omega (arith, e))
same-rank a_run a_value e = absurd (omega (arith, e))
same-rank a_run an_assignment e = absurd (omega (arith, e))
same-rank a_run a_run e = refl

-- of two shapes one comes before the other, or they are the same
pub one-before : (s t : PlainShape) → comes_before s t ≡ false → comes_before t s ≡ false → s ≡ t
one-before (at_end x) (at_end y) a b =
    ap at_end (same-rank x y (omega (arith, ltb-false (end_rank x) (end_rank y) a, ltb-false (end_rank y) (end_rank x) b)))
one-before (at_end x) (a_call t) a b = absurd cc
one-before (at_end x) (a_field j t) a b = absurd cc
one-before (a_call s) (at_end y) a b = absurd cc
one-before (a_call s) (a_call t) a b = ap a_call (one-before s t a b)
one-before (a_call s) (a_field j t) a b = absurd cc
one-before (a_field i s) (at_end y) a b = absurd cc
one-before (a_field i s) (a_call t) a b = absurd cc
one-before (a_field i s) (a_field j t) a b =
    let p = or_parts (ltb i j) (eqb i j && comes_before s t) a in
    let q = or_parts (ltb j i) (eqb j i && comes_before t s) b in
    let e : i ≡ j = omega (arith, ltb-false i j p.0, ltb-false j i q.0) in
    ap (λ k. a_field k s) e ∙ ap (a_field j) (one-before s t (behind-false i j (comes_before s t) e p.1) (behind-false j i (comes_before t s) (sym e) q.1))
  where
    behind-false : (i j : ℕ) (b : Bool) → i ≡ j → (eqb i j && b) ≡ false → b ≡ false
    behind-false i j b e h = elim (and_cases (eqb i j) b h) [ inl f ↦ absurd (eqb-false i j f e) | inr f ↦ f ]
