-- Pairs that are sorted by node and then by shape.
use Rattle.std.proofs.Common.{ℕ, zero, suc, ◌+◌, ◌-◌, ◌<◌, ◌≤◌, ◌≡◌, Bool, true, false, cond, eqb, ltb, eqb-true, ltb-false, ◌⊎◌, inl, inr, List, length, get_or, refl, sym, ◌∙◌, subst, arith}
use Rattle.std.specs.List.Sorted.{IsSortedByKey}
use Rattle.std.specs.Ordering.{is_lt, nat_cmp, ordering_then}
use Rattle.std.specs.declared.cmp.Ordering.TheVariants.{Less, Equal, Greater}
use Rattle.std.proofs.lemmas.Bool.{cases_lt, eq-eqb}
use Rattle.fy_phrase.specs.declared.shapes.Pair.{Pair}
use Rattle.pe_shapes.specs.Placing.{AreNotBefore}

abbrev pub IsAtMost : Pair → Pair → Type 0
IsAtMost x y = (x.node < y.node) ⊎ (x.node ≡ y.node) × (x.shape ≤ y.shape)

pub at-most : (a b : Pair) → is_lt (ordering_then (nat_cmp b.node a.node) (nat_cmp b.shape a.shape)) ≡ false → IsAtMost a b
at-most a b h = by (ltb b.node a.node) (eqb b.node a.node) (ltb b.shape a.shape) refl refl refl h
  where
    by : (l e s : Bool) → ltb b.node a.node ≡ l → eqb b.node a.node ≡ e → ltb b.shape a.shape ≡ s →
        is_lt (ordering_then (cond l Less (cond e Equal Greater)) (cond s Less (cond (eqb b.shape a.shape) Equal Greater))) ≡ false → IsAtMost a b
    by true e s p q r f = absurd cc
    by false true true p q r f = absurd cc
    by false true false p q r f = inr (sym (eqb-true b.node a.node q), ltb-false b.shape a.shape r)
    by false false s p q r f = elim (cases_lt a.node b.node) [
      | inl l ↦ inl l
      | inr g ↦
          let low = ltb-false b.node a.node p in
          let same : b.node ≡ a.node = omega arith in
          let found = eq-eqb b.node a.node same in
          absurd cc
    ]

pub at-most-then : (a b c : Pair) → IsAtMost a b → IsAtMost b c → IsAtMost a c
at-most-then a b c (inl l) (inl m) = inl (omega (arith, l, m))
at-most-then a b c (inl l) (inr e) = inl (omega (arith, l, e.0))
at-most-then a b c (inr e) (inl m) = inl (omega (arith, m, e.0))
at-most-then a b c (inr e) (inr f) = inr (e.0 ∙ f.0, omega (arith, e.1, f.1))

-- what is so of neighbours is so of all
pub far : (xs : List Pair) → ((k : ℕ) (d : Pair) → k + 1 < length xs → IsAtMost (get_or xs k d) (get_or xs (k + 1) d)) →
    (i m : ℕ) (d : Pair) → i + m + 1 < length xs → IsAtMost (get_or xs i d) (get_or xs (i + m + 1) d)
far xs next i zero d h = let e : i + 1 ≡ i + zero + 1 = omega arith in subst (λ n. IsAtMost (get_or xs i d) (get_or xs n d)) e (next i d (omega arith))
far xs next i (suc m) d h =
    let e : i + m + 1 + 1 ≡ i + suc m + 1 = omega arith in
    subst (λ n. IsAtMost (get_or xs i d) (get_or xs n d)) e
    (at-most-then (get_or xs i d) (get_or xs (i + m + 1) d) (get_or xs (i + m + 1 + 1) d) (far xs next i m d (omega arith)) (next (i + m + 1) d (omega arith)))

-- sorted pairs are in order
pub sorted-pairs : (xs : List Pair) → IsSortedByKey {K = ℕ × ℕ} (λ (x : Pair). (x.node, x.shape)) (λ a b. ordering_then (nat_cmp a.0 b.0) (nat_cmp a.1 b.1)) xs → AreNotBefore xs
sorted-pairs xs up = record {
  each = λ i j d l m.
      let next = λ (k : ℕ) (d : Pair) (h : k + 1 < length xs). at-most (get_or xs k d) (get_or xs (k + 1) d) (up k d (omega arith) h) in
      let e : i + (j - i - 1) + 1 ≡ j = omega arith in
      subst (λ n. IsAtMost (get_or xs i d) (get_or xs n d)) e (far xs next i (j - i - 1) d (omega (arith, m, l)));
}
