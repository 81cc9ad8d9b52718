-- Pairs in order of node and shape.
use Rattle.std.proofs.Common.{ℕ, ◌+◌, ◌-◌, ◌<◌, ◌≡◌, false, inl, inr, List, length, get_or, Some, refl, ap, sym, ◌∙◌, subst, arith}
use Rattle.std.specs.List.Sorted.{IsSortedByKey, IsNonDecreasingBy}
use Rattle.std.specs.Ordering.{is_lt, nat_cmp, ordering_then}
use Rattle.std.specs.declared.cmp.Ordering.{Ordering}
use Rattle.std.specs.declared.cmp.Ordering.TheVariants.{Less, Equal, Greater}
use Rattle.std.proofs.lemmas.List.Sorted.{IsNonDecreasingBy-from_sort}
use Rattle.std.proofs.lemmas.Bool.{cases_lt}
use Rattle.std.proofs.lemmas.Option.{get_or_from_slice_get}
use Rattle.fy_phrase.specs.declared.shapes.Pair.{Pair}
use Rattle.pe_gen.specs.Sites.{IsBefore, AreNotBefore, ArePairsInOrder}
use Rattle.pe_gen.proofs.EntryLists.{pair_same}
use Rattle.pe_gen.proofs.Gets.{get-within}
use Rattle.pe_gen.proofs.KeyLists.{AreKeysOnce}
use Rattle.pe_shapes.proofs.PairOrder.{IsAtMost, at-most, far}

first-order : (o u : Ordering) → is_lt (ordering_then o u) ≡ false → is_lt o ≡ false
first-order Less u h = h
first-order Equal u h = refl
first-order Greater u h = refl

-- their nodes don't fall
pub rising-nodes : (xs : List Pair) → IsSortedByKey {K = ℕ × ℕ} (λ (x : Pair). (x.node, x.shape)) (λ a b. ordering_then (nat_cmp a.0 b.0) (nat_cmp a.1 b.1)) xs →
    IsNonDecreasingBy (λ (x : Pair). x.node) xs
rising-nodes xs up = IsNonDecreasingBy-from_sort (λ (x : Pair). x.node) xs (λ k d low high. first-order _ _ (up k d low high))

-- ---- in order of both

-- sorted pairs are in order
pub sorted-pairs : (xs : List Pair) → IsSortedByKey {K = ℕ × ℕ} (λ (x : Pair). (x.node, x.shape)) (λ a b. ordering_then (nat_cmp a.0 b.0) (nat_cmp a.1 b.1)) xs →
    AreNotBefore xs
sorted-pairs xs up i j x y l a b =
    let next = λ (k : ℕ) (d : Pair) (h : k + 1 < length xs). at-most (get_or xs k d) (get_or xs (k + 1) d) (up k d (omega arith) h) in
    let e : i + (j - i - 1) + 1 ≡ j = omega arith in
    let within = get-within xs j y b in
    let all = subst (λ n. IsAtMost (get_or xs i x) (get_or xs n x)) e (far xs next i (j - i - 1) x (omega (arith, within, l))) in
    subst (λ z. IsAtMost x z) (get_or_from_slice_get xs j y x b) (subst (λ z. IsAtMost z (get_or xs j x)) (get_or_from_slice_get xs i x x a) all)

-- and strictly so where each stands once
pub pairs-in-order : (xs : List Pair) → AreNotBefore xs → AreKeysOnce xs → ArePairsInOrder xs
pairs-in-order xs up once i j x y l a b = by (up i j x y l a b)
  where
    by : IsAtMost x y → IsBefore x y
    by (inl m) = inl m
    by (inr e) = elim (cases_lt x.shape y.shape) [
      | inl m ↦ inr (e.0, m)
      | inr g ↦
          let same : x.shape ≡ y.shape = omega (arith, e.1, g) in
          let here : i ≡ j = once i j x a (b ∙ ap Some (sym (pair_same x y e.0 same))) in
          absurd (omega (arith, here, l))
    ]
