-- Tables of what was found, in order.
use Rattle.std.proofs.Common.{ℕ, ◌<◌, ◌≤◌, ◌≡◌, ◌⊎◌, inl, inr, ◌&&◌, eqb, Bool, true, List, length, get_or, map, Some, slice_get, refl, sym, ap, ◌∙◌, subst, arith}
use Rattle.std.specs.List.{AllPairs, All, Contains}
use Rattle.std.specs.List.Sorted.{IsPermutation}
use Rattle.std.proofs.lemmas.Bool.{cases_lt, cases_Bool, and_parts, and_from, eqb-true, eqb-false, eq-eqb, ne_eqb}
use Rattle.std.proofs.lemmas.List.{get_or_default, length-map}
use Rattle.std.proofs.lemmas.List.Elements.{All-contains, All-get_or}
use Rattle.std.proofs.lemmas.List.Sorted.{All-permutation, IsPermutation-sym, IsPermutation-map, Contains-permutation, length_permutation}
use Rattle.std.proofs.lemmas.Option.{slice_get-get_or, get_or_from_slice_get, slice_get-map}
use Rattle.fy_phrase.specs.declared.shapes.Pair.{Pair}
use Rattle.fy_phrase.specs.declared.shapes.ShapeTable.{ShapeTable}
use Rattle.fy_derive.specs.Shapes.{PlainShape}
use Rattle.fy_derive.specs.ShapeTables.{plain_shape, shape_at, HasPairOf}
use Rattle.pe_shapes.specs.declared.found.Found.{Found}
use Rattle.pe_shapes.specs.declared.numbers.ShapeNumbers.{ShapeNumbers}
use Rattle.pe_shapes.specs.Counts.{StandOnce}
use Rattle.pe_shapes.specs.Finding.{used_shapes, pair_of, IsRecorded, IsFound}
use Rattle.pe_shapes.specs.Order.{comes_before, IsPairBefore}
use Rattle.pe_shapes.specs.Placing.{AreNumbersInOrder, ArePlaces, AreNotBefore, placed, IsTableFound}
use Rattle.pe_shapes.specs.Shown.{shown, all_shown, total, AreIn}
use Rattle.pe_shapes.proofs.Members.{Contains-at, Contains-map, Contains-unmap, place_of, mapped, StandOnce-map}
use Rattle.pe_shapes.proofs.Sorting.{StandOnce-moved}

-- ---- pairs

pub pair_same : (x y : Pair) → x.node ≡ y.node → x.shape ≡ y.shape → x ≡ y
pair_same x y n s = ap (λ k. pair_of k x.shape) n ∙ ap (pair_of y.node) s

pub pair-never : (x : Pair) → IsPairBefore x x → ⊥
pair-never x (inl l) = omega (arith, l)
pair-never x (inr h) = omega (arith, h.1)

pub pair-once : (x y : Pair) → IsPairBefore x y → IsPairBefore y x → ⊥
pair-once x y (inl a) (inl b) = omega (arith, a, b)
pair-once x y (inl a) (inr b) = omega (arith, a, b.0)
pair-once x y (inr a) (inl b) = omega (arith, a.0, b)
pair-once x y (inr a) (inr b) = omega (arith, a.1, b.1)

abbrev same_pair : Pair → Pair → Bool
same_pair x y = eqb x.node y.node && eqb x.shape y.shape

eqb-flips : (a b : ℕ) → eqb a b ≡ eqb b a
eqb-flips a b = elim (cases_Bool (eqb a b)) [
  | inl t ↦ t ∙ sym (eq-eqb b a (sym (eqb-true a b t)))
  | inr f ↦ f ∙ sym (ne_eqb b a (λ e. eqb-false a b f (sym e)))
]

StandOnce-pairs : (xs ys : List Pair) → IsPermutation xs ys → StandOnce xs → StandOnce ys
StandOnce-pairs = StandOnce-moved same_pair
    (λ x y. ap (λ b. b && eqb x.shape y.shape) (eqb-flips x.node y.node) ∙ ap (λ b. eqb y.node x.node && b) (eqb-flips x.shape y.shape))
    (λ x. and_from (eqb x.node x.node) (eqb x.shape x.shape) (eq-eqb x.node x.node refl) (eq-eqb x.shape x.shape refl))
    (λ x y h. let p = and_parts (eqb x.node y.node) (eqb x.shape y.shape) h in pair_same x y (eqb-true x.node y.node p.0) (eqb-true x.shape y.shape p.1))

-- what isn't before an earlier one is behind it, where each stands once
pairs-rise : (xs : List Pair) → AreNotBefore xs → StandOnce xs → AllPairs IsPairBefore xs
pairs-rise xs up once i j d l m = by (up.each i j d l m)
  where
    x : Pair
    x = get_or xs i d

    y : Pair
    y = get_or xs j d

    by : (x.node < y.node) ⊎ (x.node ≡ y.node) × (x.shape ≤ y.shape) → IsPairBefore x y
    by (inl low) = inl low
    by (inr e) = elim (cases_lt x.shape y.shape) [
      | inl low ↦ inr (e.0, low)
      | inr high ↦
          let same : x ≡ y = pair_same x y e.0 (omega (arith, e.1, high)) in
          let here : i ≡ j = once i j y (slice_get-get_or xs i d (omega (arith, l, m)) ∙ ap Some same) (slice_get-get_or xs j d m) in
          absurd (omega (arith, here, l))
    ]

-- ---- the table

shown-at : (t : ShapeNumbers) (ks : List ℕ) (k : ℕ) → k < length ks → slice_get (all_shown t ks) k ≡ Some (shown t (get_or ks k 0))
shown-at t ks k l = mapped (shown t) ks k (get_or ks k 0) (slice_get-get_or ks k 0 l)

ordered-shown : (t : ShapeNumbers) (ks : List ℕ) → AreNumbersInOrder t ks → AllPairs (λ r s. comes_before r s ≡ true) (all_shown t ks)
ordered-shown t ks up i j d l m =
    let within : j < length ks = omega (arith, m, length-map ks (shown t)) in
    let first : get_or (all_shown t ks) i d ≡ shown t (get_or ks i 0) = get_or_from_slice_get (all_shown t ks) i (shown t (get_or ks i 0)) d (shown-at t ks i (omega (arith, l, within))) in
    let second : get_or (all_shown t ks) j d ≡ shown t (get_or ks j 0) = get_or_from_slice_get (all_shown t ks) j (shown t (get_or ks j 0)) d (shown-at t ks j within) in
    ap (λ s. comes_before s (get_or (all_shown t ks) j d)) first ∙ (ap (comes_before (shown t (get_or ks i 0))) second ∙ up.each i j 0 l within)

module _ (f : Found) (t : ShapeTable) (order places : List ℕ) (sound : IsFound f) (moved : IsPermutation f.used.keys order) (at : ArePlaces f.used.keys order places)
    (shapes : map plain_shape t.shapes ≡ all_shown f.numbers order) (pairs : IsPermutation (map (placed places) f.pairs.keys) t.pairs) where
  count : length t.shapes ≡ length f.used.keys
  count = omega (arith, length-map t.shapes plain_shape, ap length shapes, length-map order (shown f.numbers), length_permutation f.used.keys order moved)

  named : (x : Pair) → Contains f.pairs.keys x → x.shape < length f.used.keys
  named x c = All-contains (λ p. p.shape < length f.used.keys) f.pairs.keys x sound.pairs_in c

  place-within : (k : ℕ) → k < length f.used.keys → get_or places k 0 < length order
  place-within k l = All-get_or (λ m. m < length order) places k 0 (omega (arith, l, at.all)) at.within

  -- the shape at the new place is that at the old one
  shape-placed : (k : ℕ) → k < length f.used.keys → shape_at t (get_or places k 0) ≡ slice_get (used_shapes f) k
  shape-placed k l =
      sym (slice_get-map plain_shape t.shapes (get_or places k 0))
      ∙ (ap (λ S. slice_get S (get_or places k 0)) shapes
      ∙ (shown-at f.numbers order (get_or places k 0) (place-within k l)
      ∙ (ap (λ n. Some (shown f.numbers n)) (at.same k 0 l) ∙ sym (shown-at f.numbers f.used.keys k l))))

  -- each pair of the table is one that was found, placed
  unplaced : (y : Pair) → Contains t.pairs y → (x : Pair) × Contains f.pairs.keys x × (placed places x ≡ y)
  unplaced y c = Contains-unmap (placed places) f.pairs.keys y (Contains-permutation t.pairs (map (placed places) f.pairs.keys) y (IsPermutation-sym (map (placed places) f.pairs.keys) t.pairs pairs) c)

  pairs-within : (y : Pair) → Contains t.pairs y → y.shape < length t.shapes
  pairs-within y c =
      let x = unplaced y c in
      let e : get_or places x.0.shape 0 ≡ y.shape = ap (λ (z : Pair). z.shape) x.2 in
      omega (arith, e, place-within x.0.shape (named x.0 x.1), count, length_permutation f.used.keys order moved)

  there : (k : ℕ) (s : PlainShape) → HasPairOf t k s → IsRecorded f k s
  there k s h =
      let x = unplaced h.pair (Contains-at t.pairs h.place h.pair h.stands) in
      let node : x.0.node ≡ k = ap (λ (z : Pair). z.node) x.2 ∙ h.node_is in
      record {
        place = x.0.shape;
        shape = sym (shape-placed x.0.shape (named x.0 x.1)) ∙ (ap (λ (z : Pair). shape_at t z.shape) x.2 ∙ h.shape_is);
        pair = subst (λ n. Contains f.pairs.keys (pair_of n x.0.shape)) node x.1;
      }

  back : (k : ℕ) (s : PlainShape) → IsRecorded f k s → HasPairOf t k s
  back k s r =
      let x = pair_of k r.place in
      let c = Contains-permutation (map (placed places) f.pairs.keys) t.pairs (placed places x) pairs (Contains-map (placed places) f.pairs.keys x r.pair) in
      let stands = place_of t.pairs (placed places x) c in
      record {
        place = stands.0;
        pair = placed places x;
        stands = stands.1;
        node_is = refl;
        shape_is = shape-placed r.place (named x r.pair) ∙ r.shape;
      }

  -- different pairs have different places
  placed-once : (x y : Pair) → Contains f.pairs.keys x → Contains f.pairs.keys y → placed places x ≡ placed places y → x ≡ y
  placed-once x y a b e =
      let l = named x a in
      let m = named y b in
      let same : get_or f.used.keys x.shape 0 ≡ get_or f.used.keys y.shape 0 = sym (at.same x.shape 0 l) ∙ (ap (λ (z : Pair). get_or order z.shape 0) e ∙ at.same y.shape 0 m) in
      pair_same x y (ap (λ (z : Pair). z.node) e)
      (sound.used_once x.shape y.shape (get_or f.used.keys y.shape 0) (slice_get-get_or f.used.keys x.shape 0 l ∙ ap Some same) (slice_get-get_or f.used.keys y.shape 0 m))

  pub table-found : AreNumbersInOrder f.numbers order → AreNotBefore t.pairs → IsTableFound f t
  table-found up rising = record {
    shapes = λ s c.
        Contains-permutation (all_shown f.numbers order) (used_shapes f) s
        (IsPermutation-sym (used_shapes f) (all_shown f.numbers order) (IsPermutation-map (shown f.numbers) f.used.keys order moved)) (subst (λ S. Contains S s) shapes c);
    number = count;
    few = omega (arith, length_permutation (map (placed places) f.pairs.keys) t.pairs pairs, length-map f.pairs.keys (placed places));
    within = λ k d l. pairs-within (get_or t.pairs k d) (k, l, get_or_default t.pairs k (get_or t.pairs k d) d l);
    same = λ k s. (there k s, back k s);
    ordered = record {
      shapes = subst (AllPairs (λ r s. comes_before r s ≡ true)) (sym shapes) (ordered-shown f.numbers order up);
      pairs = pairs-rise t.pairs rising (StandOnce-pairs (map (placed places) f.pairs.keys) t.pairs pairs (StandOnce-map (placed places) f.pairs.keys placed-once sound.pairs_once));
    };
  }

-- the same of lists that are what was found
pub table-listed : (f : Found) (t : ShapeTable) (order places used one two qs : List ℕ) (ps : List Pair) → used ≡ f.used.keys → one ≡ order → two ≡ order → qs ≡ places → ps ≡ f.pairs.keys →
    IsFound f → IsPermutation used order → ArePlaces used two places → map plain_shape t.shapes ≡ all_shown f.numbers one → IsPermutation (map (placed qs) ps) t.pairs →
    AreNumbersInOrder f.numbers order → AreNotBefore t.pairs → IsTableFound f t
table-listed f t order places used one two qs ps a b c d e sound moved at shapes pairs =
    table-found f t order places sound (subst (λ ks. IsPermutation ks order) a moved)
    (subst (λ ks. ArePlaces ks order places) a (subst (λ ks. ArePlaces used ks places) c at))
    (subst (λ ks. map plain_shape t.shapes ≡ all_shown f.numbers ks) b shapes)
    (subst (λ xs. IsPermutation (map (placed places) xs) t.pairs) e (subst (λ ms. IsPermutation (map (placed ms) ps) t.pairs) d pairs))

pub moved-in : (t : ShapeNumbers) (old used order one : List ℕ) → used ≡ old → one ≡ order → IsPermutation used order → AreIn t old → AreIn t one
moved-in t old used order one a b moved h = record {
  below = subst (λ ks. All (λ k. k < total t) ks) (sym b) (All-permutation (λ k. k < total t) used order moved (subst (λ ks. All (λ k. k < total t) ks) (sym a) h.below));
}

pub moved-few : (old used order two : List ℕ) → used ≡ old → two ≡ order → IsPermutation used order → length old ≤ 256 → length two ≤ 256
moved-few old used order two a b moved h = omega (arith, ap length a, ap length b, length_permutation used order moved)
