-- What the table of an accepted derivation is.
use Rattle.std.proofs.Common.{ℕ, ◌<◌, ◌≡◌, true, inl, inr, List, get_or, Some, refl, ap, sym, ◌∙◌, arith}
use Rattle.std.specs.List.{Contains, IsDistinct}
use Rattle.std.specs.List.Sorted.{IsPermutation}
use Rattle.std.specs.Prelude.{slice_get}
use Rattle.std.proofs.lemmas.Bool.{cases_lt, cases_Bool}
use Rattle.std.proofs.lemmas.List.Sorted.{Contains-permutation, IsPermutation-sym}
use Rattle.std.proofs.lemmas.Map.Keys.{apart_from_distinct, IsDistinct-from_apart, IsDistinct-IsPermutation}
use Rattle.std.proofs.lemmas.Option.{slice_get-get_or, get_or_from_slice_get}
use Rattle.fy_phrase.specs.declared.shapes.Pair.{Pair}
use Rattle.fy_phrase.specs.declared.shapes.ShapeTable.{ShapeTable}
use Rattle.fy_phrase.specs.Sizes.{nodes}
use Rattle.fy_phrase.specs.Tree.{Tree}
use Rattle.fy_derive.specs.Shapes.{PlainShape, at_end, a_run, IsNodeAt, IsClosed}
use Rattle.fy_derive.specs.ShapeTables.{plain_shape, shape_at, HasPairOf}
use Rattle.pe_shapes.proofs.ClosedLemmas.{tables-closed}
use Rattle.pe_shapes.proofs.NodeNumbers.{node-before}
use Rattle.pe_gen.specs.Sites.{Stands}
use Rattle.pe_right.specs.Typed.{IsTableOf}
use Rattle.pe_gen.proofs.FitLemmas.{Fits, table-fits, table-node}
use Rattle.pe_gen.proofs.Gets.{get-within, get-some}
use Rattle.pe_gen.proofs.KeyLists.{AreKeysOnce}
use Rattle.pe_gen.proofs.KeyTests.{same_pair, same_pair-refl, same_pair-true}
use Rattle.pe_gen.proofs.StepLemmas.{shape-read}

module _ (p : Tree) (table : ShapeTable) (its : IsTableOf p table) where
  pub closed-table : IsClosed p (HasPairOf table)
  closed-table =
      let closed = tables-closed p its.derivation its.accepted in
      record {
        program = (its.pairs.same 0 (at_end a_run)).1 closed.program;
        passed = λ k j q s t node has pass. (its.pairs.same j t).1 (closed.passed k j q s t node ((its.pairs.same k s).0 has) pass);
      }

  pub fits-table : (k : ℕ) (q : Tree) (s : PlainShape) → IsNodeAt 0 p k q → HasPairOf table k s → Fits q s
  fits-table k q s node has = table-fits p its.derivation k q s node ((its.pairs.same k s).0 has)

  -- the shape of a pair
  pub pair-shape : (x : Pair) → Stands table.pairs x → (s : PlainShape) × (shape_at table x.shape ≡ Some s)
  pair-shape x at =
      let shape = get-some table.shapes x.shape (its.pairs.sound.pairs_within at.0 x at.1) in
      (plain_shape shape.0, shape-read table.shapes x.shape shape.0 shape.1)

  -- the node of a pair is one of the phrase
  pub pair-within : (x : Pair) → Stands table.pairs x → x.node < nodes p
  pair-within x at =
      let shape = pair-shape x at in
      let has : HasPairOf table x.node shape.0 = record { place = at.0; pair = x; stands = at.1; node_is = refl; shape_is = shape.1 } in
      let node = table-node p its.derivation x.node shape.0 ((its.pairs.same x.node shape.0).0 has) in
      omega (arith, node-before node.1)

-- ---- the pairs in another order

stands-contains : {X : Type 0} (xs : List X) (x : X) → Stands xs x → Contains xs x
stands-contains xs x at = (at.0, get-within xs at.0 x at.1, get_or_from_slice_get xs at.0 x x at.1)

contains-stands : {X : Type 0} (xs : List X) (x : X) → Contains xs x → Stands xs x
contains-stands xs x at = (at.0, slice_get-get_or xs at.0 x at.1 ∙ ap Some at.2)

pub stands-permuted : {X : Type 0} (xs ys : List X) (x : X) → IsPermutation xs ys → Stands xs x → Stands ys x
stands-permuted xs ys x moved at = contains-stands ys x (Contains-permutation xs ys x moved (stands-contains xs x at))

pub stands-back : {X : Type 0} (xs ys : List X) (x : X) → IsPermutation xs ys → Stands ys x → Stands xs x
stands-back xs ys x moved at = stands-permuted ys xs x (IsPermutation-sym xs ys moved) at

same_pair-flips : (x y : Pair) → same_pair x y ≡ same_pair y x
same_pair-flips x y = elim (cases_Bool (same_pair x y)) [
  | inl t ↦ let e = same_pair-true x y t in t ∙ sym (ap (λ z. same_pair z x) (sym e) ∙ same_pair-refl x)
  | inr f ↦ elim (cases_Bool (same_pair y x)) [
    | inl t ↦ let e = same_pair-true y x t in (ap (λ z. same_pair x z) e ∙ same_pair-refl x) ∙ sym t
    | inr g ↦ f ∙ sym g
  ]
]

once-distinct : (xs : List Pair) → AreKeysOnce xs → IsDistinct same_pair xs
once-distinct xs once = IsDistinct-from_apart same_pair xs (λ i j d lt within.
    elim (cases_Bool (same_pair (get_or xs i d) (get_or xs j d))) [
      | inl t ↦
          let e = same_pair-true (get_or xs i d) (get_or xs j d) t in
          let a = slice_get-get_or xs i d (omega arith) in
          let b = slice_get-get_or xs j d within in
          let same : i ≡ j = once i j (get_or xs j d) (a ∙ ap Some e) b in
          absurd (omega arith)
      | inr f ↦ f
    ])

distinct-once : (xs : List Pair) → IsDistinct same_pair xs → AreKeysOnce xs
distinct-once xs apart i j x a b = elim (cases_lt i j) [
  | inl l ↦ absurd (unlike i j l a b)
  | inr g ↦ elim (cases_lt j i) [ inl l ↦ absurd (unlike j i l b a) | inr h ↦ omega arith ]
]
  where
    unlike : (m n : ℕ) → m < n → slice_get xs m ≡ Some x → slice_get xs n ≡ Some x → ⊥
    unlike m n l c d =
        let f = apart_from_distinct same_pair xs m n x apart l (get-within xs n x d) in
        let e : get_or xs m x ≡ x = get_or_from_slice_get xs m x x c in
        let g : get_or xs n x ≡ x = get_or_from_slice_get xs n x x d in
        let t : same_pair (get_or xs m x) (get_or xs n x) ≡ true = ap (λ z. same_pair z (get_or xs n x)) e ∙ (ap (same_pair x) g ∙ same_pair-refl x) in
        absurd cc

pub once-permuted : (xs ys : List Pair) → IsPermutation xs ys → AreKeysOnce xs → AreKeysOnce ys
once-permuted xs ys moved once = distinct-once ys (IsDistinct-IsPermutation same_pair same_pair-flips xs ys moved (once-distinct xs once))
