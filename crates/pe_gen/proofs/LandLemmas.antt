-- Where demands land: at a node that is no merge and is asked for the same shape.
use Rattle.std.proofs.Common.{ℕ, ◌+◌, ◌<◌, ◌≤◌, ◌≡◌, Bool, true, false, if◌then◌else◌, inl, inr, List, [], ◌∷◌, Some, refl, ap, sym, ◌∙◌, subst, arith}
use Rattle.std.specs.List.Sorted.{IsNonDecreasingBy}
use Rattle.std.specs.Prelude.{slice_get}
use Rattle.std.proofs.lemmas.Bool.{cases_lt}
use Rattle.std.proofs.lemmas.Option.{get_or_from_slice_get}
use Rattle.fy_base.specs.declared.data.Place.{Place}
use Rattle.fy_phrase.specs.declared.shapes.Pair.{Pair}
use Rattle.fy_phrase.specs.declared.shapes.ShapeTable.{ShapeTable}
use Rattle.fy_phrase.specs.Sizes.{nodes}
use Rattle.fy_phrase.specs.Tree.{Tree, lam, field, accept, merge}
use Rattle.fy_phrase.specs.WellMade.{IsOperand}
use Rattle.fy_derive.specs.Kinds.{Kind, kind_of}
use Rattle.fy_derive.specs.Shapes.{PlainShape, shape_begins, IsClosed, of_right, of_left}
use Rattle.fy_derive.specs.ShapeTables.{shape_at, HasPairOf, IsShapeTable}
use Rattle.pe_gen.specs.Preorder.{preorder}
use Rattle.pe_right.specs.Right.{IsNodeUnder}
use Rattle.pe_gen.specs.Sites.{is_merge, taken, taken_by, landing, operand_at, pair, Stands, AreSites, LandAmong, ArePassed}
use Rattle.pe_gen.proofs.Gets.{some_same, get-within}
use Rattle.pe_gen.proofs.NodeLists.{parts-total, node-found, node-placed, first-part, second-part, plain-node}
use Rattle.pe_gen.proofs.ScopeLemmas.{IsScoped, node-scoped}

-- a merge's right operand has a kind
pub operand-kind : (q : Tree) → IsOperand q → (kind : Kind) × (kind_of q ≡ Some kind)
operand-kind (lam d As b at) o = (_, refl)
operand-kind (field i p at) o = (_, refl)
operand-kind (accept d D b at) o = (_, refl)
operand-kind q o = absurd o

pub taken-begins : (q : Tree) (kind : Kind) (s : PlainShape) → kind_of q ≡ Some kind → taken_by q s ≡ shape_begins kind s
taken-begins q kind s e = ap (λ o. taken o s) e

pub landing-plain : (k : ℕ) (q : Tree) (s : PlainShape) → is_merge q ≡ false → landing k q s ≡ k
landing-plain k (merge p q at) s h = absurd cc
landing-plain k q s h = refl

pub landing-right : (k : ℕ) (p q : Tree) (at : Place) (s : PlainShape) → taken_by q s ≡ true → landing k (merge p q at) s ≡ landing (k + 1 + nodes p) q s
landing-right k p q at s h = ap (λ b. if b then landing (k + 1 + nodes p) q s else landing (k + 1) p s) h

pub landing-left : (k : ℕ) (p q : Tree) (at : Place) (s : PlainShape) → taken_by q s ≡ false → landing k (merge p q at) s ≡ landing (k + 1) p s
landing-left k p q at s h = ap (λ b. if b then landing (k + 1 + nodes p) q s else landing (k + 1) p s) h

one-more : (q : Tree) → 1 ≤ nodes q
one-more q = omega (arith, parts-total 0 q)

-- it is in the phrase
pub landing-from : (k : ℕ) (q : Tree) (s : PlainShape) → k ≤ landing k q s
landing-from k (merge p q at) s = by (taken_by q s) (landing-from (k + 1 + nodes p) q s) (landing-from (k + 1) p s)
  where
    by : (b : Bool) → k + 1 + nodes p ≤ landing (k + 1 + nodes p) q s → k + 1 ≤ landing (k + 1) p s →
        k ≤ (if b then landing (k + 1 + nodes p) q s else landing (k + 1) p s)
    by true r l = omega arith
    by false r l = omega arith
landing-from k q s = omega arith

pub landing-before : (k : ℕ) (q : Tree) (s : PlainShape) → landing k q s < k + nodes q
landing-before k (merge p q at) s = by (taken_by q s) (landing-before (k + 1 + nodes p) q s) (landing-before (k + 1) p s)
  where
    by : (b : Bool) → landing (k + 1 + nodes p) q s < k + 1 + nodes p + nodes q → landing (k + 1) p s < k + 1 + nodes p →
        (if b then landing (k + 1 + nodes p) q s else landing (k + 1) p s) < k + (1 + nodes p + nodes q)
    by true r l = omega arith
    by false r l = omega arith
landing-before k q s = omega (arith, one-more q)

module _ (p : Tree) (table : ShapeTable) (closed : IsClosed p (HasPairOf table)) (scoped : IsScoped 0 p) where
  -- the node with the number is no merge, and is asked for the shape
  abbrev LandsAt : PlainShape → ℕ → Type 0
  LandsAt s j = (e : ℕ) × (r : Tree) × IsNodeUnder 0 0 p e j r × (is_merge r ≡ false) × HasPairOf table j s

  -- what a merge passes, with the kind of its right operand
  pub passed-right : (d k : ℕ) (q r : Tree) (at : Place) (s : PlainShape) → IsNodeUnder 0 0 p d k (merge q r at) → HasPairOf table k s → taken_by r s ≡ true →
      HasPairOf table (k + 1 + nodes q) s
  passed-right d k q r at s node has t =
      let kind = operand-kind r (node-scoped node scoped).made.1 in
      closed.passed k (k + 1 + nodes q) (merge q r at) s s (plain-node node) has (of_right kind.1 (sym (taken-begins r kind.0 s kind.1) ∙ t))

  pub passed-left : (d k : ℕ) (q r : Tree) (at : Place) (s : PlainShape) → IsNodeUnder 0 0 p d k (merge q r at) → HasPairOf table k s → taken_by r s ≡ false →
      HasPairOf table (k + 1) s
  passed-left d k q r at s node has t =
      let kind = operand-kind r (node-scoped node scoped).made.1 in
      closed.passed k (k + 1) (merge q r at) s s (plain-node node) has (of_left kind.1 (sym (taken-begins r kind.0 s kind.1) ∙ t))

  -- the operand is behind the merge, and is asked for the same shape
  passes : (q : Tree) (d k : ℕ) (s : PlainShape) (j : ℕ) → IsNodeUnder 0 0 p d k q → HasPairOf table k s → operand_at k q s ≡ Some j → (k < j) × HasPairOf table j s
  passes (merge q r at) d k s j node has e = by (taken_by r s) refl (some_same e)
    where
      by : (b : Bool) → taken_by r s ≡ b → (if b then k + 1 + nodes q else k + 1) ≡ j → (k < j) × HasPairOf table j s
      by true t f = (omega arith, subst (λ n. HasPairOf table n s) f (passed-right d k q r at s node has t))
      by false t f = (omega arith, subst (λ n. HasPairOf table n s) f (passed-left d k q r at s node has t))
  passes q d k s j node has e = absurd cc

  pub lands : (q : Tree) (d k : ℕ) (s : PlainShape) → IsNodeUnder 0 0 p d k q → HasPairOf table k s → LandsAt s (landing k q s)
  lands (merge q r at) d k s node has =
      by (taken_by r s) refl (lands r d (k + 1 + nodes q) s (second-part [] node refl)) (lands q d (k + 1) s (first-part ((d, r) ∷ []) node refl))
    where
      by : (b : Bool) → taken_by r s ≡ b → (HasPairOf table (k + 1 + nodes q) s → LandsAt s (landing (k + 1 + nodes q) r s)) →
          (HasPairOf table (k + 1) s → LandsAt s (landing (k + 1) q s)) →
          LandsAt s (if b then landing (k + 1 + nodes q) r s else landing (k + 1) q s)
      by true t right left = right (passed-right d k q r at s node has t)
      by false t right left = left (passed-left d k q r at s node has t)
  lands q d k s node has = (d, q, node, refl, has)

  module _ (sound : IsShapeTable table) where
    -- a node that is asked for the shape with the number stands in the table with it
    pub pair-stands : (k n : ℕ) (s : PlainShape) → HasPairOf table k s → shape_at table n ≡ Some s → Stands table.pairs (pair k n)
    pair-stands k n s has is =
        let number : has.pair.shape ≡ n = sound.shapes_once has.pair.shape n s has.shape_is is in
        (has.place, has.stands ∙ (ap (λ j. Some (pair j has.pair.shape)) has.node_is ∙ ap (λ j. Some (pair k j)) number))

    pub pairs-land : (ns : List (ℕ × Tree)) (pairs sites : List Pair) (program : Pair) → ns ≡ preorder 0 p →
        ((x : Pair) → Stands pairs x → Stands table.pairs x) → ((x : Pair) → Stands table.pairs x → Stands pairs x) →
        AreSites ns pairs program sites → LandAmong ns table.shapes pairs sites
    pairs-land ns pairs sites program made there back all x q s at listed is =
        let node = node-found 0 p x.node listed.0 q (sym (ap (λ xs. slice_get xs x.node) made) ∙ listed.1) in
        let placed = there x at in
        let has : HasPairOf table x.node s = record { place = placed.0; pair = x; stands = placed.1; node_is = refl; shape_is = is } in
        let l = lands q listed.0 x.node s node has in
        all.has (pair (landing x.node q s) x.shape) (back _ (pair-stands (landing x.node q s) x.shape s l.4 is))
        (l.1, (l.0, ap (λ xs. slice_get xs (landing x.node q s)) made ∙ node-placed l.2), l.3)

    -- what a merge passes to its operand stands behind it, where the nodes of the pairs don't fall
    pub pairs-passed : (ns : List (ℕ × Tree)) (pairs : List Pair) → ns ≡ preorder 0 p → IsNonDecreasingBy (λ (x : Pair). x.node) pairs →
        ((x : Pair) → Stands pairs x → Stands table.pairs x) → ((x : Pair) → Stands table.pairs x → Stands pairs x) → ArePassed ns table.shapes pairs
    pairs-passed ns pairs made rising there back i x q s k at listed is operand =
        let node = node-found 0 p x.node listed.0 q (sym (ap (λ xs. slice_get xs x.node) made) ∙ listed.1) in
        let placed = there x (i, at) in
        let has : HasPairOf table x.node s = record { place = placed.0; pair = x; stands = placed.1; node_is = refl; shape_is = is } in
        let passed = passes q listed.0 x.node s k node has operand in
        let found = back (pair k x.shape) (pair-stands k x.shape s passed.1 is) in
        let behind : i < found.0 = elim (cases_lt i found.0) [
          | inl l ↦ l
          | inr g ↦
              let order = rising found.0 i x g (get-within pairs i x at) in
              let one = ap (λ (y : Pair). y.node) (get_or_from_slice_get pairs found.0 (pair k x.shape) x found.1) in
              let other = ap (λ (y : Pair). y.node) (get_or_from_slice_get pairs i x x at) in
              absurd (omega (arith, order, one, other, passed.0))
        ] in
        (found.0, behind, found.1)
