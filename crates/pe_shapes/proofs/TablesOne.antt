-- Tables in order with the same pairs are one.
use Rattle.std.proofs.Common.{ℕ, ◌≡◌, true, false, List, [], ◌∷◌, get_or, map, Some, slice_get, refl, sym, ap, ◌∙◌, subst}
use Rattle.std.specs.List.{Contains}
use Rattle.std.specs.Option.{option_map}
use Rattle.std.proofs.lemmas.Option.{slice_get-get_or, slice_get-map}
use Rattle.fy_phrase.specs.declared.shapes.Pair.{Pair}
use Rattle.fy_phrase.specs.declared.shapes.Shape.{Shape}
use Rattle.fy_phrase.specs.declared.shapes.ShapeElem.{ShapeElem}
use Rattle.fy_phrase.specs.declared.shapes.ShapeElem.TheVariants as elem
use Rattle.fy_phrase.specs.declared.shapes.ShapeEnd.{ShapeEnd}
use Rattle.fy_phrase.specs.declared.shapes.ShapeEnd.TheVariants as ending
use Rattle.fy_phrase.specs.declared.shapes.ShapeTable.{ShapeTable}
use Rattle.fy_derive.specs.Shapes.{EndShape, PlainShape, at_end, shape_table}
use Rattle.fy_derive.specs.ShapeTables.{plain_end, behind, plain_shape, shape_at, HasPairOf, HasJustPairs}
use Rattle.pe_shapes.specs.Order.{comes_before, IsPairBefore, AreInOrder, ShapeTablesAreOne}
use Rattle.pe_shapes.proofs.Members.{Contains-at, place_of}
use Rattle.pe_shapes.proofs.OrderLemmas.{before-itself, before-then}
use Rattle.pe_shapes.proofs.Sorting.{same-ordered}
use Rattle.pe_shapes.proofs.TableLemmas.{pair_same, pair-never, pair-once}

-- ---- shapes that are shown alike are the same

ends-same : (x y : ShapeEnd) → plain_end x ≡ plain_end y → x ≡ y
ends-same ending.Value ending.Value e = refl
ends-same ending.Value ending.Assign e = absurd cc
ends-same ending.Value ending.Run e = absurd cc
ends-same ending.Assign ending.Value e = absurd cc
ends-same ending.Assign ending.Assign e = refl
ends-same ending.Assign ending.Run e = absurd cc
ends-same ending.Run ending.Value e = absurd cc
ends-same ending.Run ending.Assign e = absurd cc
ends-same ending.Run ending.Run e = refl

demands-same : (es fs : List ShapeElem) (x y : EndShape) → behind es (at_end x) ≡ behind fs (at_end y) → (es ≡ fs) × (x ≡ y)
demands-same [] [] x y e = (refl, cc)
demands-same [] (elem.Call ∷ fs) x y e = absurd cc
demands-same [] (elem.Field j ∷ fs) x y e = absurd cc
demands-same (elem.Call ∷ es) [] x y e = absurd cc
demands-same (elem.Call ∷ es) (elem.Call ∷ fs) x y e =
    let rest : behind es (at_end x) ≡ behind fs (at_end y) = cc in
    let r = demands-same es fs x y rest in
    (ap (λ zs. elem.Call ∷ zs) r.0, r.1)
demands-same (elem.Call ∷ es) (elem.Field j ∷ fs) x y e = absurd cc
demands-same (elem.Field i ∷ es) [] x y e = absurd cc
demands-same (elem.Field i ∷ es) (elem.Call ∷ fs) x y e = absurd cc
demands-same (elem.Field i ∷ es) (elem.Field j ∷ fs) x y e =
    let number : i ≡ j = cc in
    let rest : behind es (at_end x) ≡ behind fs (at_end y) = cc in
    let r = demands-same es fs x y rest in
    (ap (λ k. elem.Field k ∷ es) number ∙ ap (λ zs. elem.Field j ∷ zs) r.0, r.1)

abbrev shape_of : List ShapeElem → ShapeEnd → Shape
shape_of es e = record { elems = es; end = e }

shape_same : (a b : Shape) → plain_shape a ≡ plain_shape b → a ≡ b
shape_same a b e =
    let r = demands-same a.elems b.elems (plain_end a.end) (plain_end b.end) e in
    ap (λ es. shape_of es a.end) r.0 ∙ ap (shape_of b.elems) (ends-same a.end b.end r.1)

all-same : (xs ys : List Shape) → map plain_shape xs ≡ map plain_shape ys → xs ≡ ys
all-same [] [] e = refl
all-same [] (y ∷ ys) e = absurd cc
all-same (x ∷ xs) [] e = absurd cc
all-same (x ∷ xs) (y ∷ ys) e =
    let first : plain_shape x ≡ plain_shape y = cc in
    let rest : map plain_shape xs ≡ map plain_shape ys = cc in
    ap (λ z. z ∷ xs) (shape_same x y first) ∙ ap (λ zs. y ∷ zs) (all-same xs ys rest)

-- ---- tables

never : (s : PlainShape) → comes_before s s ≡ true → ⊥
never s h = let f : true ≡ false = sym h ∙ before-itself s in cc

shape-in : (t : ShapeTable) (n : ℕ) (s : PlainShape) → shape_at t n ≡ Some s → Contains (map plain_shape t.shapes) s
shape-in t n s e = Contains-at (map plain_shape t.shapes) n s (slice_get-map plain_shape t.shapes n ∙ e)

module _ (pairs : ℕ → PlainShape → Type 0) (one other : ShapeTable) (a : HasJustPairs one pairs) (b : HasJustPairs other pairs) where
  crossed : (k : ℕ) (s : PlainShape) → HasPairOf one k s → HasPairOf other k s
  crossed k s h = (b.same k s).1 ((a.same k s).0 h)

  shape-crossed : (s : PlainShape) → Contains (map plain_shape one.shapes) s → Contains (map plain_shape other.shapes) s
  shape-crossed s c =
      let n = place_of (map plain_shape one.shapes) s c in
      let used = a.sound.shapes_used n.0 s (sym (slice_get-map plain_shape one.shapes n.0) ∙ n.1) in
      let h = crossed used.0 s used.1 in
      shape-in other h.pair.shape s h.shape_is

  pair-crossed : map plain_shape one.shapes ≡ map plain_shape other.shapes → (x : Pair) → Contains one.pairs x → Contains other.pairs x
  pair-crossed same x c =
      let at = place_of one.pairs x c in
      let s = plain_shape (get_or one.shapes x.shape none) in
      let is : shape_at one x.shape ≡ Some s = ap (option_map plain_shape) (slice_get-get_or one.shapes x.shape none (a.sound.pairs_within at.0 x at.1)) in
      let h = crossed x.node s (record { place = at.0; pair = x; stands = at.1; node_is = refl; shape_is = is }) in
      let there : shape_at other x.shape ≡ Some s =
      sym (slice_get-map plain_shape other.shapes x.shape) ∙ (ap (λ S. slice_get S x.shape) (sym same) ∙ (slice_get-map plain_shape one.shapes x.shape ∙ is)) in
      let e : h.pair ≡ x = pair_same h.pair x h.node_is (b.sound.shapes_once h.pair.shape x.shape s h.shape_is there) in
      subst (Contains other.pairs) e (Contains-at other.pairs h.place h.pair h.stands)
    where
      none : Shape
      none = shape_of [] ending.Value

abbrev table_of : List Shape → List Pair → ShapeTable
table_of shapes pairs = record { shapes = shapes; pairs = pairs }

same-tables : (pairs : ℕ → PlainShape → Type 0) (one other : ShapeTable) → HasJustPairs one pairs → HasJustPairs other pairs → AreInOrder one → AreInOrder other → one ≡ other
same-tables pairs one other a b up rise =
    let shapes : map plain_shape one.shapes ≡ map plain_shape other.shapes =
    same-ordered (λ s t. comes_before s t ≡ true) never (λ s t h g. never s (before-then s t s h g)) (map plain_shape one.shapes) (map plain_shape other.shapes) up.shapes rise.shapes
    (shape-crossed pairs one other a b) (shape-crossed pairs other one b a) in
    let listed : one.pairs ≡ other.pairs =
    same-ordered IsPairBefore pair-never pair-once one.pairs other.pairs up.pairs rise.pairs (pair-crossed pairs one other a b shapes) (pair-crossed pairs other one b a (sym shapes)) in
    ap (λ S. table_of S one.pairs) (all-same one.shapes other.shapes shapes) ∙ ap (table_of other.shapes) listed

pub tables-one : ShapeTablesAreOne
tables-one p d = same-tables (shape_table p d)
