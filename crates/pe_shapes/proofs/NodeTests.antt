-- The test of nodes decides equality, and different numbers stand for different shapes.
use Rattle.std.proofs.Common.{ℕ, zero, suc, ◌<◌, Bool, true, ◌≡◌, List, eqb-true, refl, ap, ◌∙◌, sym, rules, Some, slice_get, [], ◌∷◌, ◌++◌, length, arith, inl, inr}
use Rattle.std.proofs.lemmas.Bool.{cases_lt}
use denote.Enum.Bare.{same_true}
use Rattle.fy_phrase.specs.declared.shapes.ShapeElem.{ShapeElem}
use Rattle.fy_phrase.specs.declared.shapes.ShapeElem.TheVariants as elem
use Rattle.fy_phrase.specs.declared.shapes.ShapeEnd.{ShapeEnd}
use Rattle.fy_phrase.specs.declared.shapes.ShapeEnd.TheVariants as ending
use Rattle.fy_phrase.specs.contracts.shapes.ShapeElemPartialEq.TheImpl as elem_test
use Rattle.fy_phrase.specs.contracts.shapes.ShapeElemEq.TheImpl.Laws as elem_laws
use Rattle.fy_phrase.specs.contracts.shapes.ShapeEndPartialEq.TheImpl as end_test
use Rattle.fy_phrase.specs.contracts.shapes.ShapeEnd.{the_type}
use Rattle.fy_types.proofs.OnceLemmas.{both_true}
use Rattle.fy_derive.specs.Shapes.{PlainShape, at_end, a_call, a_field}
use Rattle.fy_derive.specs.ShapeTables.{plain_end, behind}
use Rattle.pe_shapes.specs.declared.node.ShapeNode.{ShapeNode}
use Rattle.pe_shapes.specs.declared.node.ShapeNode.TheVariants as node
use Rattle.pe_shapes.specs.contracts.node.ShapeNodePartialEq.TheImpl.{ghosts}
use Rattle.pe_shapes.specs.contracts.node.ShapeNodeEq.TheImpl.Laws.{lawful}
use Rattle.pe_shapes.specs.Numbering.{in_front, numbered_shape, node_at, node_shape, reach, shapes_of, IsNumbering}
use Rattle.pe_shapes.proofs.NumberLemmas.{numbered_shape-node}

abbrev pub same_node : ShapeNode → ShapeNode → Bool
same_node = ghosts.eq

pub same_node-refl : (x : ShapeNode) → same_node x x ≡ true
same_node-refl x = lawful.laws.refl x

abbrev pub same_elem : ShapeElem → ShapeElem → Bool
same_elem = (elem_test.ghosts).eq

pub same_elem-refl : (x : ShapeElem) → same_elem x x ≡ true
same_elem-refl x = (elem_laws.lawful).laws.refl x

pub same_elem-true : (x y : ShapeElem) → same_elem x y ≡ true → x ≡ y
same_elem-true elem.Call elem.Call e = refl
same_elem-true (elem.Field i) (elem.Field j) e = ap elem.Field (eqb-true i j e)
same_elem-true x y e = absurd cc

pub same_end : (a b : ShapeEnd) → (end_test.ghosts).eq a b ≡ true → a ≡ b
same_end a b e = same_true the_type (search rules) _ _ e

same_node-true : (x y : ShapeNode) → same_node x y ≡ true → x ≡ y
same_node-true (node.End a) (node.End b) e = ap node.End (same_end a b e)
same_node-true (node.Front x a) (node.Front y b) e =
    let h = both_true _ _ e in ap (λ z. node.Front z a) (same_elem-true x y h.0) ∙ ap (node.Front y) (eqb-true a b h.1)
same_node-true x y e = absurd cc

pub read_node : (ys : List ShapeNode) (n : ShapeNode) (i : ℕ) → slice_get ys i ≡ Some n → node_at ys i ≡ n
read_node [] n i h = absurd cc
read_node (y ∷ ys) n zero h = cc
read_node (y ∷ ys) n (suc i) h = read_node ys n i h

-- the node at a place where a key is stored that is the same
pub stored_node : (ys : List ShapeNode) (n : ShapeNode) (i : ℕ) → ((k : ShapeNode) × (slice_get ys i ≡ Some k) × (same_node n k ≡ true)) → node_at ys i ≡ n
stored_node ys n i h = read_node ys h.0 i h.1 ∙ sym (same_node-true n h.0 h.2)

-- ---- different numbers

plain_end-same : (a b : ShapeEnd) → plain_end a ≡ plain_end b → a ≡ b
plain_end-same ending.Value ending.Value e = refl
plain_end-same ending.Assign ending.Assign e = refl
plain_end-same ending.Run ending.Run e = refl
plain_end-same a b e = absurd cc

pub in_front-same : (x : ShapeElem) (s t : PlainShape) → in_front x s ≡ in_front x t → s ≡ t
in_front-same elem.Call s t e = cc
in_front-same (elem.Field i) s t e = cc

pub in_front-elem : (x y : ShapeElem) (s t : PlainShape) → in_front x s ≡ in_front y t → x ≡ y
in_front-elem elem.Call elem.Call s t e = refl
in_front-elem (elem.Field i) (elem.Field j) s t e = ap elem.Field (cc)
in_front-elem x y s t e = absurd cc

pub no_end : (x : ShapeElem) (e : ShapeEnd) (s : PlainShape) → at_end (plain_end e) ≡ in_front x s → ⊥
no_end elem.Call e s h = cc
no_end (elem.Field i) e s h = cc

same_form : (S : List PlainShape) (x y : ShapeNode) → ((a b : ℕ) → a < reach x → b < reach y → numbered_shape S a ≡ numbered_shape S b → a ≡ b) →
    node_shape S x ≡ node_shape S y → x ≡ y
same_form S (node.End a) (node.End b) h e = ap node.End (plain_end-same a b cc)
same_form S (node.End a) (node.Front y k) h e = absurd (no_end y a (numbered_shape S k) e)
same_form S (node.Front x j) (node.End b) h e = absurd (no_end x b (numbered_shape S j) (sym e))
same_form S (node.Front x j) (node.Front y k) h e =
    let f = in_front-elem x y (numbered_shape S j) (numbered_shape S k) e in
    let g : in_front x (numbered_shape S j) ≡ in_front x (numbered_shape S k) = e ∙ ap (λ z. in_front z (numbered_shape S k)) (sym f) in
    ap (λ z. node.Front z j) f ∙ ap (node.Front y) (h j k (omega arith) (omega arith) (in_front-same x (numbered_shape S j) (numbered_shape S k) g))

same_below : (xs : List ShapeNode) → IsNumbering xs → (n i j : ℕ) → i < n → i < length xs → j < length xs →
    numbered_shape (shapes_of xs) i ≡ numbered_shape (shapes_of xs) j → i ≡ j
same_below xs s zero i j b h k e = absurd (omega arith)
same_below xs s (suc n) i j b h k e =
    let same : node_at xs i ≡ node_at xs j = same_form (shapes_of xs) (node_at xs i) (node_at xs j)
    (λ a c p q f. same_below xs s n a c (omega (arith, s.parts i h)) (omega (arith, s.parts i h)) (omega (arith, s.parts j k)) f)
    (sym (numbered_shape-node xs i s h) ∙ (e ∙ numbered_shape-node xs j s k)) in
    elim (cases_lt i j) [
      | inl l ↦ absurd (s.apart i j l k same)
      | inr g ↦ elim (cases_lt j i) [ inl l ↦ absurd (s.apart j i l h (sym same)) | inr l ↦ omega arith ]
    ]

pub same_number : (xs : List ShapeNode) → IsNumbering xs → (i j : ℕ) → i < length xs → j < length xs →
    numbered_shape (shapes_of xs) i ≡ numbered_shape (shapes_of xs) j → i ≡ j
same_number xs s i j h k e = same_below xs s (suc i) i j (omega arith) h k e

-- one demand more before the last
pub behind-push : (es : List ShapeElem) (e : ShapeElem) (s : PlainShape) → behind (es ++ e ∷ []) s ≡ behind es (in_front e s)
behind-push [] elem.Call s = refl
behind-push [] (elem.Field i) s = refl
behind-push (elem.Call ∷ es) e s = ap a_call (behind-push es e s)
behind-push (elem.Field i ∷ es) e s = ap (a_field i) (behind-push es e s)
