-- Different numbers of a table stand for different types.
use Rattle.std.proofs.Common.{ℕ, zero, suc, ◌<◌, ◌≡◌, true, List, length, refl, sym, ap, ◌∙◌, arith, inl, inr}
use Rattle.std.proofs.lemmas.Bool.{cases_lt}
use Rattle.fy_types.specs.Types.{PlainType, ns, atom, arrow, field, meet, no_types, and_type}
use Rattle.fy_derive.specs.declared.node.TypeNode.{TypeNode}
use Rattle.fy_derive.specs.declared.node.TypeNode.TheVariants as node
use Rattle.fy_derive.specs.Tables.{type_at, node_at, in_front, is_meet, node_type, reach, is_meet_behind, types_of, IsTable}
use Rattle.fy_derive.proofs.TableLemmas.{type_at-node}

abbrev form : PlainType → ℕ
form ns = 0
form (atom a) = 1
form (arrow A B) = 2
form (field i A) = 3
form (meet no_types) = 4
form (meet (and_type A As)) = 5

abbrev node_form : TypeNode → ℕ
node_form node.Ns = 0
node_form (node.Atom a) = 1
node_form (node.Arrow d r) = 2
node_form (node.Field i r) = 3
node_form node.NoTypes = 4
node_form (node.AndType h r) = 5

form-in_front : (A B : PlainType) → is_meet B ≡ true → form (in_front A B) ≡ 5
form-in_front A (meet Bs) e = refl
form-in_front A B e = absurd cc

form-node : (As : List PlainType) (x : TypeNode) → is_meet_behind As x ≡ true → form (node_type As x) ≡ node_form x
form-node As node.Ns e = refl
form-node As (node.Atom a) e = refl
form-node As (node.Arrow d r) e = refl
form-node As (node.Field i r) e = refl
form-node As node.NoTypes e = refl
form-node As (node.AndType h r) e = form-in_front (type_at As h) (type_at As r) e

in_front-same : (A B C D : PlainType) → is_meet B ≡ true → is_meet D ≡ true → in_front A B ≡ in_front C D → (A ≡ C) × (B ≡ D)
in_front-same A (meet Bs) C (meet Ds) b d e = (cc, cc)
in_front-same A B C D b d e = absurd cc

same_form : (As : List PlainType) (x y : TypeNode) → is_meet_behind As x ≡ true → is_meet_behind As y ≡ true →
    ((a b : ℕ) → a < reach x → b < reach y → type_at As a ≡ type_at As b → a ≡ b) →
    node_type As x ≡ node_type As y → x ≡ y
same_form As node.Ns node.Ns l m h e = refl
same_form As (node.Atom a) (node.Atom b) l m h e = ap node.Atom cc
same_form As (node.Arrow a b) (node.Arrow c d) l m h e =
    ap (λ z. node.Arrow z b) (h a c (omega arith) (omega arith) cc) ∙ ap (node.Arrow c) (h b d (omega arith) (omega arith) cc)
same_form As (node.Field i b) (node.Field j d) l m h e =
    let g : i ≡ j = cc in
    ap (λ z. node.Field z b) g ∙ ap (node.Field j) (h b d (omega arith) (omega arith) cc)
same_form As node.NoTypes node.NoTypes l m h e = refl
same_form As (node.AndType a b) (node.AndType c d) l m h e =
    let s = in_front-same (type_at As a) (type_at As b) (type_at As c) (type_at As d) l m e in
    ap (λ z. node.AndType z b) (h a c (omega arith) (omega arith) s.0) ∙ ap (node.AndType c) (h b d (omega arith) (omega arith) s.1)
same_form As x y l m h e =
    let f : node_form x ≡ node_form y = sym (form-node As x l) ∙ (ap form e ∙ form-node As y m) in
    absurd cc

same_below : (xs : List TypeNode) → IsTable xs → (n i j : ℕ) → i < n → i < length xs → j < length xs →
    type_at (types_of xs) i ≡ type_at (types_of xs) j → i ≡ j
same_below xs s zero i j b h k e = absurd (omega arith)
same_below xs s (suc n) i j b h k e =
    let same : node_at xs i ≡ node_at xs j = same_form (types_of xs) (node_at xs i) (node_at xs j) (s.meets i h) (s.meets j k)
    (λ a c p q f. same_below xs s n a c (omega (arith, s.parts i h)) (omega (arith, s.parts i h)) (omega (arith, s.parts j k)) f)
    (sym (type_at-node xs i s h) ∙ (e ∙ type_at-node xs j s k)) in
    elim (cases_lt i j) [
      | inl l ↦ absurd (s.apart i j l k same)
      | inr g ↦ elim (cases_lt j i) [ inl l ↦ absurd (s.apart j i l h (sym same)) | inr l ↦ omega arith ]
    ]

pub same_number : (xs : List TypeNode) → IsTable xs → (i j : ℕ) → i < length xs → j < length xs →
    type_at (types_of xs) i ≡ type_at (types_of xs) j → i ≡ j
same_number xs s i j h k e = same_below xs s (suc i) i j (omega arith) h k e
