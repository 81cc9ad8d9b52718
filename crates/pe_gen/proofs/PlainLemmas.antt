-- Code that evaluates no node in one step, by the number of the binders around each node.
use Rattle.std.proofs.Common.{ℕ, ◌+◌, ◌≡◌, true, false, ◌⊎◌, List, [], length, Option, Some, refl, sym, subst}
use Rattle.fy_base.specs.declared.data.Datum.{Datum}
use Rattle.fy_phrase.specs.declared.shapes.ShapeTable.{ShapeTable}
use Rattle.fy_phrase.specs.Sizes.{nodes}
use Rattle.fy_phrase.specs.Tree.{Tree, merge}
use Rattle.fy_derive.specs.Kinds.{Kind, kind_of}
use Rattle.fy_derive.specs.Shapes.{PlainShape, shape_begins}
use Rattle.pe_code.specs.declared.code.PeCode.{PeCode}
use Rattle.pe_code.specs.declared.code.PeItem.{PeItem}
use Rattle.pe_code.specs.declared.code.PeInsn.{PeInsn}
use Rattle.pe_code.specs.Code.{item_at}
use Rattle.pe_right.specs.Entered.{BinderKind, none_straight, IsEntered}
use Rattle.pe_right.specs.Right.{IsNodeUnder, Enters, IsInsnOf, IsItemOf, IsInsnAt, by_parts, at_once, fed, IsItemAt, IsRightAt, IsCodeOf}
use Rattle.pe_right.proofs.EntryLemmas.{fed-apart}
use Rattle.pe_right.proofs.NodeLemmas.{entered-node, node-entered}
use Rattle.pe_gen.specs.Sites.{is_merge}

module _ (handed : Tree → Option Datum) (table : ShapeTable) (code : PeCode) where
  -- what stands where node k is entered at a shape, with d binders around it
  abbrev pub IsPlainAt : (d k : ℕ) → Tree → PlainShape → ℕ → Type 0
  IsPlainAt d k (merge p q at) s a =
      (kind : Kind) × (kind_of q ≡ Some kind)
      × ((shape_begins kind s ≡ true) × Enters table code (k + 1 + nodes p) s a ⊎ (shape_begins kind s ≡ false) × Enters table code (k + 1) s a)
  IsPlainAt d k q s a = (item : PeItem) × (item_at code a ≡ Some item) × IsItemOf handed table code d k q s item

  plain-insn : {w : List BinderKind} {k : ℕ} {q : Tree} {s : PlainShape} {i : PeInsn} → IsInsnAt handed none_straight table code w k q s i → IsInsnOf handed table code k q s i
  plain-insn (by_parts plain h) = h
  plain-insn (at_once is h) = absurd cc
  plain-insn (fed is h) = absurd (fed-apart h (sym is))

  plain-item : (w : List BinderKind) (k : ℕ) (q : Tree) (s : PlainShape) (a : ℕ) →
      (item : PeItem) × (item_at code a ≡ Some item) × IsItemAt handed none_straight table code w k q s item → (item : PeItem) × (item_at code a ≡ Some item) × IsItemOf handed table code (length w) k q s item
  plain-item w k q s a h = (h.0, h.1, record { insn = plain-insn h.2.insn; depth = h.2.depth; place = h.2.place })

  from-right : (q : Tree) (w : List BinderKind) (k a : ℕ) (s : PlainShape) → IsRightAt handed none_straight table code w k q s a → IsPlainAt (length w) k q s a
  from-right (merge p q at) w k a s h = (h.0, h.1, h.3)
  from-right q w k a s h = plain-item w k q s a h

  right-item : (w : List BinderKind) (k : ℕ) (q : Tree) (s : PlainShape) (a : ℕ) →
      (item : PeItem) × (item_at code a ≡ Some item) × IsItemOf handed table code (length w) k q s item → (item : PeItem) × (item_at code a ≡ Some item) × IsItemAt handed none_straight table code w k q s item
  right-item w k q s a h = (h.0, h.1, record { insn = by_parts refl h.2.insn; depth = h.2.depth; place = h.2.place })

  to-right : (q : Tree) (w : List BinderKind) (k a : ℕ) (s : PlainShape) → IsPlainAt (length w) k q s a → IsRightAt handed none_straight table code w k q s a
  to-right (merge p q at) w k a s h = (h.0, h.1, refl, h.2)
  to-right q w k a s h = right-item w k q s a h

  -- a form that is no merge is entered at its item
  pub whole-item : (q : Tree) (d k a : ℕ) (s : PlainShape) → is_merge q ≡ false → IsPlainAt d k q s a → (item : PeItem) × (item_at code a ≡ Some item) × IsItemOf handed table code d k q s item
  whole-item (merge l r at) d k a s whole h = absurd cc
  whole-item q d k a s whole h = h

  -- of right code, where no node is evaluated in one step
  pub plain-right : (p : Tree) → IsCodeOf handed none_straight p table code → (d k a : ℕ) (q : Tree) (s : PlainShape) → IsNodeUnder 0 0 p d k q → Enters table code k s a → IsPlainAt d k q s a
  plain-right p right d k a q s node enters =
      let x = node-entered [] refl node in
      subst (λ e. IsPlainAt e k q s a) x.1 (from-right q x.0 k a s (right.right x.0 k a q s x.2 enters))

  pub right-plain : (p : Tree) → ((d k a : ℕ) (q : Tree) (s : PlainShape) → IsNodeUnder 0 0 p d k q → Enters table code k s a → IsPlainAt d k q s a) →
      (w : List BinderKind) (k a : ℕ) (q : Tree) (s : PlainShape) → IsEntered none_straight [] 0 p w k q → Enters table code k s a → IsRightAt handed none_straight table code w k q s a
  right-plain p each w k a q s node enters = to-right q w k a s (each (length w) k a q s (entered-node none_straight node) enters)
