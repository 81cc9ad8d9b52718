-- The code of a constant comes to its value in fewer steps of the machine than twice its nodes, and nothing but the focus changes.
use Rattle.std.proofs.Common.{ℕ, suc, true, false, ◌+◌, ◌*◌, ◌≤◌, ◌≡◌, ◌⊎◌, List, [], length, Option, Some, refl, ap, ◌∙◌, subst, inl, inr, arith}
use Rattle.fy_base.specs.declared.data.Place.{Place}
use Rattle.fy_base.specs.declared.data.Datum.{Datum}
use Rattle.fy_base.specs.declared.data.Datum.TheVariants as datum_kind
use Rattle.fy_base.specs.declared.data.UnOp.{UnOp}
use Rattle.fy_base.specs.declared.data.BinOp.{BinOp}
use Rattle.fy_base.specs.declared.data.BinOp.TheVariants.{And, Or}
use Rattle.fy_base.specs.declared.arithmetic.Applied.{Applied}
use Rattle.fy_base.specs.declared.arithmetic.Applied.TheVariants.{Gives}
use Rattle.fy_base.specs.Arithmetic.{unary_result, binary_result}
use Rattle.fy_phrase.specs.Tree.{Tree, lit, unary, binary}
use Rattle.fy_phrase.specs.Sizes.{nodes}
use Rattle.fy_phrase.specs.Contexts.{op_1, op_l, op_r}
use Rattle.fy_derive.specs.Shapes.{PlainShape}
use Rattle.pe_code.specs.declared.code.PeInsn.{PeInsn}
use Rattle.pe_code.specs.declared.code.PeInsn.TheVariants as insn
use Rattle.pe_code.specs.declared.code.PeItem.{PeItem}
use Rattle.pe_code.specs.declared.code.PeCode.{PeCode}
use Rattle.pe_code.specs.Code.{item_at}
use Rattle.pe_machine.specs.States.{Pointer, Frame, code_at, value, PeState, oldest}
use Rattle.pe_machine.specs.Step.{PeMove, goes, focus_on, push, focused, pushed, operated, left_meets, executed, item_executed, pe_step}
use Rattle.pe_right.specs.Constants.{value_of}
use Rattle.pe_right.specs.Entered.{BinderKind, every, IsEntered, is_entered, within_first, within_later}
use Rattle.pe_right.specs.Right.{Enters, IsItemAt}
use Rattle.pe_right.proofs.ConstantLemmas.{unary-of, binary-of}
use Rattle.pe_right.proofs.Evaluating.{nodes-some}
use Rattle.pe_right.proofs.FrameLemmas.{oldest-all}
use Rattle.pe_right.proofs.Invariants.{Compiled}
use Rattle.pe_right.proofs.NodeLemmas.{part-entered}
use Rattle.pe_right.proofs.EntryLemmas.{insn-is, plain-insn}

-- steps of the machine that neither put nor take
pub data CodeSteps (code : PeCode) : ℕ → PeState → PeState → Type 0 where
  stays : {s : PeState} → CodeSteps code 0 s s
  steps : {j : ℕ} {s t u : PeState} → pe_step code s ≡ goes t → CodeSteps code j t u → CodeSteps code (suc j) s u

joined : {code : PeCode} {i j : ℕ} {s t u : PeState} → CodeSteps code i s t → CodeSteps code j t u → CodeSteps code (i + j) s u
joined {code = code} {j = j} {t = t} {u = u} stays y = let z : j ≡ 0 + j = omega arith in subst (λ (n : ℕ). CodeSteps code n t u) z y
joined {code = code} {j = j} {s = s} {u = u} (steps {j = i} h x) y = let z : suc (i + j) ≡ suc i + j = omega arith in subst (λ (n : ℕ). CodeSteps code n s u) z (steps h (joined x y))

-- the left operand's value asks for the right one, is passed over for it, or is the result
abbrev Asks : BinOp → Datum → Type 0
Asks op u = (q : Pointer) (at : Place) (s : PeState) → left_meets op u q at s ≡ pushed (op_r op u at) q s

abbrev Passes : BinOp → Datum → Type 0
Passes op u = (q : Pointer) (at : Place) (s : PeState) → left_meets op u q at s ≡ focused (code_at q) s

abbrev Decides : BinOp → Datum → Type 0
Decides op u = (q : Pointer) (at : Place) (s : PeState) → left_meets op u q at s ≡ focused (value u) s

decided : (op : BinOp) (u w v : Datum) → binary_result op u w ≡ Gives v → Asks op u ⊎ ((Passes op u × (w ≡ v)) ⊎ (Decides op u × (u ≡ v)))
decided And (datum_kind.Bool true) (datum_kind.Bool b) v e = inr (inl ((λ q at s. refl), cc))
decided And (datum_kind.Bool false) (datum_kind.Bool b) v e = inr (inr ((λ q at s. refl), cc))
decided And (datum_kind.Int x) (datum_kind.Int y) v e = absurd cc
decided And (datum_kind.Int x) (datum_kind.Char y) v e = absurd cc
decided And (datum_kind.Int x) (datum_kind.Bool y) v e = absurd cc
decided And (datum_kind.Char x) (datum_kind.Int y) v e = absurd cc
decided And (datum_kind.Char x) (datum_kind.Char y) v e = absurd cc
decided And (datum_kind.Char x) (datum_kind.Bool y) v e = absurd cc
decided And (datum_kind.Bool x) (datum_kind.Int y) v e = absurd cc
decided And (datum_kind.Bool x) (datum_kind.Char y) v e = absurd cc
decided Or (datum_kind.Bool true) (datum_kind.Bool b) v e = inr (inr ((λ q at s. refl), cc))
decided Or (datum_kind.Bool false) (datum_kind.Bool b) v e = inr (inl ((λ q at s. refl), cc))
decided Or (datum_kind.Int x) (datum_kind.Int y) v e = absurd cc
decided Or (datum_kind.Int x) (datum_kind.Char y) v e = absurd cc
decided Or (datum_kind.Int x) (datum_kind.Bool y) v e = absurd cc
decided Or (datum_kind.Char x) (datum_kind.Int y) v e = absurd cc
decided Or (datum_kind.Char x) (datum_kind.Char y) v e = absurd cc
decided Or (datum_kind.Char x) (datum_kind.Bool y) v e = absurd cc
decided Or (datum_kind.Bool x) (datum_kind.Int y) v e = absurd cc
decided Or (datum_kind.Bool x) (datum_kind.Char y) v e = absurd cc
decided op u w v e = inl (λ q at s. refl)

-- code at an address, in a frame
abbrev In : ℕ → Option ℕ → Pointer
In a r = record { address = a; frame = r }

-- the state with the frames that stood when the newest context was pushed: all of them
abbrev cut : Datum → PeState → PeState
cut u s = record s { focus = value u; frames = oldest (length s.frames) s.frames }

cut-same : (m : PeState → PeMove) (u : Datum) (s : PeState) → m (cut u s) ≡ m (focus_on (value u) s)
cut-same m u s = ap (λ (fs : List Frame). m (record s { focus = value u; frames = fs })) (oldest-all (length s.frames) s.frames (omega arith))

module _ (g : Compiled) where
  -- from the code at the address to the datum
  abbrev pub Evaluates : ℕ → Tree → Datum → Type 0
  Evaluates a q v =
      (r : Option ℕ) (s : PeState) → (j : ℕ) × (j + 1 ≤ 2 * nodes q) × CodeSteps g.code j (focus_on (code_at (In a r)) s) (focus_on (value v) s)

  code-step : (a : ℕ) (r : Option ℕ) (s : PeState) (item : PeItem) (i : PeInsn) → item_at g.code a ≡ Some item → item.insn ≡ i →
      pe_step g.code (focus_on (code_at (In a r)) s) ≡ executed g.code i item.depth item.place (In a r) (focus_on (code_at (In a r)) s)
  code-step a r s item i e f =
      ap (λ (o : Option PeItem). item_executed g.code o (In a r) (focus_on (code_at (In a r)) s)) e
      ∙ ap (λ (x : PeInsn). executed g.code x item.depth item.place (In a r) (focus_on (code_at (In a r)) s)) f

  -- an operator's last step
  result : (x : Applied) (u v : Datum) (at : Place) (s : PeState) → x ≡ Gives v → operated x at (cut u s) ≡ goes (focus_on (value v) s)
  result x u v at s e = ap (λ (y : Applied). operated y at (cut u s)) e ∙ cut-same (λ (t : PeState). focused (value v) t) u s

  lit-evaluates : (a : ℕ) (at : Place) (u v : Datum) (item : PeItem) → item_at g.code a ≡ Some item → item.insn ≡ insn.Answer u → u ≡ v → Evaluates a (lit u at) v
  lit-evaluates a at u v item e f is r s =
      (1, omega arith, steps (code-step a r s item (insn.Answer u) e f ∙ ap (λ (w : Datum). goes (focus_on (value w) s)) is) stays)

  unary-evaluates : (a x : ℕ) (op : UnOp) (p : Tree) (at : Place) (u v : Datum) (item : PeItem) → item_at g.code a ≡ Some item → item.insn ≡ insn.Op1 op x →
      unary_result op u ≡ Gives v → Evaluates x p u → Evaluates a (unary op p at) v
  unary-evaluates a x op p at u v item e f is h r s =
      let i = h r (push (op_1 op item.place) s) in
      (suc (i.0 + 1), omega (arith, i.1), steps (code-step a r s item (insn.Op1 op x) e f) (joined i.2 (steps (result (unary_result op u) u v item.place s is) stays)))

  binary-evaluates : (a x y : ℕ) (op : BinOp) (p q : Tree) (at : Place) (u w v : Datum) (item : PeItem) → item_at g.code a ≡ Some item → item.insn ≡ insn.Op2 op x y →
      binary_result op u w ≡ Gives v → Evaluates x p u → Evaluates y q w → Evaluates a (binary op p q at) v
  binary-evaluates a x y op p q at u w v item e f is h k r s =
      let i = h r (push (op_l op (In y r) item.place) s) in
      elim (decided op u w v is) [
        | inl asks ↦
            let j = k r (push (op_r op u item.place) s) in
            let mid = asks (In y r) item.place (cut u s) ∙ cut-same (λ (t : PeState). pushed (op_r op u item.place) (In y r) t) u s in (
              suc (i.0 + suc (j.0 + 1)),
              omega (arith, i.1, j.1),
              steps (code-step a r s item (insn.Op2 op x y) e f) (joined i.2 (steps mid (joined j.2 (steps (result (binary_result op u w) w v item.place s is) stays)))),
            )
        | inr other ↦ elim other [
          | inl passes ↦
              let j = k r s in
              let mid = passes.0 (In y r) item.place (cut u s) ∙ cut-same (λ (t : PeState). focused (code_at (In y r)) t) u s in (
                suc (i.0 + suc j.0),
                omega (arith, i.1, j.1),
                steps (code-step a r s item (insn.Op2 op x y) e f)
                    (joined i.2 (steps mid (subst (λ (d : Datum). CodeSteps g.code j.0 (focus_on (code_at (In y r)) s) (focus_on (value d) s)) passes.1 j.2))),
              )
          | inr decides ↦
              let mid = decides.0 (In y r) item.place (cut u s) ∙ cut-same (λ (t : PeState). focused (value u) t) u s ∙ ap (λ (d : Datum). goes (focus_on (value d) s)) decides.1 in (
                suc (i.0 + 1),
                (let l : 1 ≤ nodes q = nodes-some q in omega (arith, i.1, l)),
                steps (code-step a r s item (insn.Op2 op x y) e f) (joined i.2 (steps mid stays)),
              )
        ]
      ]

  -- a form that is no merge has its item
  abbrev Item : (d : List BinderKind) (k : ℕ) → Tree → PlainShape → ℕ → Type 0
  Item d k q t a = (item : PeItem) × (item_at g.code a ≡ Some item) × IsItemAt g.handed g.straight g.table g.code d k q t item

  -- in code that evaluates no node in one step
  pub code-evaluated : (none : (k : ℕ) → g.straight k ≡ every) (q : Tree) (v : Datum) (d : List BinderKind) (k a : ℕ) (t : PlainShape) → value_of q ≡ Some v → IsEntered g.straight [] 0 g.phrase d k q → Enters g.table g.code k t a →
      Evaluates a q v
  code-evaluated none (lit u at) v d k a t e node en =
      let f : u ≡ v = cc in
      let it : Item d k (lit u at) t a = g.right.right d k a (lit u at) t node en in
      lit-evaluates a at u v it.0 it.1 (insn-is g.handed g.table g.code (plain-insn g (none k) it.2.insn)) f
  code-evaluated none (unary op p at) v d k a t e node en =
      let x = unary-of op (value_of p) v e in
      let it : Item d k (unary op p at) t a = g.right.right d k a (unary op p at) t node en in
      let y = insn-is g.handed g.table g.code (plain-insn g (none k) it.2.insn) in
      unary-evaluates a y.0 op p at x.0 v it.0 it.1 y.2 x.2 (code-evaluated none p x.0 d (k + 1) y.0 _ x.1 (part-entered g.straight node (none k) (within_first is_entered)) y.1)
  code-evaluated none (binary op p q at) v d k a t e node en =
      let x = binary-of op (value_of p) (value_of q) v e in
      let it : Item d k (binary op p q at) t a = g.right.right d k a (binary op p q at) t node en in
      let y = insn-is g.handed g.table g.code (plain-insn g (none k) it.2.insn) in
      binary-evaluates a y.0 y.1 op p q at x.0 x.1 v it.0 it.1 y.4 x.4 (code-evaluated none p x.0 d (k + 1) y.0 _ x.2 (part-entered g.straight node (none k) (within_first is_entered)) y.2)
      (code-evaluated none q x.1 d (k + 1 + nodes p) y.1 _ x.3 (part-entered g.straight node (none k) (within_later (within_first is_entered))) y.3)
  code-evaluated none q v d k a t e node en = absurd cc
