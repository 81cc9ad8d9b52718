-- What the code has for a node: its entries, and the instruction of its form.
use Rattle.std.proofs.Common.{ℕ, ◌+◌, ◌≡◌, Bool, true, false, nat_eq, List, Option, Some, None, refl, sym, ap, ◌∙◌, ◌⊎◌, inl, inr, eq-eqb, eqb-true}
use Rattle.fy_base.specs.declared.data.Datum.{Datum}
use Rattle.fy_phrase.specs.declared.shapes.ShapeTable.{ShapeTable}
use Rattle.fy_phrase.specs.declared.shapes.Pair.{Pair}
use Rattle.fy_phrase.specs.Tree.{Tree, var, lit, unary, binary, cond as conditional, case, lam, app, field, sel, merge, let_in, rec, skip, seq, assign, while_do, forever, new, cells, escape, accept, put, read, mark}
use Rattle.fy_phrase.specs.Sizes.{nodes}
use Rattle.fy_derive.specs.Shapes.{PlainShape, at_end, a_call, a_field, a_value, an_assignment, a_run}
use Rattle.fy_derive.specs.ShapeTables.{shape_at, HasPairOf}
use Rattle.pe_code.specs.declared.code.PeInsn.{PeInsn}
use Rattle.pe_code.specs.declared.code.PeInsn.TheVariants as insn
use Rattle.pe_code.specs.declared.code.PeCode.{PeCode}
use Rattle.pe_code.specs.Code.{straight_of, entry_of}
use Rattle.pe_machine.specs.Step.{is_assignment, a_cell, a_length, asked_at}
use Rattle.pe_right.specs.Entered.{BinderKind, Entering, every, no_part}
use Rattle.pe_right.specs.Right.{is_variable, Enters, EachEnters, IsNumberOf, AreSequencesOf, IsFedOf, of_condition, of_test, of_assigned, of_output, IsInsnAt, by_parts, at_once, fed, IsInsnOf, of_var, of_lit, of_unary, of_binary, of_cond, of_case, of_lam, of_app, of_app_variable, of_app_datum, of_field, of_sel, of_let, of_let_variable, of_let_datum, of_rec, of_skip, of_seq, of_assign, of_while, of_forever, of_new, of_cells, of_escape, of_accept, of_put, of_read}
use Rattle.pe_right.proofs.Invariants.{Compiled}

-- ---- the instruction of a form

module _ (handed : Tree → Option Datum) (table : ShapeTable) (code : PeCode) where
  -- what the instruction of the form that is node k and is demanded at the shape is
  abbrev pub InsnIs : ℕ → Tree → PlainShape → PeInsn → Type 0
  InsnIs k (var j at) s i = (n : ℕ) × (shape_at table n ≡ Some s) × (i ≡ insn.UseVar j n)
  InsnIs k (lit v at) s i = i ≡ insn.Answer v
  InsnIs k (unary op p at) s i = (x : ℕ) × Enters table code (k + 1) (at_end a_value) x × (i ≡ insn.Op1 op x)
  InsnIs k (binary op p q at) s i =
      (x y : ℕ) × Enters table code (k + 1) (at_end a_value) x × Enters table code (k + 1 + nodes p) (at_end a_value) y × (i ≡ insn.Op2 op x y)
  InsnIs k (conditional b p q at) s i =
      (x y z : ℕ) × Enters table code (k + 1) (at_end a_value) x × Enters table code (k + 1 + nodes b) s y × Enters table code (k + 1 + nodes b + nodes p) s z
      × (i ≡ insn.Cond x y z)
  InsnIs k (case e parts at) s i =
      (x : ℕ) × (ys : List ℕ) × Enters table code (k + 1) (at_end a_value) x × EachEnters table code (k + 1 + nodes e) parts s ys × (i ≡ insn.Case x ys)
  InsnIs k (lam d As b at) s i = (y : ℕ) × (t : PlainShape) × (s ≡ a_call t) × Enters table code (k + 1) t y × (i ≡ insn.Bind y)
  InsnIs k (app p q at) s i =
      (y : ℕ) × Enters table code (k + 1) (a_call s) y
      × (((is_variable q ≡ None) × (i ≡ insn.Pass (k + 1 + nodes p) y)) ⊎ (((j : ℕ) × (is_variable q ≡ Some j) × (i ≡ insn.PassVar j y)) ⊎ ((v : Datum) × (handed q ≡ Some v) × (i ≡ insn.PassData v y))))
  InsnIs k (field f p at) s i = (x : ℕ) × (t : PlainShape) × (s ≡ a_field f t) × Enters table code (k + 1) t x × (i ≡ insn.Field f x)
  InsnIs k (sel p f at) s i = (x : ℕ) × Enters table code (k + 1) (a_field f s) x × (i ≡ insn.Pick f x)
  InsnIs k (merge p q at) s i = ⊥
  InsnIs k (let_in d p b at) s i =
      (y : ℕ) × Enters table code (k + 1 + nodes p) s y
      × (((is_variable p ≡ None) × (i ≡ insn.Let (k + 1) y)) ⊎ (((j : ℕ) × (is_variable p ≡ Some j) × (i ≡ insn.LetVar j y)) ⊎ ((v : Datum) × (handed p ≡ Some v) × (i ≡ insn.LetData v y))))
  InsnIs k (rec d T b at) s i = (y : ℕ) × Enters table code (k + 1) s y × (i ≡ insn.Knot k y)
  InsnIs k (skip at) s i = i ≡ insn.Done
  InsnIs k (seq p q at) s i =
      (x y : ℕ) × Enters table code (k + 1) (at_end a_run) x × Enters table code (k + 1 + nodes p) (at_end a_run) y × (i ≡ insn.Seq x y)
  InsnIs k (assign p q at) s i =
      (x y : ℕ) × Enters table code (k + 1) (at_end an_assignment) x × Enters table code (k + 1 + nodes p) (at_end a_value) y × (i ≡ insn.Assign x y)
  InsnIs k (while_do b c at) s i =
      (x y : ℕ) × Enters table code (k + 1) (at_end a_value) x × Enters table code (k + 1 + nodes b) (at_end a_run) y × (i ≡ insn.While x y)
  InsnIs k (forever c at) s i = (x : ℕ) × Enters table code (k + 1) (at_end a_run) x × (i ≡ insn.Loop x)
  InsnIs k (new d D e b at) s i =
      (x y : ℕ) × Enters table code (k + 1) (at_end a_value) x × Enters table code (k + 1 + nodes e) (at_end a_run) y × (i ≡ insn.New x y)
  InsnIs k (cells d e b at) s i =
      (x y : ℕ) × Enters table code (k + 1) (at_end a_value) x × Enters table code (k + 1 + nodes e) (at_end a_run) y × (i ≡ insn.Cells x y)
  InsnIs k (escape d b at) s i = (x : ℕ) × Enters table code (k + 1) (at_end a_run) x × (i ≡ insn.Escape x)
  InsnIs k (accept d D b at) s i = (x : ℕ) × Enters table code (k + 1) (at_end a_run) x × (i ≡ insn.Accept x)
  InsnIs k (put kind p at) s i = (x : ℕ) × Enters table code (k + 1) (at_end a_value) x × (i ≡ insn.Put kind x)
  InsnIs k (read p at) s i = (x : ℕ) × Enters table code (k + 1) (at_end an_assignment) x × (i ≡ insn.Read x)
  InsnIs k (mark m at) s i = ⊥

  pub insn-is : {k : ℕ} {q : Tree} {s : PlainShape} {i : PeInsn} → IsInsnOf handed table code k q s i → InsnIs k q s i
  insn-is (of_var {n = n} e) = (n, e, refl)
  insn-is of_lit = refl
  insn-is (of_unary {x = x} a) = (x, a, refl)
  insn-is (of_binary {x = x} {y = y} a b) = (x, y, a, b, refl)
  insn-is (of_cond {x = x} {y = y} {z = z} a b c) = (x, y, z, a, b, c, refl)
  insn-is (of_case {x = x} {ys = ys} a each) = (x, ys, a, each, refl)
  insn-is (of_lam {y = y} {s = s} a) = (y, s, refl, a, refl)
  insn-is (of_app {y = y} e h a) = (y, a, inl (e, refl))
  insn-is (of_app_variable {j = j} {y = y} e a) = (y, a, inr (inl (j, e, refl)))
  insn-is (of_app_datum {y = y} {v = v} h a) = (y, a, inr (inr (v, h, refl)))
  insn-is (of_field {x = x} {s = s} a) = (x, s, refl, a, refl)
  insn-is (of_sel {x = x} a) = (x, a, refl)
  insn-is (of_let {y = y} e h a) = (y, a, inl (e, refl))
  insn-is (of_let_variable {j = j} {y = y} e a) = (y, a, inr (inl (j, e, refl)))
  insn-is (of_let_datum {y = y} {v = v} h a) = (y, a, inr (inr (v, h, refl)))
  insn-is (of_rec {y = y} a) = (y, a, refl)
  insn-is of_skip = refl
  insn-is (of_seq {x = x} {y = y} a b) = (x, y, a, b, refl)
  insn-is (of_assign {x = x} {y = y} a b) = (x, y, a, b, refl)
  insn-is (of_while {x = x} {y = y} a b) = (x, y, a, b, refl)
  insn-is (of_forever {x = x} a) = (x, a, refl)
  insn-is (of_new {x = x} {y = y} a b) = (x, y, a, b, refl)
  insn-is (of_cells {x = x} {y = y} a b) = (x, y, a, b, refl)
  insn-is (of_escape {x = x} a) = (x, a, refl)
  insn-is (of_accept {x = x} a) = (x, a, refl)
  insn-is (of_put {x = x} a) = (x, a, refl)
  insn-is (of_read {x = x} a) = (x, a, refl)

-- ---- numbers of shapes

-- the number of a shape is found, and no other is taken for it
pub number-found : (table : ShapeTable) (o : Option ℕ) (s : PlainShape) (n : ℕ) → IsNumberOf table o s → shape_at table n ≡ Some s → is_assignment o n ≡ true
number-found table o s n h e = ap (λ (m : Option ℕ). is_assignment m n) ((h n).1 e) ∙ eq-eqb n n refl

pub number-other : (table : ShapeTable) (o : Option ℕ) (s t : PlainShape) (n : ℕ) → IsNumberOf table o s → shape_at table n ≡ Some t → (s ≡ t → ⊥) →
    is_assignment o n ≡ false
number-other table o s t n h e apart = by o refl
  where
    other : (m : ℕ) (b : Bool) → o ≡ Some m → nat_eq m n ≡ b → b ≡ false
    other m false is f = refl
    other m true is f =
        let same : m ≡ n = eqb-true m n f in
        let both : Some s ≡ Some t = sym ((h n).0 (is ∙ ap Some same)) ∙ e in
        let shape : s ≡ t = cc in
        absurd (apart shape)

    by : (m : Option ℕ) → o ≡ m → is_assignment m n ≡ false
    by None is = refl
    by (Some m) is = other m (nat_eq m n) is refl

-- what the shape of a cell of a sequence asks for, and that of the length
pub asked-read : (table : ShapeTable) (code : PeCode) (n : ℕ) → AreSequencesOf table code.sequences → shape_at table n ≡ Some (a_call (at_end a_value)) →
    asked_at code.sequences n ≡ a_cell false
asked-read table code n h e = rw (number-found table code.sequences.element (a_call (at_end a_value)) n h.element e) refl

pub asked-written : (table : ShapeTable) (code : PeCode) (n : ℕ) → AreSequencesOf table code.sequences → shape_at table n ≡ Some (a_call (at_end an_assignment)) →
    asked_at code.sequences n ≡ a_cell true
asked-written table code n h e = rw (
  number-other table code.sequences.element (a_call (at_end a_value)) (a_call (at_end an_assignment)) n h.element e (λ f. cc),
  number-found table code.sequences.assigned_element (a_call (at_end an_assignment)) n h.assigned_element e,
) refl

pub asked-length : (table : ShapeTable) (code : PeCode) (n : ℕ) → AreSequencesOf table code.sequences → shape_at table n ≡ Some (a_field 0 (at_end a_value)) →
    asked_at code.sequences n ≡ a_length
asked-length table code n h e = rw (
  number-other table code.sequences.element (a_call (at_end a_value)) (a_field 0 (at_end a_value)) n h.element e (λ f. cc),
  number-other table code.sequences.assigned_element (a_call (at_end an_assignment)) (a_field 0 (at_end a_value)) n h.assigned_element e (λ f. cc),
  number-found table code.sequences.row_length (a_field 0 (at_end a_value)) n h.row_length e,
) refl

-- ---- entries

-- the instruction of a form runs no straight code
pub form-plain : {handed : Tree → Option Datum} {table : ShapeTable} {code : PeCode} {k : ℕ} {q : Tree} {t : PlainShape} {i : PeInsn} → IsInsnOf handed table code k q t i → straight_of i ≡ None
form-plain (of_var e) = refl
form-plain of_lit = refl
form-plain (of_unary e) = refl
form-plain (of_binary e f) = refl
form-plain (of_cond e f h) = refl
form-plain (of_case e es) = refl
form-plain (of_lam e) = refl
form-plain (of_app n u e) = refl
form-plain (of_app_variable n e) = refl
form-plain (of_app_datum n e) = refl
form-plain (of_field e) = refl
form-plain (of_sel e) = refl
form-plain (of_let n u e) = refl
form-plain (of_let_variable n e) = refl
form-plain (of_let_datum n e) = refl
form-plain (of_rec e) = refl
form-plain of_skip = refl
form-plain (of_seq e f) = refl
form-plain (of_assign e f) = refl
form-plain (of_while e f) = refl
form-plain (of_forever e) = refl
form-plain (of_new e f) = refl
form-plain (of_cells e f) = refl
form-plain (of_escape e) = refl
form-plain (of_accept e) = refl
form-plain (of_put e) = refl
form-plain (of_read e) = refl

-- a form that is executed with a part has a part that isn't entered
pub fed-apart : {table : ShapeTable} {code : PeCode} {w : List BinderKind} {k : ℕ} {q : Tree} {t : PlainShape} {e : Entering} {i : PeInsn} → IsFedOf table code w k q t e i → e ≡ every → ⊥
fed-apart (of_condition p x y) same = cc
fed-apart (of_test p x) same = cc
fed-apart (of_assigned p x) same = cc
fed-apart (of_output p) same = cc

module _ (g : Compiled) where
  -- where a node isn't evaluated in one step, its instruction is that of its form
  pub plain-insn : {v : List BinderKind} {k : ℕ} {q : Tree} {t : PlainShape} {i : PeInsn} → g.straight k ≡ every → IsInsnAt g.handed g.straight g.table g.code v k q t i → IsInsnOf g.handed g.table g.code k q t i
  plain-insn plain (by_parts e h) = h
  plain-insn plain (at_once e h) = let f : no_part ≡ every = sym e ∙ plain in absurd cc
  plain-insn plain (fed e h) = absurd (fed-apart h (sym e ∙ plain))

  -- a pair of the table has an entry, whatever number its shape goes by
  pub entry-found : (k n : ℕ) (s : PlainShape) → HasPairOf g.table k s → shape_at g.table n ≡ Some s → (a : ℕ) × (entry_of g.code k n ≡ Some a)
  entry-found k n s h e =
      let once : h.pair.shape ≡ n = g.typed.pairs.sound.shapes_once h.pair.shape n s h.shape_is e in
      let is : h.pair ≡ record { node = k; shape = n } = named h.pair k n h.node_is once in
      (g.right.entries k n).0 (h.place, h.stands ∙ ap Some is)
    where
      named : (x : Pair) (k n : ℕ) → x.node ≡ k → x.shape ≡ n → x ≡ record { node = k; shape = n }
      named x k n e f = ap (λ (i : ℕ). record { node = i; shape = x.shape }) e ∙ ap (λ (i : ℕ). record { node = k; shape = i }) f

  -- the shape that asks for an assignment is found among the numbers, and no other is
  pub assignment-asked : (n : ℕ) → shape_at g.table n ≡ Some (at_end an_assignment) → is_assignment g.code.assignment n ≡ true
  assignment-asked n e = number-found g.table g.code.assignment (at_end an_assignment) n g.right.assignment e

  pub value-asked : (n : ℕ) → shape_at g.table n ≡ Some (at_end a_value) → is_assignment g.code.assignment n ≡ false
  value-asked n e = number-other g.table g.code.assignment (at_end an_assignment) (at_end a_value) n g.right.assignment e (λ f. cc)
