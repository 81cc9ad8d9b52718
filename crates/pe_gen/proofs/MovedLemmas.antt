-- What is known by where nodes are entered holds in all code with the same entries.
use Rattle.std.proofs.Common.{ℕ, ◌+◌, ◌≡◌, List, length, Option, sym, ap, ◌∙◌, subst, arith}
use Rattle.fy_base.specs.declared.data.Datum.{Datum}
use Rattle.fy_phrase.specs.declared.shapes.Pair.{Pair}
use Rattle.fy_phrase.specs.declared.shapes.ShapeTable.{ShapeTable}
use Rattle.fy_phrase.specs.Sizes.{nodes}
use Rattle.fy_phrase.specs.Tree.{Tree, Trees}
use Rattle.fy_derive.specs.Shapes.{PlainShape}
use Rattle.pe_code.specs.declared.code.Entry.{Entry}
use Rattle.pe_code.specs.declared.code.PeCode.{PeCode}
use Rattle.pe_code.specs.declared.code.PeInsn.{PeInsn}
use Rattle.pe_code.specs.Code.{address_in}
use Rattle.pe_code.specs.Entries.{AreInOrder}
use Rattle.pe_right.specs.Right.{Enters, EachEnters, no_parts, and_part, IsInsnOf, of_app, of_app_datum, of_let, of_let_datum, of_var, of_lit, of_unary, of_binary, of_cond, of_case, of_lam, of_app_variable, of_field, of_sel, of_let_variable, of_rec, of_skip, of_seq, of_assign, of_while, of_forever, of_new, of_cells, of_escape, of_accept, of_put, of_read}
use Rattle.pe_gen.specs.Layout.{IsOwn, IsLaidOut}

module _ (code made : PeCode) (entries : made.entries ≡ code.entries) where
  module _ (table : ShapeTable) where
    pub enters : (k : ℕ) {s : PlainShape} {a : ℕ} → Enters table code k s a → Enters table made k s a
    enters k e = (e.0, e.1, ap (λ (es : List Entry). address_in es k e.0) entries ∙ e.2)

    pub leaves : (k : ℕ) {s : PlainShape} {a : ℕ} → Enters table made k s a → Enters table code k s a
    leaves k e = (e.0, e.1, ap (λ (es : List Entry). address_in es k e.0) (sym entries) ∙ e.2)

    pub each : {k : ℕ} {ps : Trees} {s : PlainShape} {ys : List ℕ} → EachEnters table code k ps s ys → EachEnters table made k ps s ys
    each no_parts = no_parts
    each (and_part {k = k} e es) = and_part (enters k e) (each es)

    pub moved-insn : (handed : Tree → Option Datum) (k : ℕ) (q : Tree) (s : PlainShape) (i : PeInsn) → IsInsnOf handed table code k q s i → IsInsnOf handed table made k q s i
    moved-insn handed k q s i (of_var is) = of_var is
    moved-insn handed k q s i of_lit = of_lit
    moved-insn handed k q s i (of_unary e) = of_unary (enters (k + 1) e)
    moved-insn handed k q s i (of_binary {p = a} e f) = of_binary (enters (k + 1) e) (enters (k + 1 + nodes a) f)
    moved-insn handed k q s i (of_cond {b = b} {p = a} e f g) = of_cond (enters (k + 1) e) (enters (k + 1 + nodes b) f) (enters (k + 1 + nodes b + nodes a) g)
    moved-insn handed k q s i (of_case e es) = of_case (enters (k + 1) e) (each es)
    moved-insn handed k q s i (of_lam e) = of_lam (enters (k + 1) e)
    moved-insn handed k q s i (of_app plain unknown e) = of_app plain unknown (enters (k + 1) e)
    moved-insn handed k q s i (of_app_variable named e) = of_app_variable named (enters (k + 1) e)
    moved-insn handed k q s i (of_app_datum known e) = of_app_datum known (enters (k + 1) e)
    moved-insn handed k q s i (of_field e) = of_field (enters (k + 1) e)
    moved-insn handed k q s i (of_sel e) = of_sel (enters (k + 1) e)
    moved-insn handed k q s i (of_let {p = a} plain unknown e) = of_let plain unknown (enters (k + 1 + nodes a) e)
    moved-insn handed k q s i (of_let_variable {p = a} named e) = of_let_variable named (enters (k + 1 + nodes a) e)
    moved-insn handed k q s i (of_let_datum {p = a} known e) = of_let_datum known (enters (k + 1 + nodes a) e)
    moved-insn handed k q s i (of_rec e) = of_rec (enters (k + 1) e)
    moved-insn handed k q s i of_skip = of_skip
    moved-insn handed k q s i (of_seq {p = a} e f) = of_seq (enters (k + 1) e) (enters (k + 1 + nodes a) f)
    moved-insn handed k q s i (of_assign {p = a} e f) = of_assign (enters (k + 1) e) (enters (k + 1 + nodes a) f)
    moved-insn handed k q s i (of_while {b = b} e f) = of_while (enters (k + 1) e) (enters (k + 1 + nodes b) f)
    moved-insn handed k q s i (of_forever e) = of_forever (enters (k + 1) e)
    moved-insn handed k q s i (of_new {e = a} e f) = of_new (enters (k + 1) e) (enters (k + 1 + nodes a) f)
    moved-insn handed k q s i (of_cells {e = a} e f) = of_cells (enters (k + 1) e) (enters (k + 1 + nodes a) f)
    moved-insn handed k q s i (of_escape e) = of_escape (enters (k + 1) e)
    moved-insn handed k q s i (of_accept e) = of_accept (enters (k + 1) e)
    moved-insn handed k q s i (of_put e) = of_put (enters (k + 1) e)
    moved-insn handed k q s i (of_read e) = of_read (enters (k + 1) e)

  -- where pairs are entered is the same
  own-before : (p : Tree) (x : Pair) (a : ℕ) → IsOwn p made x a → IsOwn p code x a
  own-before p x a o = record { depth = o.depth; form = o.form; node = o.node; whole = o.whole; entered = ap (λ (es : List Entry). address_in es x.node x.shape) (sym entries) ∙ o.entered }

  own-after : (p : Tree) (x : Pair) (a : ℕ) → IsOwn p code x a → IsOwn p made x a
  own-after p x a o = record { depth = o.depth; form = o.form; node = o.node; whole = o.whole; entered = ap (λ (es : List Entry). address_in es x.node x.shape) entries ∙ o.entered }

  pub moved-layout : (p : Tree) → length made.items ≡ length code.items → IsLaidOut p code → IsLaidOut p made
  moved-layout p count h = record {
    each = λ a w. let x = h.each a (omega (arith, w, count)) in (x.0, own-after p x.0 a x.1);
    one = λ a x y o u. h.one a x y (own-before p x a o) (own-before p y a u);
    order = λ a b x y one l o u. h.order a b x y one l (own-before p x a o) (own-before p y b u);
    entries = subst AreInOrder (sym entries) h.entries;
  }
