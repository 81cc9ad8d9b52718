-- Right code stays right where constants are handed as data.
use Rattle.std.proofs.Common.{ℕ, ◌+◌, ◌≡◌, List, [], ◌∷◌, Option, Some, None, refl, sym, ap, ◌∙◌, subst, inl, inr}
use Rattle.fy_base.specs.declared.data.Datum.{Datum}
use Rattle.fy_phrase.specs.declared.shapes.ShapeTable.{ShapeTable}
use Rattle.fy_phrase.specs.Sizes.{nodes}
use Rattle.fy_phrase.specs.Tree.{Tree, Trees, merge}
use Rattle.fy_derive.specs.Shapes.{PlainShape}
use Rattle.pe_code.specs.declared.code.Entry.{Entry}
use Rattle.pe_code.specs.declared.code.PeInsn.{PeInsn}
use Rattle.pe_code.specs.declared.code.PeItem.{PeItem}
use Rattle.pe_code.specs.declared.code.PeCode.{PeCode}
use Rattle.pe_code.specs.Code.{item_at, address_in}
use Rattle.pe_right.specs.Constants.{constant, no_data}
use Rattle.pe_right.specs.Ahead.{KeepsAhead}
use Rattle.pe_right.specs.Follows.{FollowsCopyRule}
use Rattle.pe_right.specs.Entered.{none_straight}
use Rattle.pe_right.specs.Right.{IsNodeUnder, Enters, EachEnters, IsInsnOf, IsItemOf, AreSequencesOf, IsCodeOf, of_app, of_app_datum, of_let, of_let_datum, of_var, of_lit, of_unary, of_binary, of_cond, of_case, of_lam, of_app_variable, of_field, of_sel, of_let_variable, of_rec, of_skip, of_seq, of_assign, of_while, of_forever, of_new, of_cells, of_escape, of_accept, of_put, of_read}
use Rattle.pe_right.specs.Direct.{IsConstantAt, IsHanded, passed, bound, same, IsDirectOf}
use Rattle.pe_gen.specs.Generated.{IsGenerated}
use Rattle.pe_right.proofs.AheadLemmas.{keeps-ahead}
use Rattle.pe_right.proofs.RunLemmas.{follows}
use Rattle.pe_gen.proofs.Gets.{some_same, pair_second}
use Rattle.pe_gen.proofs.MovedLemmas.{enters as moved-enters, leaves as moved-leaves, each as moved-each}
use Rattle.pe_gen.proofs.NodeLists.{first-part, second-part, node-placed}
use Rattle.pe_gen.proofs.PlainLemmas.{IsPlainAt, plain-right, right-plain}

-- a number leads to one node
one_node : {d e k : ℕ} {p q r : Tree} → IsNodeUnder 0 0 p d k q → IsNodeUnder 0 0 p e k r → q ≡ r
one_node {d = d} {e = e} {q = q} {r = r} a b = let f : Some (d, q) ≡ Some (e, r) = sym (node-placed a) ∙ node-placed b in pair_second (some_same f)

-- what is no constant's node is of no constant
no_constant : {d k : ℕ} {p q : Tree} → IsNodeUnder 0 0 p d k q → ((v : Datum) → IsConstantAt p k v → ⊥) → constant q ≡ None
no_constant {d = d} {k = k} {p = p} {q = q} node none = by (constant q) refl
  where
    by : (o : Option Datum) → constant q ≡ o → constant q ≡ None
    by None e = e
    by (Some v) e = absurd (none v (record { depth = d; node = q; stands = node; value = e }))

module _ (p : Tree) (table : ShapeTable) (code made : PeCode) (direct : IsDirectOf p code made) where
  enters : (k : ℕ) {s : PlainShape} {a : ℕ} → Enters table code k s a → Enters table made k s a
  enters k e = moved-enters code made direct.entries table k e

  leaves : (k : ℕ) {s : PlainShape} {a : ℕ} → Enters table made k s a → Enters table code k s a
  leaves k e = moved-leaves code made direct.entries table k e

  each : {k : ℕ} {ps : Trees} {s : PlainShape} {ys : List ℕ} → EachEnters table code k ps s ys → EachEnters table made k ps s ys
  each es = moved-each code made direct.entries table es

  kept-insn : (d k : ℕ) (q : Tree) (s : PlainShape) (i j : PeInsn) → IsNodeUnder 0 0 p d k q → IsInsnOf no_data table code k q s i → IsHanded p i j → IsInsnOf constant table made k q s j
  kept-insn d k q s i j node (of_app {p = a} {q = b} plain unknown e) (passed c) =
      of_app_datum (ap constant (one_node (second-part {f = d} {g = d} [] node refl) c.stands) ∙ c.value) (enters (k + 1) e)
  kept-insn d k q s i j node (of_app {p = a} {q = b} plain unknown e) (same none) =
      of_app plain (no_constant (second-part {f = d} {g = d} [] node refl) (λ v c. none (k + 1 + nodes a) v refl c)) (enters (k + 1) e)
  kept-insn d k q s i j node (of_let {p = a} {b = b} plain unknown e) (bound c) =
      of_let_datum (ap constant (one_node (first-part {f = d} ((d + 1, b) ∷ []) node refl) c.stands) ∙ c.value) (enters (k + 1 + nodes a) e)
  kept-insn d k q s i j node (of_let {p = a} {b = b} plain unknown e) (same none) =
      of_let plain (no_constant (first-part {f = d} ((d + 1, b) ∷ []) node refl) (λ v c. none (k + 1) v refl c)) (enters (k + 1 + nodes a) e)
  kept-insn d k q s i j node (of_app_datum known e) h = absurd cc
  kept-insn d k q s i j node (of_let_datum known e) h = absurd cc
  kept-insn d k q s i j node (of_var is) (same none) = of_var is
  kept-insn d k q s i j node of_lit (same none) = of_lit
  kept-insn d k q s i j node (of_unary e) (same none) = of_unary (enters (k + 1) e)
  kept-insn d k q s i j node (of_binary {p = a} e f) (same none) = of_binary (enters (k + 1) e) (enters (k + 1 + nodes a) f)
  kept-insn d k q s i j node (of_cond {b = b} {p = a} e f g) (same none) = of_cond (enters (k + 1) e) (enters (k + 1 + nodes b) f) (enters (k + 1 + nodes b + nodes a) g)
  kept-insn d k q s i j node (of_case e es) (same none) = of_case (enters (k + 1) e) (each es)
  kept-insn d k q s i j node (of_lam e) (same none) = of_lam (enters (k + 1) e)
  kept-insn d k q s i j node (of_app_variable named e) (same none) = of_app_variable named (enters (k + 1) e)
  kept-insn d k q s i j node (of_field e) (same none) = of_field (enters (k + 1) e)
  kept-insn d k q s i j node (of_sel e) (same none) = of_sel (enters (k + 1) e)
  kept-insn d k q s i j node (of_let_variable {p = a} named e) (same none) = of_let_variable named (enters (k + 1 + nodes a) e)
  kept-insn d k q s i j node (of_rec e) (same none) = of_rec (enters (k + 1) e)
  kept-insn d k q s i j node of_skip (same none) = of_skip
  kept-insn d k q s i j node (of_seq {p = a} e f) (same none) = of_seq (enters (k + 1) e) (enters (k + 1 + nodes a) f)
  kept-insn d k q s i j node (of_assign {p = a} e f) (same none) = of_assign (enters (k + 1) e) (enters (k + 1 + nodes a) f)
  kept-insn d k q s i j node (of_while {b = b} e f) (same none) = of_while (enters (k + 1) e) (enters (k + 1 + nodes b) f)
  kept-insn d k q s i j node (of_forever e) (same none) = of_forever (enters (k + 1) e)
  kept-insn d k q s i j node (of_new {e = a} e f) (same none) = of_new (enters (k + 1) e) (enters (k + 1 + nodes a) f)
  kept-insn d k q s i j node (of_cells {e = a} e f) (same none) = of_cells (enters (k + 1) e) (enters (k + 1 + nodes a) f)
  kept-insn d k q s i j node (of_escape e) (same none) = of_escape (enters (k + 1) e)
  kept-insn d k q s i j node (of_accept e) (same none) = of_accept (enters (k + 1) e)
  kept-insn d k q s i j node (of_put e) (same none) = of_put (enters (k + 1) e)
  kept-insn d k q s i j node (of_read e) (same none) = of_read (enters (k + 1) e)

  abbrev Stands : (handed : Tree → Option Datum) (of : PeCode) (d k : ℕ) → Tree → PlainShape → ℕ → Type 0
  Stands handed of d k q s a = (item : PeItem) × (item_at of a ≡ Some item) × IsItemOf handed table of d k q s item

  kept-item : (q : Tree) (d k a : ℕ) (s : PlainShape) → IsNodeUnder 0 0 p d k q → Stands no_data code d k q s a → Stands constant made d k q s a
  kept-item q d k a s node h =
      let x = direct.items a h.0 h.1 in
      (x.0, x.1, record { insn = kept-insn d k q s h.0.insn x.0.insn node h.2.insn x.2.insn; depth = x.2.depth ∙ h.2.depth; place = x.2.place ∙ h.2.place })

  kept-right : (q : Tree) (d k a : ℕ) (s : PlainShape) → IsNodeUnder 0 0 p d k q → IsPlainAt no_data table code d k q s a → IsPlainAt constant table made d k q s a
  kept-right (merge l r at) d k a s node h = (h.0, h.1, elim h.2 [ inl x ↦ inl (x.0, enters (k + 1 + nodes l) x.1) | inr x ↦ inr (x.0, enters (k + 1) x.1) ])
  kept-right q d k a s node h = kept-item q d k a s node h

  pub code-kept : IsCodeOf no_data none_straight p table code → IsCodeOf constant none_straight p table made
  code-kept right = record {
    entries = λ k n.
        let e = right.entries k n in (
          λ h. let x = e.0 h in (x.0, ap (λ (es : List Entry). address_in es k n) direct.entries ∙ x.1),
          λ y. e.1 (y.0, ap (λ (es : List Entry). address_in es k n) (sym direct.entries) ∙ y.1),
        );
    program = enters 0 right.program;
    right = right-plain constant table made p (λ d k a q s node e. kept-right q d k a s node (plain-right no_data table code p right d k a q s node (leaves k e)));
    fits = λ w k q node. tt;
    shapes = direct.shapes ∙ right.shapes;
    assignment = λ n. let r = right.assignment n in (λ h. r.0 (sym direct.assignment ∙ h), λ h. direct.assignment ∙ r.1 h);
    sequences = subst (λ shapes. AreSequencesOf table shapes) (sym direct.sequences) right.sequences;
    thunks = direct.thunks ∙ right.thunks;
  }

-- so it follows the copy rule
pub direct-follows : (p : Tree) (code made : PeCode) → IsGenerated p code → IsDirectOf p code made → FollowsCopyRule constant p made
direct-follows p code made g direct = follows (record {
  phrase = p;
  table = g.table;
  code = made;
  closed = g.closed;
  depths = g.depths;
  typed = g.typed;
  handed = constant;
  straight = none_straight;
  constants = λ q v e. e;
  right = code-kept p g.table code made direct g.right;
})

-- and keeps ahead of the code given
pub direct-ahead : (p : Tree) (code made : PeCode) → IsGenerated p code → IsDirectOf p code made → KeepsAhead code made
direct-ahead p code made g direct =
    keeps-ahead (record {
      phrase = p;
      table = g.table;
      code = code;
      closed = g.closed;
      depths = g.depths;
      typed = g.typed;
      handed = no_data;
      straight = none_straight;
      constants = λ q v e. absurd cc;
      right = g.right;
    }) made direct (λ k. refl)
