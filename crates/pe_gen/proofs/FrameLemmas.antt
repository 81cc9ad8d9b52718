-- The frames that code makes are no deeper than the phrase's binders.
use Rattle.std.proofs.Common.{ℕ, ◌≤◌, max, List, [], ◌∷◌, length, ap, ◌∙◌, arith}
use Rattle.std.specs.Option.{ForSome}
use Rattle.fy_phrase.specs.declared.shapes.ShapeTable.{ShapeTable}
use Rattle.fy_phrase.specs.Sizes.{depth, all_depth}
use Rattle.fy_phrase.specs.Tree.{Tree, Trees, var, lit, unary, binary, cond, case, lam, app, field, sel, merge, let_in, rec, skip, seq, assign, while_do, forever, new, cells, escape, accept, put, read, mark, no_trees, and_tree}
use Rattle.fy_phrase.specs.WellMade.{HasDepthsUnder}
use Rattle.fy_derive.specs.Shapes.{PlainShape}
use Rattle.pe_code.specs.declared.code.PeCode.{PeCode}
use Rattle.pe_code.specs.declared.code.PeInsn.{PeInsn}
use Rattle.pe_code.specs.Code.{body_of}
use Rattle.pe_right.specs.Constants.{no_data}
use Rattle.pe_right.specs.Right.{with_depth, parts_under, IsNodeUnder, itself, in_part, IsNodeAmongUnder, in_first, in_later, IsInsnOf, of_var, of_lit, of_unary, of_binary, of_cond, of_case, of_lam, of_app, of_app_variable, of_app_datum, of_field, of_sel, of_let, of_let_variable, of_let_datum, of_rec, of_skip, of_seq, of_assign, of_while, of_forever, of_new, of_cells, of_escape, of_accept, of_put, of_read}
use Rattle.pe_gen.specs.Sizes.{HasSizesOf}
use Rattle.pe_gen.proofs.CodeLemmas.{IsMade, site-of}
use Rattle.pe_gen.proofs.ScopeLemmas.{node-scoped}
use Rattle.pe_gen.proofs.SoundLemmas.{All-from_gets}
use Rattle.pe_gen.proofs.ThunkLemmas.{length-thunk_nodes}

-- ---- a node's binders are no deeper than the phrase's

abbrev pub AreNoDeeper : ℕ → List (ℕ × Tree) → Type 0
AreNoDeeper n [] = Unit {0}
AreNoDeeper n (x ∷ xs) = (depth x.1 ≤ n) × AreNoDeeper n xs

all-no-deeper : (n d : ℕ) (ps : Trees) → all_depth ps ≤ n → AreNoDeeper n (with_depth d ps)
all-no-deeper n d no_trees h = tt
all-no-deeper n d (and_tree p ps) h = (omega arith, all-no-deeper n d ps (omega arith))

parts-no-deeper : (d : ℕ) (p : Tree) → AreNoDeeper (depth p) (parts_under d p)
parts-no-deeper d (var k at) = tt
parts-no-deeper d (lit v at) = tt
parts-no-deeper d (unary op p at) = (omega arith, tt)
parts-no-deeper d (binary op p q at) = (omega arith, (omega arith, tt))
parts-no-deeper d (cond b p q at) = (omega arith, (omega arith, (omega arith, tt)))
parts-no-deeper d (case e parts at) = (omega arith, all-no-deeper (max (depth e) (all_depth parts)) d parts (omega arith))
parts-no-deeper d (lam n As b at) = (omega arith, tt)
parts-no-deeper d (app p q at) = (omega arith, (omega arith, tt))
parts-no-deeper d (field i p at) = (omega arith, tt)
parts-no-deeper d (sel p i at) = (omega arith, tt)
parts-no-deeper d (merge p q at) = (omega arith, (omega arith, tt))
parts-no-deeper d (let_in n p b at) = (omega arith, (omega arith, tt))
parts-no-deeper d (rec n T b at) = (omega arith, tt)
parts-no-deeper d (skip at) = tt
parts-no-deeper d (seq p q at) = (omega arith, (omega arith, tt))
parts-no-deeper d (assign p q at) = (omega arith, (omega arith, tt))
parts-no-deeper d (while_do b c at) = (omega arith, (omega arith, tt))
parts-no-deeper d (forever c at) = (omega arith, tt)
parts-no-deeper d (new n D e b at) = (omega arith, (omega arith, tt))
parts-no-deeper d (cells n e b at) = (omega arith, (omega arith, tt))
parts-no-deeper d (escape n b at) = (omega arith, tt)
parts-no-deeper d (accept n D b at) = (omega arith, tt)
parts-no-deeper d (put kind p at) = (omega arith, tt)
parts-no-deeper d (read p at) = (omega arith, tt)
parts-no-deeper d (mark m at) = tt

mutual
  node-no-deeper : {d m e k : ℕ} {p q : Tree} → IsNodeUnder d m p e k q → depth q ≤ depth p
  node-no-deeper itself = omega arith
  node-no-deeper (in_part {d = d} {p = p} among) = among-no-deeper among (depth p) (parts-no-deeper d p)

  among-no-deeper : {m e k : ℕ} {ps : List (ℕ × Tree)} {q : Tree} → IsNodeAmongUnder m ps e k q → (n : ℕ) → AreNoDeeper n ps → depth q ≤ n
  among-no-deeper (in_first node) n h = omega (arith, node-no-deeper node, h.0)
  among-no-deeper (in_later among) n h = among-no-deeper among n h.1

-- ---- the frame that a form's item makes is that of its binder

module _ (table : ShapeTable) (code : PeCode) where
  frame-depth : (d k : ℕ) (q : Tree) (s : PlainShape) (o : PeInsn) → HasDepthsUnder d q → IsInsnOf no_data table code k q s o → ForSome (body_of o) (λ body. d ≤ depth q)
  frame-depth d k q s o h (of_var is) = λ x e. absurd cc
  frame-depth d k q s o h of_lit = λ x e. absurd cc
  frame-depth d k q s o h (of_unary ex) = λ x e. absurd cc
  frame-depth d k q s o h (of_binary ex ey) = λ x e. absurd cc
  frame-depth d k q s o h (of_cond ex ey ez) = λ x e. absurd cc
  frame-depth d k q s o h (of_case ex each) = λ x e. absurd cc
  frame-depth d k q s o h (of_lam ey) = λ body e. let at = h.0 in omega arith
  frame-depth d k q s o h (of_app plain none ey) = λ x e. absurd cc
  frame-depth d k q s o h (of_app_variable named ey) = λ x e. absurd cc
  frame-depth d k q s o h (of_app_datum known ey) = λ x e. absurd cc
  frame-depth d k q s o h (of_field ex) = λ x e. absurd cc
  frame-depth d k q s o h (of_sel ex) = λ x e. absurd cc
  frame-depth d k q s o h (of_let plain none ey) = λ body e. let at = h.0 in omega arith
  frame-depth d k q s o h (of_let_variable named ey) = λ body e. let at = h.0 in omega arith
  frame-depth d k q s o h (of_let_datum known ey) = λ body e. let at = h.0 in omega arith
  frame-depth d k q s o h (of_rec ey) = λ body e. let at = h.0 in omega arith
  frame-depth d k q s o h of_skip = λ x e. absurd cc
  frame-depth d k q s o h (of_seq ex ey) = λ x e. absurd cc
  frame-depth d k q s o h (of_assign ex ey) = λ x e. absurd cc
  frame-depth d k q s o h (of_while ex ey) = λ x e. absurd cc
  frame-depth d k q s o h (of_forever ex) = λ x e. absurd cc
  frame-depth d k q s o h (of_new ex ey) = λ body e. let at = h.0 in omega arith
  frame-depth d k q s o h (of_cells ex ey) = λ body e. let at = h.0 in omega arith
  frame-depth d k q s o h (of_escape ex) = λ body e. let at = h.0 in omega arith
  frame-depth d k q s o h (of_accept ex) = λ body e. let at = h.0 in omega arith
  frame-depth d k q s o h (of_put ex) = λ x e. absurd cc
  frame-depth d k q s o h (of_read ex) = λ x e. absurd cc

pub sizes-of : (p : Tree) (table : ShapeTable) (code : PeCode) → IsMade p table code → HasSizesOf p code
sizes-of p table code made = record {
  frames = All-from_gets (λ item. ForSome (body_of item.insn) (λ body. item.depth ≤ depth p)) code.items (λ i item at.
      let x = site-of p table code made i item at in
      let low = node-no-deeper x.node in
      let own = frame-depth table code x.depth x.site.node x.form x.shape item.insn (node-scoped x.node made.scoped).depths x.its.insn in
      λ body e. omega (arith, low, own body e, x.its.depth));
  thunk_nodes = ap length made.thunks ∙ length-thunk_nodes 0 p;
}
