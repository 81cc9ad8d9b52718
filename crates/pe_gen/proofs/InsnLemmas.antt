-- The instruction of each form, from where its parts are entered.
use Rattle.std.proofs.Common.{ℕ, ◌+◌, ◌≡◌, List, [], ◌∷◌, Some, None, refl, ap, sym, ◌∙◌, subst}
use Rattle.fy_base.specs.declared.data.Place.{Place}
use Rattle.fy_base.specs.declared.data.Datum.{Datum}
use Rattle.fy_base.specs.declared.data.UnOp.{UnOp}
use Rattle.fy_base.specs.declared.data.BinOp.{BinOp}
use Rattle.fy_base.specs.declared.data.PutKind.{PutKind}
use Rattle.fy_types.specs.Types.{PlainType, PlainTypes}
use Rattle.fy_phrase.specs.declared.phrase.DataTy.{DataTy}
use Rattle.fy_phrase.specs.declared.phrase.MarkKind.{MarkKind}
use Rattle.fy_phrase.specs.declared.phrase.Phrase as form
use Rattle.fy_phrase.specs.declared.phrase.Phrase.{Phrase, fold-roll-Phrase}
use Rattle.fy_phrase.specs.declared.phrase.Phrase.TheOpen.{Phrase-F}
use Rattle.fy_phrase.specs.declared.phrase.Phrase.TheVariants.{rolls-Lit, rolls-Skip, rolls-Mark}
use Rattle.fy_phrase.specs.Reads.{reads, reads_form, reads_list}
use Rattle.fy_phrase.specs.Sizes.{nodes}
use Rattle.fy_phrase.specs.Tree.{Tree, Trees, no_trees, and_tree, var, lit, unary, binary, cond, case, lam, app, field, sel, let_in, rec, skip, seq, assign, while_do, forever, new, cells, escape, accept, put, read, mark}
use Rattle.fy_derive.specs.Shapes.{PlainShape, at_end, a_call, a_field, a_value, an_assignment, a_run}
use Rattle.fy_derive.specs.ShapeTables.{shape_at}
use Rattle.pe_code.specs.declared.code.PeCode.{PeCode}
use Rattle.pe_code.specs.declared.code.PeInsn.{PeInsn}
use Rattle.pe_code.specs.declared.code.PeInsn.TheVariants as insn
use Rattle.pe_code.specs.Code.{address_in}
use Rattle.pe_gen.specs.declared.plan.Plan.{Plan}
use Rattle.pe_gen.specs.Plan.{IsEntered, AsksParts, IsInsnIn, EachEntersIn}
use Rattle.pe_right.specs.Right.{is_variable, Enters, no_parts, and_part, of_var, of_lit, of_unary, of_binary, of_cond, of_case, of_lam, of_app, of_app_variable, of_field, of_sel, of_let, of_let_variable, of_rec, of_skip, of_seq, of_assign, of_while, of_forever, of_new, of_cells, of_escape, of_accept, of_put, of_read}

module _ (plan : Plan) (k : ℕ) where
  -- in the plan, node j is entered at the shape at the address
  abbrev pub In : ℕ → PlainShape → ℕ → Type 0
  In j s a = IsEntered plan.table.now plan.entries j s a

  -- and so it is in code with the plan's entries
  enters : (j i : ℕ) (s : PlainShape) (a : ℕ) → j ≡ i → In j s a → (code : PeCode) → code.entries ≡ plan.entries → Enters plan.table.now code i s a
  enters j i s a e x code same =
      (x.0, x.1, ap (λ es. address_in es i x.0) same ∙ subst (λ m. address_in plan.entries m x.0 ≡ Some a) e x.2)

  pub var-insn : (j n : ℕ) (at : Place) (s : PlainShape) → shape_at plan.table.now n ≡ Some s → IsInsnIn plan k (var j at) s (insn.UseVar j n)
  var-insn j n at s is = λ code same. of_var is

  pub lit-insn : (v : Datum) (at : Place) (s : PlainShape) → IsInsnIn plan k (lit v at) s (insn.Answer v)
  lit-insn v at s = λ code same. of_lit

  pub unary-insn : (op : UnOp) (p : Tree) (at : Place) (s : PlainShape) (x : ℕ) → In (k + 1) (at_end a_value) x → IsInsnIn plan k (unary op p at) s (insn.Op1 op x)
  unary-insn op p at s x a = λ code same. of_unary (enters (k + 1) (k + 1) (at_end a_value) x refl a code same)

  pub binary-insn : (op : BinOp) (p q : Tree) (at : Place) (s : PlainShape) (j x y : ℕ) → j ≡ k + 1 + nodes p → In (k + 1) (at_end a_value) x → In j (at_end a_value) y →
      IsInsnIn plan k (binary op p q at) s (insn.Op2 op x y)
  binary-insn op p q at s j x y e a b = λ code same. of_binary (enters (k + 1) (k + 1) (at_end a_value) x refl a code same) (enters j _ (at_end a_value) y e b code same)

  pub cond-insn : (b p q : Tree) (at : Place) (s : PlainShape) (i j x y z : ℕ) → i ≡ k + 1 + nodes b → j ≡ i + nodes p → In (k + 1) (at_end a_value) x → In i s y → In j s z →
      IsInsnIn plan k (cond b p q at) s (insn.Cond x y z)
  cond-insn b p q at s i j x y z e f a c d = λ code same.
      of_cond (enters (k + 1) (k + 1) (at_end a_value) x refl a code same) (enters i _ s y e c code same) (enters j _ s z (f ∙ ap (λ m. m + nodes p) e) d code same)

  pub case-insn : (e : Tree) (parts : Trees) (at : Place) (s : PlainShape) (j x : ℕ) (ys : List ℕ) → j ≡ k + 1 + nodes e → In (k + 1) (at_end a_value) x → EachEntersIn plan j parts s ys →
      IsInsnIn plan k (case e parts at) s (insn.Case x ys)
  case-insn e parts at s j x ys f a b = λ code same.
      of_case (enters (k + 1) (k + 1) (at_end a_value) x refl a code same) (subst (λ m. EachEntersIn plan m parts s ys) f b code same)

  pub lam-insn : (d : ℕ) (As : PlainTypes) (b : Tree) (at : Place) (s t : PlainShape) (y : ℕ) → s ≡ a_call t → In (k + 1) t y → IsInsnIn plan k (lam d As b at) s (insn.Bind y)
  lam-insn d As b at s t y e a = subst (λ u. IsInsnIn plan k (lam d As b at) u (insn.Bind y)) (sym e) (λ code same. of_lam (enters (k + 1) (k + 1) t y refl a code same))

  pub app-insn : (p q : Tree) (at : Place) (s : PlainShape) (j y : ℕ) → is_variable q ≡ None → j ≡ k + 1 + nodes p → In (k + 1) (a_call s) y →
      IsInsnIn plan k (app p q at) s (insn.Pass j y)
  app-insn p q at s j y v e a =
      subst (λ m. IsInsnIn plan k (app p q at) s (insn.Pass m y)) (sym e) (λ code same. of_app v refl (enters (k + 1) (k + 1) (a_call s) y refl a code same))

  pub app-variable-insn : (p q : Tree) (at : Place) (s : PlainShape) (j y : ℕ) → is_variable q ≡ Some j → In (k + 1) (a_call s) y →
      IsInsnIn plan k (app p q at) s (insn.PassVar j y)
  app-variable-insn p q at s j y v a = λ code same. of_app_variable v (enters (k + 1) (k + 1) (a_call s) y refl a code same)

  pub field-insn : (i : ℕ) (p : Tree) (at : Place) (s t : PlainShape) (x : ℕ) → s ≡ a_field i t → In (k + 1) t x → IsInsnIn plan k (field i p at) s (insn.Field i x)
  field-insn i p at s t x e a = subst (λ u. IsInsnIn plan k (field i p at) u (insn.Field i x)) (sym e) (λ code same. of_field (enters (k + 1) (k + 1) t x refl a code same))

  pub sel-insn : (p : Tree) (i : ℕ) (at : Place) (s : PlainShape) (x : ℕ) → In (k + 1) (a_field i s) x → IsInsnIn plan k (sel p i at) s (insn.Pick i x)
  sel-insn p i at s x a = λ code same. of_sel (enters (k + 1) (k + 1) (a_field i s) x refl a code same)

  pub let-insn : (d : ℕ) (p b : Tree) (at : Place) (s : PlainShape) (j y : ℕ) → is_variable p ≡ None → j ≡ k + 1 + nodes p → In j s y →
      IsInsnIn plan k (let_in d p b at) s (insn.Let (k + 1) y)
  let-insn d p b at s j y v e a = λ code same. of_let v refl (enters j _ s y e a code same)

  pub let-variable-insn : (d : ℕ) (p b : Tree) (at : Place) (s : PlainShape) (i j y : ℕ) → is_variable p ≡ Some i → j ≡ k + 1 + nodes p → In j s y →
      IsInsnIn plan k (let_in d p b at) s (insn.LetVar i y)
  let-variable-insn d p b at s i j y v e a = λ code same. of_let_variable v (enters j _ s y e a code same)

  pub rec-insn : (d : ℕ) (T : PlainType) (b : Tree) (at : Place) (s : PlainShape) (y : ℕ) → In (k + 1) s y → IsInsnIn plan k (rec d T b at) s (insn.Knot k y)
  rec-insn d T b at s y a = λ code same. of_rec (enters (k + 1) (k + 1) s y refl a code same)

  pub skip-insn : (at : Place) (s : PlainShape) → IsInsnIn plan k (skip at) s insn.Done
  skip-insn at s = λ code same. of_skip

  pub seq-insn : (p q : Tree) (at : Place) (s : PlainShape) (j x y : ℕ) → j ≡ k + 1 + nodes p → In (k + 1) (at_end a_run) x → In j (at_end a_run) y →
      IsInsnIn plan k (seq p q at) s (insn.Seq x y)
  seq-insn p q at s j x y e a b = λ code same. of_seq (enters (k + 1) (k + 1) (at_end a_run) x refl a code same) (enters j _ (at_end a_run) y e b code same)

  pub assign-insn : (p q : Tree) (at : Place) (s : PlainShape) (j x y : ℕ) → j ≡ k + 1 + nodes p → In (k + 1) (at_end an_assignment) x → In j (at_end a_value) y →
      IsInsnIn plan k (assign p q at) s (insn.Assign x y)
  assign-insn p q at s j x y e a b = λ code same. of_assign (enters (k + 1) (k + 1) (at_end an_assignment) x refl a code same) (enters j _ (at_end a_value) y e b code same)

  pub while-insn : (b c : Tree) (at : Place) (s : PlainShape) (j x y : ℕ) → j ≡ k + 1 + nodes b → In (k + 1) (at_end a_value) x → In j (at_end a_run) y →
      IsInsnIn plan k (while_do b c at) s (insn.While x y)
  while-insn p q at s j x y e a b = λ code same. of_while (enters (k + 1) (k + 1) (at_end a_value) x refl a code same) (enters j _ (at_end a_run) y e b code same)

  pub forever-insn : (c : Tree) (at : Place) (s : PlainShape) (x : ℕ) → In (k + 1) (at_end a_run) x → IsInsnIn plan k (forever c at) s (insn.Loop x)
  forever-insn c at s x a = λ code same. of_forever (enters (k + 1) (k + 1) (at_end a_run) x refl a code same)

  pub new-insn : (d : ℕ) (D : DataTy) (e b : Tree) (at : Place) (s : PlainShape) (j x y : ℕ) → j ≡ k + 1 + nodes e → In (k + 1) (at_end a_value) x → In j (at_end a_run) y →
      IsInsnIn plan k (new d D e b at) s (insn.New x y)
  new-insn d D p q at s j x y e a b = λ code same. of_new (enters (k + 1) (k + 1) (at_end a_value) x refl a code same) (enters j _ (at_end a_run) y e b code same)

  pub cells-insn : (d : ℕ) (e b : Tree) (at : Place) (s : PlainShape) (j x y : ℕ) → j ≡ k + 1 + nodes e → In (k + 1) (at_end a_value) x → In j (at_end a_run) y →
      IsInsnIn plan k (cells d e b at) s (insn.Cells x y)
  cells-insn d p q at s j x y e a b = λ code same. of_cells (enters (k + 1) (k + 1) (at_end a_value) x refl a code same) (enters j _ (at_end a_run) y e b code same)

  pub escape-insn : (d : ℕ) (b : Tree) (at : Place) (s : PlainShape) (x : ℕ) → In (k + 1) (at_end a_run) x → IsInsnIn plan k (escape d b at) s (insn.Escape x)
  escape-insn d b at s x a = λ code same. of_escape (enters (k + 1) (k + 1) (at_end a_run) x refl a code same)

  pub accept-insn : (d : ℕ) (D : DataTy) (b : Tree) (at : Place) (s : PlainShape) (x : ℕ) → In (k + 1) (at_end a_run) x → IsInsnIn plan k (accept d D b at) s (insn.Accept x)
  accept-insn d D b at s x a = λ code same. of_accept (enters (k + 1) (k + 1) (at_end a_run) x refl a code same)

  pub put-insn : (kind : PutKind) (p : Tree) (at : Place) (s : PlainShape) (x : ℕ) → In (k + 1) (at_end a_value) x → IsInsnIn plan k (put kind p at) s (insn.Put kind x)
  put-insn kind p at s x a = λ code same. of_put (enters (k + 1) (k + 1) (at_end a_value) x refl a code same)

  pub read-insn : (p : Tree) (at : Place) (s : PlainShape) (x : ℕ) → In (k + 1) (at_end an_assignment) x → IsInsnIn plan k (read p at) s (insn.Read x)
  read-insn p at s x a = λ code same. of_read (enters (k + 1) (k + 1) (at_end an_assignment) x refl a code same)

-- ---- parts

pub no-addresses : (plan : Plan) (k : ℕ) (s : PlainShape) → EachEntersIn plan k no_trees s []
no-addresses plan k s = λ code same. no_parts

pub one-address : (plan : Plan) (k j : ℕ) (p : Tree) (ps : Trees) (s : PlainShape) (y : ℕ) (ys : List ℕ) → j ≡ k + nodes p → IsEntered plan.table.now plan.entries k s y →
    EachEntersIn plan j ps s ys → EachEntersIn plan k (and_tree p ps) s (y ∷ ys)
one-address plan k j p ps s y ys e a b = λ code same.
    and_part (enters plan k k k s y refl a code same) (subst (λ m. EachEntersIn plan m ps s ys) e b code same)

-- ---- forms

-- what a form asks of its parts, by what it is read as
pub form-asks : (plan : Plan) (k n : ℕ) (q r : Tree) → q ≡ r → (asked : (s : PlainShape) × (shape_at plan.table.now n ≡ Some s) × AsksParts plan k q s) →
    AsksParts plan k r asked.0
form-asks plan k n q r e asked = subst (λ t. AsksParts plan k t asked.0) e asked.2

-- and its instruction
pub form-insn : (plan : Plan) (k : ℕ) (q r : Tree) (s : PlainShape) (o : PeInsn) → q ≡ r → IsInsnIn plan k r s o → IsInsnIn plan k q s o
form-insn plan k q r s o e its = subst (λ t. IsInsnIn plan k t s o) (sym e) its

pub Lit-tree : (p : Phrase) (v : Datum) (at : Place) → p ≡ form.Lit v at → reads p ≡ lit v at
Lit-tree p v at e = rw e (ap reads (sym (rolls-Lit v at)) ∙ fold-roll-Phrase Tree Trees reads_form reads_list (Phrase-F.Lit v at))

pub Skip-tree : (p : Phrase) (at : Place) → p ≡ form.Skip at → reads p ≡ skip at
Skip-tree p at e = rw e (ap reads (sym (rolls-Skip at)) ∙ fold-roll-Phrase Tree Trees reads_form reads_list (Phrase-F.Skip at))

pub Mark-tree : (p : Phrase) (m : MarkKind) (at : Place) → p ≡ form.Mark m at → reads p ≡ mark m at
Mark-tree p m at e = rw e (ap reads (sym (rolls-Mark m at)) ∙ fold-roll-Phrase Tree Trees reads_form reads_list (Phrase-F.Mark m at))
