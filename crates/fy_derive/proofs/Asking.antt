-- What a context asks for first is what its path begins with. So a phrase meets a context that fits it, and of a merge the operand is
-- taken that answers.
use Rattle.std.proofs.Common.{ℕ, ◌≡◌, Bool, true, false, ◌==◌, List, [], ◌∷◌, Some, refl, sym, ap, ◌∙◌, ◌⊎◌, inl, inr, eq-eqb}
use Rattle.fy_base.specs.declared.data.Datum.{Datum}
use Rattle.fy_base.specs.declared.data.Datum.TheVariants as datum
use Rattle.fy_base.specs.declared.data.UnOp.{UnOp}
use Rattle.fy_base.specs.declared.data.UnOp.TheVariants.{Neg, Not, Ord, Chr}
use Rattle.fy_base.specs.declared.data.PutKind.{PutKind}
use Rattle.fy_base.specs.declared.data.PutKind.TheVariants as put_kind
use Rattle.fy_types.specs.declared.types.Atom.{Atom}
use Rattle.fy_types.specs.declared.types.Atom.TheVariants as atoms
use Rattle.fy_types.specs.Paths.{PlainPath, PlainPaths, end, call, pick}
use Rattle.fy_phrase.specs.declared.phrase.DataTy.{DataTy}
use Rattle.fy_phrase.specs.declared.phrase.DataTy.TheVariants as data_type
use Rattle.fy_phrase.specs.Tree.{Tree, lam, field, accept}
use Rattle.fy_phrase.specs.Contexts.{CopyContext, op_1, op_l, op_r, if_c, case_c, arg_c, pick_c, then_c, assign_c, store_c, while_c, body_c, loop_c, new_c, drop_c, put_c, esc_c, cells_c, fill_c, element_c, Pushed}
use Rattle.fy_phrase.specs.Copy.{demands, demanded}
use Rattle.fy_derive.specs.Atoms.{data_atom, acceptor_atom, datum_atom, operand_atom, put_atom, is_command, is_acceptor}
use Rattle.fy_derive.specs.Kinds.{Kind, of_call, of_field, of_assignment, kind_of, begins}
use Rattle.fy_derive.specs.Shapes.{EndShape, a_value, an_assignment, a_run, end_shape}
use Rattle.fy_derive.proofs.PathTyping.{World, IsRun, Answers}
use Rattle.fy_derive.proofs.StateTyping.{Takes, AllTake}

-- what is asked for first: a call, a field, or an end
pub data Asked : Type 0 where
  for_call : Asked
  for_field : ℕ → Asked
  for_end : EndShape → Asked

abbrev pub first_asked : PlainPath → Asked
first_asked (end a) = for_end (end_shape a)
first_asked (call D p) = for_call
first_asked (pick i p) = for_field i

abbrev pub asked_by : CopyContext → Asked
asked_by (op_1 op at) = for_end a_value
asked_by (op_l op q at) = for_end a_value
asked_by (op_r op u at) = for_end a_value
asked_by (if_c p q) = for_end a_value
asked_by (case_c parts at) = for_end a_value
asked_by (arg_c q) = for_call
asked_by (pick_c i) = for_field i
asked_by (then_c q) = for_end a_run
asked_by (assign_c p) = for_end a_value
asked_by (store_c v) = for_end an_assignment
asked_by (while_c loop c) = for_end a_value
asked_by (body_c loop) = for_end a_run
asked_by (loop_c loop) = for_end a_run
asked_by (new_c d b) = for_end a_value
asked_by (drop_c n) = for_end a_run
asked_by (put_c kind) = for_end a_value
asked_by (esc_c n) = for_end a_run
asked_by (cells_c d b at) = for_end a_value
asked_by (fill_c n v d b at) = for_end a_value
asked_by (element_c n) = for_end a_value

-- ---- the shapes of ends

pub data_atom-shape : (D : DataTy) → end_shape (data_atom D) ≡ a_value
data_atom-shape data_type.Int = refl
data_atom-shape data_type.Bool = refl
data_atom-shape data_type.Char = refl

pub acceptor_atom-shape : (D : DataTy) → end_shape (acceptor_atom D) ≡ an_assignment
acceptor_atom-shape data_type.Int = refl
acceptor_atom-shape data_type.Bool = refl
acceptor_atom-shape data_type.Char = refl

pub datum_atom-shape : (v : Datum) → end_shape (datum_atom v) ≡ a_value
datum_atom-shape (datum.Int n) = refl
datum_atom-shape (datum.Bool b) = refl
datum_atom-shape (datum.Char c) = refl

pub operand_atom-shape : (op : UnOp) → end_shape (operand_atom op) ≡ a_value
operand_atom-shape Neg = refl
operand_atom-shape Not = refl
operand_atom-shape Ord = refl
operand_atom-shape Chr = refl

pub put_atom-shape : (kind : PutKind) → end_shape (put_atom kind) ≡ a_value
put_atom-shape put_kind.Int = refl
put_atom-shape put_kind.Char = refl
put_atom-shape put_kind.Bool = refl

pub command-shape : (R : Atom) → is_command R ≡ true → end_shape R ≡ a_run
command-shape atoms.Comm e = refl
command-shape atoms.Compl e = refl
command-shape R e = absurd cc

-- a path that ends at once
end_asked : (P : PlainPath) (a : Atom) (s : EndShape) → P ≡ end a → end_shape a ≡ s → first_asked P ≡ for_end s
end_asked P a s e f = ap (λ Q. first_asked Q) e ∙ ap for_end f

pub value_asked : (D : DataTy) {P : PlainPath} → P ≡ end (data_atom D) → first_asked P ≡ for_end a_value
value_asked D {P} e = end_asked P (data_atom D) a_value e (data_atom-shape D)

pub datum_asked : (v : Datum) {P : PlainPath} → P ≡ end (datum_atom v) → first_asked P ≡ for_end a_value
datum_asked v {P} e = end_asked P (datum_atom v) a_value e (datum_atom-shape v)

pub assignment_asked : (D : DataTy) {P : PlainPath} → P ≡ end (acceptor_atom D) → first_asked P ≡ for_end an_assignment
assignment_asked D {P} e = end_asked P (acceptor_atom D) an_assignment e (acceptor_atom-shape D)

pub run_asked : {P : PlainPath} → IsRun P → first_asked P ≡ for_end a_run
run_asked {P} (R, is, e) = end_asked P R a_run e (command-shape R is)

pub command_asked : {P : PlainPath} → P ≡ end atoms.Comm → first_asked P ≡ for_end a_run
command_asked {P} e = end_asked P atoms.Comm a_run e refl

-- ---- contexts

pub Takes-asked : (rest : World → PlainPath → Type 0) (W : World) (P : PlainPath) (x : CopyContext) → Takes rest W P x → first_asked P ≡ asked_by x
Takes-asked rest W P (op_1 op at) t = end_asked P (operand_atom op) a_value t.0 (operand_atom-shape op)
Takes-asked rest W P (op_l op q at) t = value_asked t.0 t.2
Takes-asked rest W P (op_r op u at) t = value_asked t.0 t.2
Takes-asked rest W P (if_c p q) t = value_asked data_type.Bool t.0
Takes-asked rest W P (case_c parts at) t = value_asked data_type.Int t.0
Takes-asked rest W P (arg_c q) t = ap (λ Q. first_asked Q) t.2
Takes-asked rest W P (pick_c i) t = ap (λ Q. first_asked Q) t.1
Takes-asked rest W P (then_c q) t = command_asked t.0
Takes-asked rest W P (assign_c p) t = value_asked t.0 t.1
Takes-asked rest W P (store_c v) t = assignment_asked t.0 t.1
Takes-asked rest W P (while_c loop c) t = value_asked data_type.Bool t.0
Takes-asked rest W P (body_c loop) t = command_asked t.0
Takes-asked rest W P (loop_c loop) t = command_asked t.0
Takes-asked rest W P (new_c d b) t = value_asked t.0 t.1
Takes-asked rest W P (drop_c n) t = run_asked t.3
Takes-asked rest W P (put_c kind) t = end_asked P (put_atom kind) a_value t.0 (put_atom-shape kind)
Takes-asked rest W P (esc_c n) t = command_asked t.2
Takes-asked rest W P (cells_c d b at) t = value_asked data_type.Int t.0
Takes-asked rest W P (fill_c n v d b at) t = absurd t
Takes-asked rest W P (element_c n) t = value_asked data_type.Int t.1

-- ---- merges

-- whether what is asked for is of the kind
abbrev pub is_of : Kind → Asked → Bool
is_of of_call for_call = true
is_of of_call a = false
is_of (of_field i) (for_field j) = i == j
is_of (of_field i) a = false
is_of of_assignment (for_end an_assignment) = true
is_of of_assignment a = false

acceptor-is_of : (a : Atom) → is_acceptor a ≡ is_of of_assignment (for_end (end_shape a))
acceptor-is_of atoms.Int = refl
acceptor-is_of a = refl

pub begins-is_of : (k : Kind) (P : PlainPath) → begins k P ≡ is_of k (first_asked P)
begins-is_of of_call (end a) = refl
begins-is_of of_call (call D p) = refl
begins-is_of of_call (pick i p) = refl
begins-is_of (of_field i) (end a) = refl
begins-is_of (of_field i) (call D p) = refl
begins-is_of (of_field i) (pick j p) = refl
begins-is_of of_assignment (end a) = acceptor-is_of a
begins-is_of of_assignment (call D p) = refl
begins-is_of of_assignment (pick i p) = refl

-- a context demands the right operand where it asks for its kind
demands-is_of : (x : CopyContext) (q : Tree) (k : Kind) → kind_of q ≡ Some k → demands x q ≡ is_of k (asked_by x)
demands-is_of (arg_c a) (lam d As b at) k e = let f : of_call ≡ k = cc in ap (λ j. is_of j for_call) f
demands-is_of (pick_c j) (field i p at) k e = let f : of_field i ≡ k = cc in ap (λ j'. is_of j' (for_field j)) f
demands-is_of (store_c v) (accept d D b at) k e = let f : of_assignment ≡ k = cc in ap (λ j. is_of j (for_end an_assignment)) f
demands-is_of x (lam d As b at) k e = let f : of_call ≡ k = cc in ap (λ j. is_of j (asked_by x)) f
demands-is_of x (field i p at) k e = let f : of_field i ≡ k = cc in ap (λ j. is_of j (asked_by x)) f
demands-is_of x (accept d D b at) k e = let f : of_assignment ≡ k = cc in ap (λ j. is_of j (asked_by x)) f
demands-is_of x q k e = absurd cc

-- a right operand answers only what begins with its kind
kind-begins : (q : Tree) (k : Kind) (W : World) (G : List PlainPaths) (P : PlainPath) → kind_of q ≡ Some k → Answers W G q P → begins k P ≡ true
kind-begins (lam d As b at) k W G P e h = let f : of_call ≡ k = cc in ap (λ j. begins j P) (sym f) ∙ ap (λ Q. begins of_call Q) h.2
kind-begins (field i p at) k W G P e h =
    let f : of_field i ≡ k = cc in ap (λ j. begins j P) (sym f) ∙ ap (λ Q. begins (of_field i) Q) h.1 ∙ eq-eqb i i refl
kind-begins (accept d D b at) k W G P e h =
    let f : of_assignment ≡ k = cc in
    ap (λ j. begins j P) (sym f) ∙ begins-is_of of_assignment P ∙ ap (λ a. is_of of_assignment a) (assignment_asked D h.0)
kind-begins q k W G P e h = absurd cc

run_begins : (k : Kind) {P : PlainPath} → IsRun P → begins k P ≡ false
run_begins k {P} is = begins-is_of k P ∙ ap (λ a. is_of k a) (run_asked is) ∙ run_is_of k
  where
    run_is_of : (k : Kind) → is_of k (for_end a_run) ≡ false
    run_is_of of_call = refl
    run_is_of (of_field i) = refl
    run_is_of of_assignment = refl

-- the operand that is taken answers the path
pub demanded-answers : (p q : Tree) (cs : List (Pushed CopyContext)) (W : World) (P : PlainPath) (k : Kind) → kind_of q ≡ Some k →
    (((begins k P ≡ false) × Answers W [] p P) ⊎ Answers W [] q P) → AllTake W P cs → Answers W [] (demanded p q cs) P
demanded-answers p q [] W P k e (inl h) t = h.1
demanded-answers p q [] W P k e (inr h) t =
    let f = sym (run_begins k t.1) ∙ kind-begins q k W [] P e h in absurd cc
demanded-answers p q (c ∷ cs) W P k e (inl h) t =
    let f = demands-is_of c.context q k e ∙ ap (λ a. is_of k a) (sym (Takes-asked (λ V Q. AllTake V Q cs) W P c.context t)) ∙ sym (begins-is_of k P) ∙ h.0 in
    rw f h.1
demanded-answers p q (c ∷ cs) W P k e (inr h) t =
    let f = demands-is_of c.context q k e ∙ ap (λ a. is_of k a) (sym (Takes-asked (λ V Q. AllTake V Q cs) W P c.context t)) ∙ sym (begins-is_of k P)
    ∙ kind-begins q k W [] P e h in
    rw f h
