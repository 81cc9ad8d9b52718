-- Contexts: what they ask for first, and what holds of them as frames come, are cut off and are written.
use Rattle.std.proofs.Common.{ℕ, ◌≤◌, ◌≡◌, ◌⊎◌, Bool, true, false, cond, List, [], ◌∷◌, length, Some, refl, sym, ap, ◌∙◌, subst, inl, inr, arith, eq-eqb}
use Rattle.fy_base.specs.declared.data.Datum.{Datum}
use Rattle.fy_base.specs.declared.data.UnOp.{UnOp}
use Rattle.fy_base.specs.declared.data.UnOp.TheVariants.{Neg, Not, Ord, Chr}
use Rattle.fy_base.specs.declared.data.PutKind.{PutKind}
use Rattle.fy_base.specs.declared.data.PutKind.TheVariants as put_kind
use Rattle.fy_types.specs.declared.types.Atom.TheVariants as atoms
use Rattle.fy_types.specs.Paths.{PlainPath, end}
use Rattle.fy_phrase.specs.declared.phrase.DataTy.{DataTy}
use Rattle.fy_phrase.specs.Tree.{Tree, lam, field, accept}
use Rattle.fy_phrase.specs.Contexts.{CopyContext, arg_c, pick_c, store_c, Pushed}
use Rattle.fy_phrase.specs.Copy.{Row, Which, demands, demanded, store_after}
use Rattle.fy_phrase.specs.Copy as copy
use Rattle.fy_derive.specs.Atoms.{data_atom, datum_atom, operand_atom, put_atom}
use Rattle.fy_derive.specs.Kinds.{Kind, of_call, of_field, of_assignment, kind_of, begins}
use Rattle.fy_derive.specs.Shapes.{a_value, an_assignment, a_run}
use Rattle.fy_derive.proofs.PathTyping.{IsRun}
use Rattle.fy_derive.proofs.Asking.{Asked, for_call, for_field, for_end, first_asked, asked_by, value_asked, assignment_asked, run_asked, is_of, begins-is_of}
use Rattle.pe_machine.specs.States.{Frame, PeContext, Held, oldest, with_binding}
use Rattle.pe_machine.specs.Step as machine
use Rattle.pe_right.specs.ReadsBack.{cells_in}
use Rattle.pe_right.proofs.FrameLemmas.{written, Below, Below-up, Below-oldest, along_cut, oldest-newer, oldest-oldest, length-oldest, Mark, an_escape, marks_in, IsMarked, cells-kept, cells-one_escape_less, cells-one_less, length-with_binding, oldest-with_binding, marks-written, with_binding-none}
use Rattle.pe_right.proofs.Invariants.{Compiled, HasCell, marked, ContextTakes, unary_operand, left_operand, right_operand, condition, index, procedure, selected, first_command, assigned_value, acceptor, loop_test, loop_body, endless_body, first_value, cells_wanted, element_wanted, cell_body, put_datum, escape_body, ContextsTake}
use Rattle.pe_right.proofs.Growing.{Extends, extends-itself, extends-written, held-extends}

-- ---- what is asked for

operand-asked : (op : UnOp) → first_asked (end (operand_atom op)) ≡ for_end a_value
operand-asked Neg = refl
operand-asked Not = refl
operand-asked Ord = refl
operand-asked Chr = refl

put-asked : (kind : PutKind) → first_asked (end (put_atom kind)) ≡ for_end a_value
put-asked put_kind.Int = refl
put-asked put_kind.Char = refl
put-asked put_kind.Bool = refl

-- a context demands the right operand of a merge where it asks for its kind
demands-is_of : (x : CopyContext) (q : Tree) (kind : Kind) → kind_of q ≡ Some kind → demands x q ≡ is_of kind (asked_by x)
demands-is_of (arg_c a) (lam d As b at) kind e = let f : of_call ≡ kind = cc in ap (λ (j : Kind). is_of j for_call) f
demands-is_of (pick_c j) (field i p at) kind e = let f : of_field i ≡ kind = cc in ap (λ (k : Kind). is_of k (for_field j)) f
demands-is_of (store_c v) (accept d D b at) kind e = let f : of_assignment ≡ kind = cc in ap (λ (j : Kind). is_of j (for_end an_assignment)) f
demands-is_of x (lam d As b at) kind e = let f : of_call ≡ kind = cc in ap (λ (j : Kind). is_of j (asked_by x)) f
demands-is_of x (field i p at) kind e = let f : of_field i ≡ kind = cc in ap (λ (j : Kind). is_of j (asked_by x)) f
demands-is_of x (accept d D b at) kind e = let f : of_assignment ≡ kind = cc in ap (λ (j : Kind). is_of j (asked_by x)) f
demands-is_of x q kind e = absurd cc

run_begins : (kind : Kind) {P : PlainPath} → IsRun P → begins kind P ≡ false
run_begins kind {P} is = begins-is_of kind P ∙ ap (λ (a : Asked). is_of kind a) (run_asked is) ∙ run_is_of kind
  where
    run_is_of : (kind : Kind) → is_of kind (for_end a_run) ≡ false
    run_is_of of_call = refl
    run_is_of (of_field i) = refl
    run_is_of of_assignment = refl

module _ (g : Compiled) where
  pub held-asked : {fs : List Frame} {c : PeContext} {x : CopyContext} {P Q : PlainPath} → ContextTakes g fs c x P Q → first_asked P ≡ asked_by x
  held-asked (unary_operand {op = op}) = operand-asked op
  held-asked (left_operand D t h) = value_asked D refl
  held-asked (right_operand D t e) = value_asked D refl
  held-asked (condition h k) = refl
  held-asked (index h) = refl
  held-asked (procedure h) = refl
  held-asked selected = refl
  held-asked (first_command h) = refl
  held-asked (assigned_value D h) = value_asked D refl
  held-asked (acceptor D e) = assignment_asked D refl
  held-asked (loop_test h k) = refl
  held-asked (loop_body h) = refl
  held-asked (endless_body h) = refl
  held-asked (first_value D is h) = value_asked D refl
  held-asked (cells_wanted is known h) = refl
  held-asked (element_wanted h) = refl
  held-asked (cell_body is) = run_asked is
  held-asked (put_datum {kind = kind}) = put-asked kind
  held-asked escape_body = refl

  held-demands : {fs : List Frame} {c : PeContext} {x : CopyContext} {P Q : PlainPath} (q : Tree) (kind : Kind) → kind_of q ≡ Some kind → ContextTakes g fs c x P Q →
      demands x q ≡ begins kind P
  held-demands {x = x} {P = P} q kind e h =
      demands-is_of x q kind e ∙ ap (λ (a : Asked). is_of kind a) (sym (held-asked h)) ∙ sym (begins-is_of kind P)

  -- of a merge the operand is taken that the path begins with
  pub demanded-left : (fs : List Frame) (cs : List Held) (xs : List (Pushed CopyContext)) (P : PlainPath) (p q : Tree) (kind : Kind) → kind_of q ≡ Some kind →
      begins kind P ≡ false → ContextsTake g fs cs xs P → demanded p q xs ≡ p
  demanded-left fs [] [] P p q kind e b t = refl
  demanded-left fs (c ∷ cs) (x ∷ xs) P p q kind e b t = ap (λ (d : Bool). cond d q p) (held-demands q kind e t.3.1 ∙ b)
  demanded-left fs [] (x ∷ xs) P p q kind e b t = absurd t
  demanded-left fs (c ∷ cs) [] P p q kind e b t = absurd t

  pub demanded-right : (fs : List Frame) (cs : List Held) (xs : List (Pushed CopyContext)) (P : PlainPath) (p q : Tree) (kind : Kind) → kind_of q ≡ Some kind →
      begins kind P ≡ true → ContextsTake g fs cs xs P → demanded p q xs ≡ q
  demanded-right fs [] [] P p q kind e b t = let f = sym (run_begins kind t.0) ∙ b in absurd cc
  demanded-right fs (c ∷ cs) (x ∷ xs) P p q kind e b t = ap (λ (d : Bool). cond d q p) (held-demands q kind e t.3.1 ∙ b)
  demanded-right fs [] (x ∷ xs) P p q kind e b t = absurd t
  demanded-right fs (c ∷ cs) [] P p q kind e b t = absurd t

  -- ---- other frames

  pub contexts-pushed : (gs fs : List Frame) (n : ℕ) (c : PeContext) (x : CopyContext) (base under : ℕ) (cs : List Held) (xs : List (Pushed CopyContext)) (P Q : PlainPath) →
      oldest n gs ≡ fs → n ≤ length gs → marks_in gs ≡ marked c (marks_in fs) → under ≡ base → ContextTakes g fs c x P Q → ContextsTake g fs cs xs Q →
      ContextsTake g gs ((record { base = base; frames = n; context = c }) ∷ cs) ((record { base = under; context = x }) ∷ xs) P
  contexts-pushed gs fs n c x base under cs xs P Q e le m b h t = (
    b,
    le,
    m ∙ ap (λ (hs : List Frame). marked c (marks_in hs)) (sym e),
    (Q, subst (λ (hs : List Frame). ContextTakes g hs c x P Q) (sym e) h, subst (λ (hs : List Frame). ContextsTake g hs cs xs Q) (sym e) t),
  )

  contexts-move : (gs fs : List Frame) → ((k : ℕ) → k ≤ length gs → oldest k gs ≡ oldest k fs) → length gs ≤ length fs → marks_in fs ≡ marks_in gs →
      (cs : List Held) (xs : List (Pushed CopyContext)) (P : PlainPath) → ContextsTake g gs cs xs P → ContextsTake g fs cs xs P
  contexts-move gs fs same le m [] [] P t = (t.0, m ∙ t.1)
  contexts-move gs fs same le m (c ∷ cs) (x ∷ xs) P t =
      let few = t.1 in
      let e = same c.frames few in (
        t.0,
        omega arith,
        m ∙ t.2 ∙ ap (λ (hs : List Frame). marked c.context (marks_in hs)) e,
        (t.3.0, subst (λ (hs : List Frame). ContextTakes g hs c.context x.context P t.3.0) e t.3.1, subst (λ (hs : List Frame). ContextsTake g hs cs xs t.3.0) e t.3.2),
      )
  contexts-move gs fs same le m [] (x ∷ xs) P t = absurd t
  contexts-move gs fs same le m (c ∷ cs) [] P t = absurd t

  -- a frame that holds a thunk
  pub contexts-newer : (f : Frame) (fs : List Frame) → marks_in (f ∷ fs) ≡ marks_in fs →
      (cs : List Held) (xs : List (Pushed CopyContext)) (P : PlainPath) → ContextsTake g fs cs xs P → ContextsTake g (f ∷ fs) cs xs P
  contexts-newer f fs m = contexts-move fs (f ∷ fs) (λ k le. sym (oldest-newer k f fs le)) (omega arith) m

  -- frames that a taken context leaves
  pub contexts-taken : (n : ℕ) (fs : List Frame) → n ≤ length fs → marks_in fs ≡ marks_in (oldest n fs) →
      (cs : List Held) (xs : List (Pushed CopyContext)) (P : PlainPath) → ContextsTake g (oldest n fs) cs xs P → ContextsTake g fs cs xs P
  contexts-taken n fs le m =
      let long = length-oldest n fs le in
      contexts-move (oldest n fs) fs (λ k few. oldest-oldest k n fs (omega arith)) (omega arith) m

  -- ---- a cell is written

  -- frame n has the cell, of the type, or is newer than all
  abbrev pub Fits : Which → DataTy → ℕ → List Frame → Type 0
  Fits which E n fs = HasCell which E n fs ⊎ Below n fs

  fits-behind : (which : Which) (E : DataTy) (n : ℕ) (f : Frame) (fs : List Frame) → Below f.number fs → Fits which E n (f ∷ fs) → Fits which E n fs
  fits-behind which E n f fs h (inl (inl x)) = let e = x.0 in inr (Below-up fs f.number n (omega arith) h)
  fits-behind which E n f fs h (inl (inr x)) = inl x.1
  fits-behind which E n f fs h (inr x) = let l = x.0 in inr (Below-up fs f.number n (omega arith) h)

  fits-oldest : (which : Which) (E : DataTy) (n k : ℕ) (fs : List Frame) (b : ℕ) → Below b fs → Fits which E n fs → Fits which E n (oldest k fs)
  fits-oldest which E n =
      along_cut (λ fs gs. (b : ℕ) → Below b fs → Fits which E n fs → Fits which E n gs) (λ fs b h x. x)
      (λ f fs gs ih b h x. ih f.number h.1 (fits-behind which E n f fs h.1 x))

  extends-fits : (which : Which) (E : DataTy) (n : ℕ) (v : Datum) (fs : List Frame) → datum_atom v ≡ data_atom E → Fits which E n fs →
      Extends g fs (with_binding n (written which v) fs)
  extends-fits which E n v fs e (inl x) = extends-written g which E n v fs e x
  extends-fits which E n v fs e (inr x) = subst (Extends g fs) (sym (with_binding-none n (written which v) fs x)) (extends-itself g fs)

  pub contexts-written : (which : Which) (E : DataTy) (n : ℕ) (v : Datum) (fs : List Frame) (b : ℕ) → datum_atom v ≡ data_atom E → Below b fs → Fits which E n fs →
      (cs : List Held) (xs : List (Pushed CopyContext)) (P : PlainPath) → ContextsTake g fs cs xs P → ContextsTake g (with_binding n (written which v) fs) cs xs P
  contexts-written which E n v fs b e lo x [] [] P t = (t.0, marks-written which n v fs ∙ t.1)
  contexts-written which E n v fs b e lo x (c ∷ cs) (y ∷ ys) P t =
      let k = c.frames in
      let few = t.1 in
      let long = length-with_binding n (written which v) fs in
      let cut : oldest k (with_binding n (written which v) fs) ≡ with_binding n (written which v) (oldest k fs) = oldest-with_binding n (written which v) k fs b lo in
      let fit = fits-oldest which E n k fs b lo x in (
        t.0,
        omega arith,
        marks-written which n v fs ∙ t.2 ∙ ap (λ (ms : List Mark). marked c.context ms) (sym (marks-written which n v (oldest k fs)))
            ∙ ap (λ (hs : List Frame). marked c.context (marks_in hs)) (sym cut),
        (
          t.3.0,
          subst (λ (hs : List Frame). ContextTakes g hs c.context y.context P t.3.0) (sym cut) (held-extends g (extends-fits which E n v (oldest k fs) e fit) t.3.1),
          subst (λ (hs : List Frame). ContextsTake g hs cs ys t.3.0) (sym cut)
              (contexts-written which E n v (oldest k fs) b e (Below-oldest k fs b lo) fit cs ys t.3.0 t.3.2),
        ),
      )
  contexts-written which E n v fs b e lo x [] (y ∷ ys) P t = absurd t
  contexts-written which E n v fs b e lo x (c ∷ cs) [] P t = absurd t

  -- ---- a context is left

  pub left_store : (n : ℕ) (fs : List Frame) {c : PeContext} {x : CopyContext} {P Q : PlainPath} → ContextTakes g (oldest n fs) c x P Q →
      marks_in fs ≡ marked c (marks_in (oldest n fs)) → store_after x (cells_in fs) ≡ cells_in (oldest n fs)
  left_store n fs (cell_body {n = i} is) m = cells-one_less n i fs m
  left_store n fs (escape_body {n = i}) m = cells-one_escape_less n i fs m
  left_store n fs h m = cells-kept n fs (ap length m)

  pub same_target : (i : ℕ) {fs : List Frame} {c : PeContext} {x : CopyContext} {P Q : PlainPath} → ContextTakes g fs c x P Q → copy.is_target i x ≡ machine.is_target i c
  same_target i escape_body = refl
  same_target i h = refl

  -- a jump's context gives a command
  pub target_command : (i : ℕ) {fs : List Frame} {c : PeContext} {x : CopyContext} {P Q : PlainPath} → machine.is_target i c ≡ true → ContextTakes g fs c x P Q → Q ≡ end atoms.Comm
  target_command i e escape_body = refl
  target_command i e h = absurd cc

  pub target_store : (i : ℕ) (cells : List Row) {fs : List Frame} {c : PeContext} {x : CopyContext} {P Q : PlainPath} → machine.is_target i c ≡ true → ContextTakes g fs c x P Q →
      store_after x cells ≡ cells
  target_store i cells e escape_body = refl
  target_store i cells e h = absurd cc

  -- the escape of a jump is behind a context that isn't its own
  pub marked_behind : (i : ℕ) (ms : List Mark) {fs : List Frame} {c : PeContext} {x : CopyContext} {P Q : PlainPath} → machine.is_target i c ≡ false → ContextTakes g fs c x P Q →
      IsMarked (an_escape i) (marked c ms) → IsMarked (an_escape i) ms
  marked_behind i ms e (cell_body is) (inl q) = absurd cc
  marked_behind i ms e (cell_body is) (inr q) = q
  marked_behind i ms e (escape_body {n = n}) (inl q) = let f : n ≡ i = cc in let h = sym (eq-eqb n i f) ∙ e in absurd cc
  marked_behind i ms e escape_body (inr q) = q
  marked_behind i ms e h q = q
