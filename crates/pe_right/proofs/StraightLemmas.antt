-- Straight code comes to what the copy rule makes of its phrase, by fewer steps than twice its nodes: to its value, where nothing but the focus changes, or to its fault.
use Rattle.std.specs.Prelude.{◌||◌}
use Rattle.std.proofs.Common.{ℕ, zero, suc, ◌+◌, ◌-◌, ◌*◌, ◌<◌, ◌≤◌, ◌≡◌, ◌⊎◌, ℤ, Bool, true, false, cond, nat_lt, List, [], ◌∷◌, ◌++◌, length, slice_get, Option, Some, None, refl, sym, ap, ◌∙◌, subst, inl, inr, arith, append_assoc}
use Rattle.fy_base.specs.declared.data.Place.{Place}
use Rattle.fy_base.specs.declared.data.Datum.{Datum}
use Rattle.fy_base.specs.declared.data.Datum.TheVariants as datum
use Rattle.fy_base.specs.declared.data.UnOp.{UnOp}
use Rattle.fy_base.specs.declared.data.UnOp.TheVariants.{Neg, Not, Ord, Chr}
use Rattle.fy_base.specs.declared.data.BinOp.{BinOp}
use Rattle.fy_base.specs.declared.data.BinOp.TheVariants.{Add, Sub, Mul, Div, Rem, Eq, Ne, Lt, Le, Gt, Ge, And, Or}
use Rattle.fy_base.specs.declared.data.FaultKind.{FaultKind}
use Rattle.fy_base.specs.declared.arithmetic.Applied.{Applied}
use Rattle.fy_base.specs.declared.arithmetic.Applied.TheVariants.{Gives, Faults, NoSense}
use Rattle.fy_base.specs.Arithmetic.{unary_result, int_result, char_result, bool_result, binary_result}
use Rattle.fy_types.specs.declared.types.Atom.{Atom}
use Rattle.fy_types.specs.Paths.{PlainPaths, end, paths}
use Rattle.fy_types.specs.PathOrder.{HasBelow}
use Rattle.fy_phrase.specs.declared.phrase.DataTy.{DataTy}
use Rattle.fy_phrase.specs.declared.phrase.DataTy.TheVariants as data_type
use Rattle.fy_phrase.specs.declared.phrase.MarkKind.TheVariants as marks
use Rattle.fy_phrase.specs.Tree.{Tree, var, lit, unary, binary, cond as conditional, case, lam, app, field, sel, merge, let_in, rec, skip, seq, assign, while_do, forever, new, cells, escape, accept, put, read, mark}
use Rattle.fy_phrase.specs.Sizes.{nodes}
use Rattle.fy_phrase.specs.Contexts.{CopyContext, op_1, op_l, op_r, Pushed}
use Rattle.fy_phrase.specs.Copy.{Content, Row, own, CopyState, copy_step, left_meets, operated, pushed, focused, focus_on, push, value_in, value_of, cell_under, loaded}
use Rattle.fy_phrase.specs.Copy as copy
use Rattle.fy_derive.specs.Atoms.{data_atom, acceptor_atom, cell_type, datum_atom, operand_atom, unary_atom, takes, binary_atom}
use Rattle.fy_derive.proofs.PathTyping.{paths_at}
use Rattle.fy_derive.proofs.OperatorTypes.{ResultIs, unary-typed, binary-typed}
use Rattle.pe_code.specs.declared.code.StraightPart.{StraightPart}
use Rattle.pe_code.specs.declared.code.StraightPart.TheVariants as part
use Rattle.pe_code.specs.Straight.{cell_read, Outcome, leaves, fails, cell_pushed, replaced, outcome_then, outcome_after, height_then, height_after}
use Rattle.pe_code.specs.Straight as straight
use Rattle.pe_machine.specs.States.{Thunk, Binding, to_thunk, to_cell, to_escape, to_sequence, Frame, from_frame, frame_outside, datum_in, handed_on}
use Rattle.pe_machine.specs.Step.{own_cell}
use Rattle.pe_right.specs.Closing.{phrase_at, closed_by}
use Rattle.pe_right.specs.Entered.{BinderKind, a_cell}
use Rattle.pe_right.specs.ReadsBack.{cells_in}
use Rattle.pe_right.specs.Straight.{unary_faults, binary_faults, may_fault, NeedsNoChoice, HasPlace, IsPostfix, of_literal, of_cell, of_one, of_two}
use Rattle.pe_right.proofs.ClosingLemmas.{closed_by-var}
use Rattle.pe_right.proofs.FrameLemmas.{Below, IsRow, content_in, HasFrame, HasFrame-map, HasFrame-newer, row-found}
use Rattle.pe_right.proofs.AnswerLemmas.{end-same, in_scope, cell-paths}
use Rattle.pe_right.proofs.Invariants.{Compiled, IsBoundBy, AreBoundBy, rank_of, Answered, FramesAnswer, ThunkAnswers, HasCell}
use Rattle.pe_right.proofs.Growing.{named-itself, variable-found}
use Rattle.pe_right.proofs.CellLemmas.{cell-datum}
use Rattle.pe_right.proofs.Moves.{Steps, no_step, and_step}
use Rattle.pe_right.proofs.Evaluating.{joined, nodes-some}

-- ---- the frame of a known cell

pub bound-found : (fs : List Frame) (b j : ℕ) (r : Option ℕ) (w : List BinderKind) (y : BinderKind) → Below b fs → AreBoundBy fs r w → slice_get w j ≡ Some y →
    (f : Frame) × (frame_outside fs j r ≡ Some f) × IsBoundBy y f.binding × HasFrame (λ e. e ≡ f.binding) f.number fs
bound-found [] b j r w y lo h e = let f : None ≡ Some y = sym (ap (λ (v : List BinderKind). slice_get v j) h.1) ∙ e in absurd cc
bound-found (f ∷ fs) b j r w y lo (inl h) e =
    by j (sym (ap (λ (v : List BinderKind). slice_get v j) h.1.2) ∙ e) (λ i k. bound-found fs f.number i f.around h.1.1 y lo.1 h.1.4 k)
  where
    by : (i : ℕ) → slice_get (h.1.0 ∷ h.1.1) i ≡ Some y →
        ((i : ℕ) → slice_get h.1.1 i ≡ Some y → (x : Frame) × (frame_outside fs i f.around ≡ Some x) × IsBoundBy y x.binding × HasFrame (λ e. e ≡ x.binding) x.number fs) →
        (x : Frame) × (frame_outside (f ∷ fs) i r ≡ Some x) × IsBoundBy y x.binding × HasFrame (λ e. e ≡ x.binding) x.number (f ∷ fs)
    by zero k further =
        let same : h.1.0 ≡ y = cc in
        (f, ap (λ (t : Bool). cond t (Some f) (frame_outside fs 0 r)) (named-itself r f.number h.0), subst (λ (z : BinderKind). IsBoundBy z f.binding) same h.1.3, inl (refl, refl))
    by (suc i) k further =
        let x = further i k in (
          x.0,
          ap (λ (t : Bool). cond t (frame_outside fs i f.around) (frame_outside fs (suc i) r)) (named-itself r f.number h.0) ∙ x.1,
          x.2,
          HasFrame-newer (λ e. e ≡ x.0.binding) x.0.number f fs lo.1 x.3,
        )
bound-found (f ∷ fs) b j r w y lo (inr h) e =
    let x = bound-found fs f.number j r w y lo.1 h.1 e in (
      x.0,
      ap (λ (t : Bool). cond t (from_frame j f (λ i. frame_outside fs i f.around)) (frame_outside fs j r)) h.0 ∙ x.1,
      x.2,
      HasFrame-newer (λ e. e ≡ x.0.binding) x.0.number f fs lo.1 x.3,
    )

-- its datum is in the store
pub stored-own : (n : ℕ) (v : Datum) (fs : List Frame) → HasFrame (λ e. e ≡ to_cell v) n fs → value_of own n (cells_in fs) ≡ Some v
stored-own n v fs h =
    let x = row-found (λ e. e ≡ to_cell v) n fs (λ e same. subst (λ (d : Binding). IsRow d) (sym same) tt) h in
    ap (λ (o : Option Content). value_in own o) (x.4 ∙ ap (λ (e : Binding). content_in e) x.1)

-- a cell in a place for values has one of their type
cell-typed : (X D : DataTy) → HasBelow (paths (cell_type X)) (end (data_atom D)) → data_atom X ≡ data_atom D
cell-typed X D below = elim (cell-paths X (end (data_atom D)) below) [ inl e ↦ sym (end-same refl e) | inr e ↦ absurd (apart D X (end-same refl e)) ]
  where
    apart : (E Y : DataTy) → data_atom E ≡ acceptor_atom Y → ⊥
    apart data_type.Int data_type.Int e = cc
    apart data_type.Int data_type.Bool e = cc
    apart data_type.Int data_type.Char e = cc
    apart data_type.Bool data_type.Int e = cc
    apart data_type.Bool data_type.Bool e = cc
    apart data_type.Bool data_type.Char e = cc
    apart data_type.Char data_type.Int e = cc
    apart data_type.Char data_type.Bool e = cc
    apart data_type.Char data_type.Char e = cc

pub is-cell : (b : Binding) → IsBoundBy a_cell b → (v : Datum) × (b ≡ to_cell v)
is-cell (to_thunk t) h = absurd h
is-cell (to_cell v) h = (v, refl)
is-cell to_escape h = absurd h
is-cell (to_sequence c) h = absurd h

or-first : (b c : Bool) → b ≡ true → b || c ≡ true
or-first true c e = refl
or-first false c e = absurd cc

or-later : (b c : Bool) → c ≡ true → b || c ≡ true
or-later true c e = refl
or-later false c e = e

-- ---- operators

-- the type of an operand
operand-data : (op : UnOp) → (D : DataTy) × (operand_atom op ≡ data_atom D)
operand-data Neg = (data_type.Int, refl)
operand-data Not = (data_type.Bool, refl)
operand-data Ord = (data_type.Char, refl)
operand-data Chr = (data_type.Int, refl)

unary-may : (op : UnOp) (v : Datum) (kind : FaultKind) → datum_atom v ≡ operand_atom op → unary_result op v ≡ Faults kind → unary_faults op ≡ true
unary-may Neg v kind i e = refl
unary-may Chr v kind i e = refl
unary-may Not (datum.Bool b) kind i e = absurd cc
unary-may Not v kind i e = absurd cc
unary-may Ord (datum.Char c) kind i e = absurd cc
unary-may Ord v kind i e = absurd cc

-- no fault
abbrev never-faults : Applied → Type 0
never-faults (Faults kind) = ⊥
never-faults x = Unit {0}

ints-total : (op : BinOp) (x y : ℤ) → binary_faults op ≡ false → never-faults (int_result op x y)
ints-total Add x y f = absurd cc
ints-total Sub x y f = absurd cc
ints-total Mul x y f = absurd cc
ints-total Div x y f = absurd cc
ints-total Rem x y f = absurd cc
ints-total Eq x y f = tt
ints-total Ne x y f = tt
ints-total Lt x y f = tt
ints-total Le x y f = tt
ints-total Gt x y f = tt
ints-total Ge x y f = tt
ints-total And x y f = tt
ints-total Or x y f = tt

chars-total : (op : BinOp) (x y : ℕ) → never-faults (char_result op x y)
chars-total Eq x y = tt
chars-total Ne x y = tt
chars-total Lt x y = tt
chars-total Le x y = tt
chars-total Gt x y = tt
chars-total Ge x y = tt
chars-total op x y = tt

truths-total : (op : BinOp) (x y : Bool) → never-faults (bool_result op x y)
truths-total Eq x y = tt
truths-total Ne x y = tt
truths-total And x y = tt
truths-total Or x y = tt
truths-total op x y = tt

binary-total : (op : BinOp) (u v : Datum) → binary_faults op ≡ false → never-faults (binary_result op u v)
binary-total op (datum.Int x) (datum.Int y) f = ints-total op x y f
binary-total op (datum.Char x) (datum.Char y) f = chars-total op x y
binary-total op (datum.Bool x) (datum.Bool y) f = truths-total op x y
binary-total op u v f = tt

binary-may : (op : BinOp) (u v : Datum) (kind : FaultKind) → binary_result op u v ≡ Faults kind → binary_faults op ≡ true
binary-may op u v kind e = by (binary_faults op) refl
  where
    by : (b : Bool) → binary_faults op ≡ b → binary_faults op ≡ true
    by true f = f
    by false f = absurd (subst never-faults e (binary-total op u v f))

-- what the left operand's value does
abbrev Asks : BinOp → Datum → Type 0
Asks op u = (here : Place) (q : Tree) (at : Place) (s : CopyState) → left_meets op u here q at s ≡ pushed (op_r op u at) q s

record Passes (op : BinOp) (D : DataTy) (u : Datum) : Type 0 where
  meets : (here : Place) (q : Tree) (at : Place) (s : CopyState) → left_meets op u here q at s ≡ focused q s
  gives : (v : Datum) → datum_atom v ≡ data_atom D → binary_result op u v ≡ Gives v
  typed : data_atom D ≡ binary_atom op

record Decides (op : BinOp) (D : DataTy) (u : Datum) : Type 0 where
  meets : (here : Place) (q : Tree) (at : Place) (s : CopyState) → left_meets op u here q at s ≡ focused (lit u here) s
  gives : (v : Datum) → datum_atom v ≡ data_atom D → binary_result op u v ≡ Gives u
  typed : data_atom D ≡ binary_atom op
  total : (q : Tree) → NeedsNoChoice op q → may_fault q ≡ false

truth-of : (P : Datum → Type 0) → ((b : Bool) → P (datum.Bool b)) → (v : Datum) → datum_atom v ≡ data_atom data_type.Bool → P v
truth-of P h (datum.Bool b) e = h b
truth-of P h v e = absurd cc

left-does : (op : BinOp) (D : DataTy) (u : Datum) → takes op D ≡ true → datum_atom u ≡ data_atom D → Asks op u ⊎ (Passes op D u ⊎ Decides op D u)
left-does And data_type.Bool (datum.Bool true) t i =
    inr (inl (record { meets = λ here q at s. refl; gives = truth-of (λ v. binary_result And (datum.Bool true) v ≡ Gives v) (λ b. refl); typed = refl }))
left-does And data_type.Bool (datum.Bool false) t i =
    inr (inr (record { meets = λ here q at s. refl; gives = truth-of (λ v. binary_result And (datum.Bool false) v ≡ Gives (datum.Bool false)) (λ b. refl); typed = refl; total = λ q h. h }))
left-does And D u t i = absurd cc
left-does Or data_type.Bool (datum.Bool true) t i =
    inr (inr (record { meets = λ here q at s. refl; gives = truth-of (λ v. binary_result Or (datum.Bool true) v ≡ Gives (datum.Bool true)) (λ b. refl); typed = refl; total = λ q h. h }))
left-does Or data_type.Bool (datum.Bool false) t i =
    inr (inl (record { meets = λ here q at s. refl; gives = truth-of (λ v. binary_result Or (datum.Bool false) v ≡ Gives v) (λ b. refl); typed = refl }))
left-does Or D u t i = absurd cc
left-does op D u t i = inl (λ here q at s. refl)

-- ---- the stack

-- straight code of a phrase begins with a datum, for which there is room, and leaves one more
room-if : {m n : ℕ} (b : Bool) (go : ℕ → Option ℕ) → height_then (cond b (Some n) None) go ≡ Some m → (b ≡ true) × (go n ≡ Some m)
room-if true go e = (refl, e)
room-if false go e = absurd cc

unless : {m n : ℕ} (b : Bool) (go : ℕ → Option ℕ) → height_then (cond b None (Some n)) go ≡ Some m → go n ≡ Some m
unless true go e = absurd cc
unless false go e = e

module _ (g : Compiled) (w : List BinderKind) where
  height-of : {q : Tree} {ss : List StraightPart} (rest : List StraightPart) (n m : ℕ) → IsPostfix g.code w q ss → height_after (ss ++ rest) n ≡ Some m →
      (nat_lt n 3 ≡ true) × (height_after rest (suc n) ≡ Some m)
  height-of rest n m of_literal e =
      let x = room-if (nat_lt n 3) (λ k. height_after rest k) e in
      let same : n + 1 ≡ suc n = omega arith in
      (x.0, subst (λ (k : ℕ). height_after rest k ≡ Some m) same x.1)
  height-of rest n m (of_cell is) e =
      let x = room-if (nat_lt n 3) (λ k. height_after rest k) e in
      let same : n + 1 ≡ suc n = omega arith in
      (x.0, subst (λ (k : ℕ). height_after rest k ≡ Some m) same x.1)
  height-of rest n m (of_one {op = op} {ss = ss} a h place) e =
      let x = height-of (part.Unary op a ∷ rest) n m h (sym (ap (λ (ts : List StraightPart). height_after ts n) (append_assoc ss (part.Unary op a ∷ []) rest)) ∙ e) in
      (x.0, unless (nat_lt (suc n) 1) (λ k. height_after rest k) x.1)
  height-of rest n m (of_two {op = op} {ss = ss} {ts = ts} a h k choice place) e =
      let first = append_assoc ss (ts ++ part.Binary op a ∷ []) rest in
      let second = append_assoc ts (part.Binary op a ∷ []) rest in
      let x = height-of (ts ++ (part.Binary op a ∷ rest)) n m h (sym (ap (λ (us : List StraightPart). height_after us n) (first ∙ ap (λ (us : List StraightPart). ss ++ us) second)) ∙ e) in
      let y = height-of (part.Binary op a ∷ rest) (suc n) m k x.1 in
      let same : suc (suc n) - 1 ≡ suc n = omega arith in
      (x.0, subst (λ (h : ℕ). height_after rest h ≡ Some m) same (unless (nat_lt (suc (suc n)) 2) (λ h. height_after rest h) y.1))

  fits : (v : Datum) (stack : List Datum) → nat_lt (length stack) 3 ≡ true → straight.pushed v stack ≡ leaves (v ∷ stack)
  fits v stack e = ap (λ (b : Bool). cond b (leaves (v ∷ stack)) straight.has_none) e

  -- ---- runs

  module _ (fs : List Frame) (r : Option ℕ) (qs : List Tree) (G : List PlainPaths) (b : ℕ) (lo : Below b fs) (env : FramesAnswer g fs r qs G) (known : AreBoundBy fs r w) where
    abbrev pub run : List StraightPart → List Datum → Outcome
    run ss stack = outcome_after (λ k. own_cell (frame_outside fs k r)) ss stack

    -- what the code of a phrase and the code behind it come to on a stack
    pub data Comes (q : Tree) (D : DataTy) (c : CopyState) (ss rest : List StraightPart) (stack : List Datum) : Type 0 where
      comes_to : {j : ℕ} (v : Datum) (at : Place) → j + 1 ≤ 2 * nodes q → (j ≡ 0 → 0 < rank_of q) → Steps j (focus_on (closed_by 0 qs q) c) (focus_on (lit v at) c) → datum_atom v ≡ data_atom D →
          run (ss ++ rest) stack ≡ run rest (v ∷ stack) → Comes q D c ss rest stack
      fails_in : {j : ℕ} {d : CopyState} (kind : FaultKind) (i : ℕ) (at : Place) → j + 1 ≤ 2 * nodes q → Steps j (focus_on (closed_by 0 qs q) c) d → copy_step d ≡ copy.faults kind at → c.load ≤ d.load →
          may_fault q ≡ true → run (ss ++ rest) stack ≡ fails kind i → HasPlace g.code i at → Comes q D c ss rest stack

    -- a cell in focus is read
    abbrev pub IsReading : List (Pushed CopyContext) → Type 0
    IsReading xs = (n : ℕ) (at : Place) (d : CopyState) → cell_under own n at xs d ≡ loaded (value_of own n d.store) at d

    -- two operands
    module _ (op : BinOp) (p q : Tree) (at : Place) (D E : DataTy) (can : takes op E ≡ true) (result : data_atom D ≡ binary_atom op) (i : ℕ) (ss ts rest : List StraightPart) (stack : List Datum) (c : CopyState)
        (choice : NeedsNoChoice op q) (place : HasPlace g.code i at) where
      abbrev Whole : Type 0
      Whole = Comes (binary op p q at) D c (ss ++ (ts ++ part.Binary op i ∷ [])) rest stack

      abbrev Tail : List StraightPart
      Tail = part.Binary op i ∷ rest

      abbrev All : Outcome
      All = run ((ss ++ (ts ++ part.Binary op i ∷ [])) ++ rest) stack

      result_typed : (u v x : Datum) → datum_atom u ≡ data_atom E → datum_atom v ≡ data_atom E → binary_result op u v ≡ Gives x → datum_atom x ≡ data_atom D
      result_typed u v x tu tv e = subst (ResultIs (binary_atom op)) e (binary-typed op E u v can tu tv) ∙ sym result

      given : (u v x : Datum) → nat_lt (length stack) 3 ≡ true → binary_result op u v ≡ Gives x → run Tail (v ∷ u ∷ stack) ≡ run rest (x ∷ stack)
      given u v x room e = ap (λ (y : Applied). outcome_then (replaced y i stack) (λ more. run rest more)) e ∙ ap (λ (o : Outcome). outcome_then o (λ more. run rest more)) (fits x stack room)

      -- the right operand is asked for, and the operator has both
      asked : {j : ℕ} (u : Datum) (here : Place) → j + 1 ≤ 2 * nodes p → Steps j (focus_on (closed_by 0 qs p) (push (op_l op (closed_by 0 qs q) at) c)) (focus_on (lit u here) (push (op_l op (closed_by 0 qs q) at) c)) →
          datum_atom u ≡ data_atom E → All ≡ run (ts ++ Tail) (u ∷ stack) → nat_lt (length stack) 3 ≡ true → Asks op u → Comes q E (push (op_r op u at) c) ts Tail (u ∷ stack) → Whole
      asked u here l steps tu is room asks (fails_in kind x there k' more fault up may same where_it) =
          fails_in kind x there (omega arith) (and_step refl (joined steps (and_step (asks here (closed_by 0 qs q) at (focus_on (lit u here) c)) more))) fault (omega arith)
          (or-later (binary_faults op) (may_fault p || may_fault q) (or-later (may_fault p) (may_fault q) may)) (is ∙ same) where_it
      asked u here l steps tu is room asks (comes_to v there k' some more tv same) = on (binary_result op u v) refl
        where
          on : (y : Applied) → binary_result op u v ≡ y → Whole
          on (Gives x) e =
              comes_to x at (omega arith) (λ none. absurd (omega arith))
              (and_step refl (joined steps (and_step (asks here (closed_by 0 qs q) at (focus_on (lit u here) c)) (joined more (and_step (ap (λ (y : Applied). operated y at (focus_on (lit v there) c)) e) no_step)))))
              (result_typed u v x tu tv e) (is ∙ same ∙ given u v x room e)
          on (Faults kind) e =
              fails_in kind i at (omega arith) (and_step refl (joined steps (and_step (asks here (closed_by 0 qs q) at (focus_on (lit u here) c)) more)))
              (ap (λ (y : Applied). operated y at (focus_on (lit v there) c)) e) (omega arith)
              (or-first (binary_faults op) (may_fault p || may_fault q) (binary-may op u v kind e))
              (is ∙ same ∙ ap (λ (y : Applied). outcome_then (replaced y i stack) (λ more. run rest more)) e) place
          on NoSense e = absurd (subst (ResultIs (binary_atom op)) e (binary-typed op E u v can tu tv))

      -- the left operand's value is passed over, or is the result
      passed : {j : ℕ} (u : Datum) (here : Place) → j + 1 ≤ 2 * nodes p → Steps j (focus_on (closed_by 0 qs p) (push (op_l op (closed_by 0 qs q) at) c)) (focus_on (lit u here) (push (op_l op (closed_by 0 qs q) at) c)) →
          datum_atom u ≡ data_atom E → All ≡ run (ts ++ Tail) (u ∷ stack) → nat_lt (length stack) 3 ≡ true → Passes op E u → Comes q E c ts Tail (u ∷ stack) → Whole
      passed u here l steps tu is room does (fails_in kind x there k' more fault up may same where_it) =
          fails_in kind x there (omega arith) (and_step refl (joined steps (and_step (does.meets here (closed_by 0 qs q) at (focus_on (lit u here) c)) more))) fault up
          (or-later (binary_faults op) (may_fault p || may_fault q) (or-later (may_fault p) (may_fault q) may)) (is ∙ same) where_it
      passed u here l steps tu is room does (comes_to v there k' some more tv same) =
          comes_to v there (omega arith) (λ none. absurd (omega arith)) (and_step refl (joined steps (and_step (does.meets here (closed_by 0 qs q) at (focus_on (lit u here) c)) more)))
          (result_typed u v v tu tv (does.gives v tv)) (is ∙ same ∙ given u v v room (does.gives v tv))

      decided : {j : ℕ} (u : Datum) (here : Place) → j + 1 ≤ 2 * nodes p → Steps j (focus_on (closed_by 0 qs p) (push (op_l op (closed_by 0 qs q) at) c)) (focus_on (lit u here) (push (op_l op (closed_by 0 qs q) at) c)) →
          datum_atom u ≡ data_atom E → All ≡ run (ts ++ Tail) (u ∷ stack) → nat_lt (length stack) 3 ≡ true → Decides op E u → Comes q E c ts Tail (u ∷ stack) → Whole
      decided u here l steps tu is room does (fails_in kind x there k' more fault up may same where_it) = let f : true ≡ false = sym may ∙ does.total q choice in absurd cc
      decided u here l steps tu is room does (comes_to v there k' some more tv same) =
          let many = nodes-some q in
          comes_to u here (omega arith) (λ none. absurd (omega arith)) (and_step refl (joined steps (and_step (does.meets here (closed_by 0 qs q) at (focus_on (lit u here) c)) no_step)))
          (result_typed u v u tu tv (does.gives v tv)) (is ∙ same ∙ given u v u room (does.gives v tv))

      two-comes : All ≡ run (ss ++ (ts ++ Tail)) stack → nat_lt (length stack) 3 ≡ true → c.store ≡ cells_in fs → IsReading c.contexts →
          ((u : Datum) (d : CopyState) → d.store ≡ cells_in fs → IsReading d.contexts → Comes q E d ts Tail (u ∷ stack)) → Comes p E (push (op_l op (closed_by 0 qs q) at) c) ss (ts ++ Tail) stack → Whole
      two-comes code room st rd right (fails_in kind x there l steps fault up may is where_it) =
          fails_in kind x there (let some = nodes-some q in omega arith) (and_step refl steps) fault (omega arith) (or-later (binary_faults op) (may_fault p || may_fault q) (or-first (may_fault p) (may_fault q) may)) (code ∙ is) where_it
      two-comes code room st rd right (comes_to u here l some steps tu is) =
          elim (left-does op E u can tu) [
            | inl asks ↦ asked u here l steps tu (code ∙ is) room asks (right u (push (op_r op u at) c) st (λ n there d. refl))
            | inr more ↦ elim more [
              | inl does ↦ passed u here l steps tu (code ∙ is) room does (right u c st rd)
              | inr does ↦ decided u here l steps tu (code ∙ is) room does (right u c st rd)
            ]
          ]

    pub comes : {ss : List StraightPart} (q : Tree) (k : ℕ) (D : DataTy) (rest : List StraightPart) (stack : List Datum) (m : ℕ) (c : CopyState) → IsPostfix g.code w q ss →
        Answered g G k q (end (data_atom D)) → height_after (ss ++ rest) (length stack) ≡ Some m → c.store ≡ cells_in fs → IsReading c.contexts → Comes q D c ss rest stack
    comes (lit v at) k D rest stack m c of_literal a h st rd =
        let room = height-of rest (length stack) m (of_literal {v = v} {at = at}) h in
        comes_to v at (omega arith) (λ none. omega arith) no_step (sym (end-same refl a.1)) (ap (λ (o : Outcome). outcome_then o (λ more. run rest more)) (fits v stack room.0))
    comes (var j at) k D rest stack m c (of_cell is) a h st rd =
        let x = bound-found fs b j r w a_cell lo known is in
        let y = variable-found g fs b j r qs G at lo env (in_scope G j (end (data_atom D)) a.1) in
        let same : x.0 ≡ y.0 = (let e : Some x.0 ≡ Some y.0 = sym x.1 ∙ y.1 in cc) in
        let cell = is-cell x.0.binding x.2 in
        let stands = subst (λ (t : Thunk). ThunkAnswers g fs t (phrase_at qs j at) (paths_at G j)) (ap (λ (f : Frame). handed_on f.number f.binding) (sym same) ∙ ap (λ (e : Binding). handed_on x.0.number e) cell.1) y.2 in
        var-comes j at D rest stack c x.0 cell.0 stands.0 stands.1 x.1 cell.1 (HasFrame-map (λ e is. is ∙ cell.1) x.0.number fs x.3) stands.2 stands.3 (stands.4 (end (data_atom D)) a.1) st rd (height-of rest (length stack) m (of_cell {at = at} is) h).0
      where
        var-comes : (j : ℕ) (at : Place) (D : DataTy) (rest : List StraightPart) (stack : List Datum) (c : CopyState) (f : Frame) (v : Datum) (here : Place) (X : DataTy) → frame_outside fs j r ≡ Some f →
            f.binding ≡ to_cell v → HasFrame (λ e. e ≡ to_cell v) f.number fs → phrase_at qs j at ≡ mark (marks.Cell f.number) here → HasCell own X f.number fs → HasBelow (paths (cell_type X)) (end (data_atom D)) → c.store ≡ cells_in fs →
            IsReading c.contexts → nat_lt (length stack) 3 ≡ true → Comes (var j at) D c (part.Cell j ∷ []) rest stack
        var-comes j at D rest stack c f v here X found is stands phrase has below st rd room =
            let y = cell-datum own X f.number fs has in
            let stored = stored-own f.number v fs stands in
            let datum_is : y.0 ≡ v = (let e : Some y.0 ≡ Some v = sym y.3 ∙ stored in cc) in
            let focus = closed_by-var qs j at ∙ phrase in
            comes_to v here (omega arith) (λ none. omega arith)
            (and_step
            (ap (λ (q : Tree). copy.step_at q (focus_on q c)) focus
            ∙ rd f.number here (focus_on (mark (marks.Cell f.number) here) c)
            ∙ ap (λ (rows : List Row). loaded (value_of own f.number rows) here (focus_on (mark (marks.Cell f.number) here) c)) st
            ∙ ap (λ (o : Option Datum). loaded o here (focus_on (mark (marks.Cell f.number) here) c)) stored) no_step)
            (sym (ap (λ (u : Datum). datum_atom u) datum_is) ∙ y.1 ∙ cell-typed X D below)
            (ap (λ (o : Option Frame). outcome_then (cell_pushed (own_cell o) stack) (λ more. run rest more)) found
            ∙ ap (λ (e : Binding). outcome_then (cell_pushed (cell_read (datum_in e)) stack) (λ more. run rest more)) is
            ∙ ap (λ (o : Outcome). outcome_then o (λ more. run rest more)) (fits v stack room))
    comes (unary op p at) k D rest stack m c (of_one {ss = ss} i post place) a h st rd =
        let E = operand-data op in
        let assoc = append_assoc ss (part.Unary op i ∷ []) rest in
        let height = sym (ap (λ (us : List StraightPart). height_after us (length stack)) assoc) ∙ h in
        by E.0 E.1 (ap (λ (us : List StraightPart). run us stack) assoc) (height-of (part.Unary op i ∷ rest) (length stack) m post height).0
        (comes p (k + 1) E.0 (part.Unary op i ∷ rest) stack m (push (op_1 op at) c) post (subst (λ (A : Atom). Answered g G (k + 1) p (end A)) E.1 a.2) height st (λ n here d. refl))
      where
        by : (E : DataTy) → operand_atom op ≡ data_atom E → run ((ss ++ part.Unary op i ∷ []) ++ rest) stack ≡ run (ss ++ (part.Unary op i ∷ rest)) stack → nat_lt (length stack) 3 ≡ true →
            Comes p E (push (op_1 op at) c) ss (part.Unary op i ∷ rest) stack → Comes (unary op p at) D c (ss ++ part.Unary op i ∷ []) rest stack
        by E same code room (fails_in kind x there l steps fault up may is where_it) =
            fails_in kind x there (omega arith) (and_step refl steps) fault (omega arith) (or-later (unary_faults op) (may_fault p) may) (code ∙ is) where_it
        by E same code room (comes_to v here l some steps typed is) = on (unary_result op v) refl
          where
            on : (y : Applied) → unary_result op v ≡ y → Comes (unary op p at) D c (ss ++ part.Unary op i ∷ []) rest stack
            on (Gives u) e =
                comes_to u at (omega arith) (λ none. absurd (omega arith)) (and_step refl (joined steps (and_step (ap (λ (y : Applied). operated y at (focus_on (lit v here) c)) e) no_step)))
                (subst (ResultIs (unary_atom op)) e (unary-typed op v (typed ∙ sym same)) ∙ sym (end-same refl a.1))
                (code ∙ is ∙ ap (λ (y : Applied). outcome_then (replaced y i stack) (λ more. run rest more)) e ∙ ap (λ (o : Outcome). outcome_then o (λ more. run rest more)) (fits u stack room))
            on (Faults kind) e =
                fails_in kind i at (omega arith) (and_step refl steps) (ap (λ (y : Applied). operated y at (focus_on (lit v here) c)) e) (omega arith)
                (or-first (unary_faults op) (may_fault p) (unary-may op v kind (typed ∙ sym same) e))
                (code ∙ is ∙ ap (λ (y : Applied). outcome_then (replaced y i stack) (λ more. run rest more)) e) place
            on NoSense e = absurd (subst (ResultIs (unary_atom op)) e (unary-typed op v (typed ∙ sym same)))
    comes (binary op p q at) k D rest stack m c (of_two {ss = ss} {ts = ts} i post other choice place) a h st rd =
        let first = append_assoc ss (ts ++ part.Binary op i ∷ []) rest in
        let second = append_assoc ts (part.Binary op i ∷ []) rest in
        let assoc = first ∙ ap (λ (us : List StraightPart). ss ++ us) second in
        let height = sym (ap (λ (us : List StraightPart). height_after us (length stack)) assoc) ∙ h in
        let room = height-of (ts ++ (part.Binary op i ∷ rest)) (length stack) m post height in
        two-comes op p q at D a.1.0 a.1.1 (end-same refl a.1.2) i ss ts rest stack c choice place (ap (λ (us : List StraightPart). run us stack) assoc) room.0 st rd
        (λ u d kept reading. comes q (k + 1 + nodes p) a.1.0 (part.Binary op i ∷ rest) (u ∷ stack) m d other a.1.4 room.1 kept reading) (comes p (k + 1) a.1.0 (ts ++ (part.Binary op i ∷ rest)) stack m (push (op_l op (closed_by 0 qs q) at) c) post a.1.3 height st (λ n here d. refl))
    comes (conditional b p q at) k D rest stack m c post a h st rd = elim post [ ]
    comes (case e parts at) k D rest stack m c post a h st rd = elim post [ ]
    comes (lam d alternatives body at) k D rest stack m c post a h st rd = elim post [ ]
    comes (app p q at) k D rest stack m c post a h st rd = elim post [ ]
    comes (field i p at) k D rest stack m c post a h st rd = elim post [ ]
    comes (sel p i at) k D rest stack m c post a h st rd = elim post [ ]
    comes (merge p q at) k D rest stack m c post a h st rd = elim post [ ]
    comes (let_in d p body at) k D rest stack m c post a h st rd = elim post [ ]
    comes (rec d t body at) k D rest stack m c post a h st rd = elim post [ ]
    comes (skip at) k D rest stack m c post a h st rd = elim post [ ]
    comes (seq p q at) k D rest stack m c post a h st rd = elim post [ ]
    comes (assign p q at) k D rest stack m c post a h st rd = elim post [ ]
    comes (while_do p q at) k D rest stack m c post a h st rd = elim post [ ]
    comes (forever p at) k D rest stack m c post a h st rd = elim post [ ]
    comes (new d e p body at) k D rest stack m c post a h st rd = elim post [ ]
    comes (cells d p body at) k D rest stack m c post a h st rd = elim post [ ]
    comes (escape d body at) k D rest stack m c post a h st rd = elim post [ ]
    comes (accept d e body at) k D rest stack m c post a h st rd = elim post [ ]
    comes (put kind p at) k D rest stack m c post a h st rd = elim post [ ]
    comes (read p at) k D rest stack m c post a h st rd = elim post [ ]
    comes (mark e at) k D rest stack m c post a h st rd = elim post [ ]
