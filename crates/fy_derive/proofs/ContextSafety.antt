-- What meets a context that takes its path leads to a typed state, or to a fault.
use Rattle.std.proofs.Common.{ℕ, zero, suc, ◌+◌, ◌<◌, ◌≤◌, ◌≡◌, pos, negsuc, Bool, true, false, if◌then◌else◌, nat_eq, nat_lt, List, [], ◌∷◌, length, Option, Some, None, refl, sym, ap, ◌∙◌, subst, ◌⊎◌, inl, inr, arith, ltb-false, ltb-true, eq-eqb}
use Rattle.fy_base.specs.declared.data.Place.{Place}
use Rattle.fy_base.specs.declared.data.Datum.{Datum}
use Rattle.fy_base.specs.declared.data.Datum.TheVariants as datum
use Rattle.fy_base.specs.declared.data.BinOp.{BinOp}
use Rattle.fy_base.specs.declared.data.BinOp.TheVariants.{And, Or}
use Rattle.fy_base.specs.declared.data.PutKind.{PutKind}
use Rattle.fy_base.specs.declared.data.PutKind.TheVariants as put_kind
use Rattle.fy_base.specs.declared.arithmetic.Applied.{Applied}
use Rattle.fy_base.specs.declared.arithmetic.Applied.TheVariants.{Gives, Faults, NoSense}
use Rattle.fy_base.specs.Arithmetic.{unary_result, binary_result, written_text}
use Rattle.fy_types.specs.declared.types.Atom.{Atom}
use Rattle.fy_types.specs.declared.types.Atom.TheVariants as atoms
use Rattle.fy_types.specs.Paths.{PlainPath, PlainPaths, end, call, pick, paths}
use Rattle.fy_types.specs.PathOrder.{ends, same_end, calls, picks, and_above, HasBelow, here as first_path, there}
use Rattle.fy_types.proofs.Order.{IsPathBelow-refl}
use Rattle.fy_phrase.specs.declared.phrase.DataTy.{DataTy}
use Rattle.fy_phrase.specs.declared.phrase.DataTy.TheVariants as data_type
use Rattle.fy_phrase.specs.declared.phrase.MarkKind.TheVariants as marks
use Rattle.fy_phrase.specs.Tree.{Tree, Trees, no_trees, and_tree, lit, skip, mark}
use Rattle.fy_phrase.specs.Contexts.{CopyContext, op_1, op_l, op_r, if_c, case_c, arg_c, pick_c, then_c, assign_c, store_c, while_c, body_c, loop_c, new_c, drop_c, put_c, esc_c, cells_c, fill_c, element_c, Pushed}
use Rattle.fy_phrase.specs.Copy.{Content, single, several, Row, Which, CopyState, CopyMove, sticks, step_at, content_of, with_content, lengthened, part_at, focused_if_some, indexed, operated, left_meets, chosen, focused, pushed, written, counted, element_picked, datum_meets, one_more, bound_filled, datum_under, datum_focused, skip_meets, lam_meets, field_meets, accept_meets, value_of, loaded, assigned, cell_meets, cell_under, measured, sequence_meets, is_target, store_after, jumped}
use Rattle.fy_derive.specs.Atoms.{data_atom, acceptor_atom, cell_type, sequence_type, datum_atom, unary_atom, takes, binary_atom, put_atom}
use Rattle.fy_derive.specs.Shapes.{a_value}
use Rattle.fy_derive.proofs.PathTyping.{RowType, one, many, row, jump, cell, sequence, World, Stands, EachPath, EachPath-map, IsRun, only, Answers, EachAnswers, answers-above, answers-older}
use Rattle.fy_derive.proofs.CopyingIn.{copied-in}
use Rattle.fy_derive.proofs.TypedAnswers.{EachPath-self}
use Rattle.fy_derive.proofs.OperatorTypes.{ResultIs, unary-typed, binary-typed}
use Rattle.fy_derive.proofs.StateTyping.{Takes, AllTake, IsContentOf, Holds, FillsUnder, FillsIn, FillsAt, Keeps, GoesOn, goes-on, HasCell, Holds-more, content_of-typed, value_of-typed, Holds-with_value, Holds-lengthened, Holds-without_row, Holds-left}
use Rattle.fy_derive.proofs.Asking.{for_end, asked_by, first_asked, value_asked, datum_asked, assignment_asked, run_asked, command_asked, Takes-asked}

-- what the contexts of a state take
abbrev pub Behind : CopyState → World → PlainPath → Type 0
Behind s W P = AllTake W P s.contexts

ends_same : {P : PlainPath} {a b : Atom} → P ≡ end a → P ≡ end b → a ≡ b
ends_same e f = cc

pub acceptor_atom-same : (D E : DataTy) → acceptor_atom D ≡ acceptor_atom E → D ≡ E
acceptor_atom-same data_type.Int data_type.Int e = refl
acceptor_atom-same data_type.Bool data_type.Bool e = refl
acceptor_atom-same data_type.Char data_type.Char e = refl
acceptor_atom-same D E e = absurd cc

by_test : (b : Bool) (m n : CopyMove) → (b ≡ true → Keeps m) → (b ≡ false → Keeps n) → Keeps (if b then m else n)
by_test true m n h k = h refl
by_test false m n h k = k refl

-- ---- a datum

operated-keeps : (r : Applied) (a : Atom) (at : Place) (s : CopyState) (W : World) → ResultIs a r → Behind s W (end a) → Holds s.next W s.store →
    Keeps (operated r at s)
operated-keeps (Gives v) a at s W r t h = (W, end a, ap end (sym r), t, h)
operated-keeps (Faults kind) a at s W r t h = tt
operated-keeps NoSense a at s W r t h = r

left-keeps : (op : BinOp) (D : DataTy) (v : Datum) (here : Place) (q : Tree) (at : Place) (s : CopyState) (W : World) → takes op D ≡ true →
    datum_atom v ≡ data_atom D → Answers W [] q (end (data_atom D)) → Behind s W (end (binary_atom op)) → Holds s.next W s.store →
    Keeps (left_meets op v here q at s)
left-keeps And data_type.Bool (datum.Bool true) here q at s W k e a t h = (W, end atoms.Bool, a, t, h)
left-keeps And data_type.Bool (datum.Bool false) here q at s W k e a t h = (W, end atoms.Bool, refl, t, h)
left-keeps And D v here q at s W k e a t h = absurd cc
left-keeps Or data_type.Bool (datum.Bool true) here q at s W k e a t h = (W, end atoms.Bool, refl, t, h)
left-keeps Or data_type.Bool (datum.Bool false) here q at s W k e a t h = (W, end atoms.Bool, a, t, h)
left-keeps Or D v here q at s W k e a t h = absurd cc
left-keeps op D v here q at s W k e a t h = (W, end (data_atom D), a, (D, k, refl, e, t), h)

chosen-keeps : (v : Datum) (m n : CopyMove) → datum_atom v ≡ atoms.Bool → Keeps m → Keeps n → Keeps (chosen v m n)
chosen-keeps (datum.Bool true) m n e h k = h
chosen-keeps (datum.Bool false) m n e h k = k
chosen-keeps v m n e h k = absurd cc

part-keeps : (parts : Trees) (n : ℕ) (at : Place) (s : CopyState) (W : World) (Q : PlainPath) → EachAnswers W [] parts Q → Behind s W Q →
    Holds s.next W s.store → Keeps (focused_if_some (part_at parts n) at s)
part-keeps no_trees n at s W Q each t h = tt
part-keeps (and_tree p ps) zero at s W Q each t h = (W, Q, each.0, t, h)
part-keeps (and_tree p ps) (suc n) at s W Q each t h = part-keeps ps n at s W Q each.1 t h

indexed-keeps : (v : Datum) (parts : Trees) (at : Place) (s : CopyState) (W : World) (Q : PlainPath) → datum_atom v ≡ atoms.Int →
    EachAnswers W [] parts Q → Behind s W Q → Holds s.next W s.store → Keeps (indexed v parts at s)
indexed-keeps (datum.Int (pos n)) parts at s W Q e each t h = part-keeps parts n at s W Q each t h
indexed-keeps (datum.Int (negsuc n)) parts at s W Q e each t h = tt
indexed-keeps v parts at s W Q e each t h = absurd cc

written-keeps : (kind : PutKind) (v : Datum) (at : Place) (s : CopyState) (W : World) → datum_atom v ≡ put_atom kind →
    Behind s W (end atoms.Comm) → Holds s.next W s.store → Keeps (written (written_text kind v) at s)
written-keeps put_kind.Int (datum.Int n) at s W e t h = (W, end atoms.Comm, refl, t, h)
written-keeps put_kind.Char (datum.Char c) at s W e t h = (W, end atoms.Comm, refl, t, h)
written-keeps put_kind.Bool (datum.Bool b) at s W e t h = (W, end atoms.Comm, refl, t, h)
written-keeps kind v at s W e t h = absurd cc

-- a cell that stands answers the paths of its variable
cell-answers : (n : ℕ) (D : DataTy) (W : World) (at : Place) → EachPath (λ Q. Answers (cell n D ∷ W) [] (mark (marks.Cell n) at) Q) (paths (cell_type D))
cell-answers n D W at =
    ((D, inl refl, first_path (IsPathBelow-refl _)), ((D, inl refl, there (first_path (IsPathBelow-refl _))), tt))

-- the cell that an index picks
picked-keeps : (v : Datum) (n k : ℕ) (x : Content) (here : Place) (s : CopyState) (W : World) (Q : PlainPath) → datum_atom v ≡ atoms.Int →
    IsContentOf (many k) x → Stands (sequence n k) W → HasBelow (paths (cell_type data_type.Int)) Q → Behind s W Q → Holds s.next W s.store →
    Keeps (element_picked v n (Some x) here s)
picked-keeps v n k (single u) here s W Q e c stands some t h = absurd c
picked-keeps (datum.Int (pos i)) n k (several at vs) here s W Q e c stands some t h =
    by_test (nat_lt i (length vs)) _ _
    (λ f. let l = ltb-true i (length vs) f in let m = c.0 in (W, Q, (k, omega arith, stands, some), t, h))
    (λ f. tt)
picked-keeps (datum.Int (negsuc i)) n k (several at vs) here s W Q e c stands some t h = tt
picked-keeps v n k (several at vs) here s W Q e c stands some t h = absurd cc

element-keeps : (v : Datum) (n k : ℕ) (here : Place) (s : CopyState) (W : World) (Q : PlainPath) → datum_atom v ≡ atoms.Int →
    Stands (sequence n k) W → HasBelow (paths (cell_type data_type.Int)) Q → Behind s W Q → Holds s.next W s.store →
    Keeps (element_picked v n (content_of n s.store) here s)
element-keeps v n k here s W Q e stands some t h =
    let r = content_of-typed W s.store s.next n (many k) h stands in
    rw r.1 (picked-keeps v n k r.0 here s W Q e r.2 stands some t h)

-- the contexts but those that a sequence comes from
abbrev IsPlain : CopyContext → Type 0
IsPlain (cells_c d b at) = ⊥
IsPlain x = Unit {0}

pub datum-keeps : (v : Datum) (here : Place) (x : CopyContext) (s : CopyState) (W : World) (P : PlainPath) → IsPlain x → P ≡ end (datum_atom v) →
    Takes (Behind s) W P x → Holds s.next W s.store → Keeps (datum_meets v here x s)
datum-keeps v here (op_1 op at) s W P plain e t h =
    operated-keeps (unary_result op v) (unary_atom op) at s W (unary-typed op v (ends_same e t.0)) t.1 h
datum-keeps v here (op_l op q at) s W P plain e t h = left-keeps op t.0 v here q at s W t.1 (ends_same e t.2) t.3 t.4 h
datum-keeps v here (op_r op u at) s W P plain e t h =
    operated-keeps (binary_result op u v) (binary_atom op) at s W (binary-typed op t.0 u v t.1 t.3 (ends_same e t.2)) t.4 h
datum-keeps v here (if_c p q) s W P plain e t h =
    chosen-keeps v (focused p s) (focused q s) (ends_same e t.0) (W, t.1, t.2, t.4, h) (W, t.1, t.3, t.4, h)
datum-keeps v here (case_c parts at) s W P plain e t h = indexed-keeps v parts at s W t.1 (ends_same e t.0) t.2 t.3 h
datum-keeps v here (assign_c p) s W P plain e t h = (W, end (acceptor_atom t.0), t.2, (t.0, refl, ends_same e t.1, t.3), h)
datum-keeps v here (while_c loop c) s W P plain e t h =
    chosen-keeps v (pushed (body_c loop) c s) (focused (skip here) s) (ends_same e t.0)
    (W, end atoms.Comm, t.2, (refl, t.1, t.3), h) (W, end atoms.Comm, refl, t.3, h)
datum-keeps v here (new_c d b) s W P plain e t h =
    let U = cell s.next t.0 ∷ W in (
      U,
      t.2,
      copied-in U (mark (marks.Cell s.next) here) b (paths (cell_type t.0)) t.2 (cell-answers s.next t.0 W here)
          (answers-older (cell s.next t.0) W b (paths (cell_type t.0) ∷ []) t.2 t.4),
      (one t.0, W, refl, t.3, t.5),
      (refl, omega arith, ends_same e t.1, h),
    )
datum-keeps v here (put_c kind) s W P plain e t h = written-keeps kind v here s W (ends_same e t.0) t.1 h
datum-keeps v here (cells_c d b at) s W P plain e t h = absurd plain
datum-keeps v here (fill_c n m d b at) s W P plain e t h = absurd t
datum-keeps v here (element_c n) s W P plain e t h = element-keeps v n t.0 here s W t.3 (ends_same e t.1) t.2 t.4 t.5 h
datum-keeps v here x s W P plain e t h = let f = sym (datum_asked v e) ∙ Takes-asked (Behind s) W P x t in absurd cc

-- a sequence is begun, or the number of its cells is negative
counted-goes : (v : Datum) (d : ℕ) (b : Tree) (at : Place) (s : CopyState) (W : World) (Q : PlainPath) → datum_atom v ≡ atoms.Int → IsRun Q →
    Answers W (paths sequence_type ∷ []) b Q → Behind s W Q → Holds s.next W s.store → GoesOn (counted v d b at s)
counted-goes (datum.Int (pos m)) d b at s W Q e is a t h = inr (refl, omega arith, W, Q, is, a, t, (refl, omega arith, (refl, tt), h))
counted-goes (datum.Int (negsuc m)) d b at s W Q e is a t h = tt
counted-goes v d b at s W Q e is a t h = absurd cc

-- at a context that it answers, or that stays
under-goes : (v : Datum) (here : Place) (x : CopyContext) (base : ℕ) (cs : List (Pushed CopyContext)) (s : CopyState) (W : World) (P : PlainPath) →
    P ≡ end (datum_atom v) → Takes (λ V Q. AllTake V Q cs) W P x → Holds s.next W s.store → GoesOn (datum_under v here x base cs s)
under-goes v here (fill_c n m d b at) base cs s W P e t h = absurd t
under-goes v here (cells_c d b at) base cs s W P e t h =
    counted-goes v d b at (record s { contexts = cs; load = base }) W t.1 (ends_same e t.0) t.2 t.3 t.4 h
under-goes v here x base cs s W P e t h =
    let u = record s { contexts = cs; load = base } in goes-on (datum_meets v here x u) (datum-keeps v here x u W P tt e t h)

pub focused-goes : (v : Datum) (here : Place) (cs : List (Pushed CopyContext)) (s : CopyState) (W : World) (P : PlainPath) →
    P ≡ end (datum_atom v) → AllTake W P cs → Holds s.next W s.store → GoesOn (datum_focused v here cs s)
focused-goes v here [] s W P e t h = let f = sym (datum_asked v e) ∙ run_asked t.1 in absurd cc
focused-goes v here (c ∷ cs) s W P e t h = under-goes v here c.context c.base cs s W P e t h

-- ---- a sequence that is filled

-- a sequence that stands answers the paths of its variable
sequence-answers : (n k : ℕ) (W : World) (at : Place) →
    EachPath (λ Q. Answers (sequence n k ∷ W) [] (mark (marks.Sequence n) at) Q) (paths sequence_type)
sequence-answers n k W at =
    EachPath-map {F = λ Q. HasBelow (paths sequence_type) Q} {H = λ Q. Answers (sequence n k ∷ W) [] (mark (marks.Sequence n) at) Q} (paths sequence_type)
    (λ Q some. (k, inl refl, some)) (EachPath-self (paths sequence_type))

-- one cell more
more-goes : (k n m d : ℕ) (b : Tree) (at here : Place) (c : Pushed CopyContext) (cs : List (Pushed CopyContext)) (s : CopyState) →
    s.contexts ≡ c ∷ cs → c.context ≡ fill_c n m d b at → k < m → FillsUnder k (fill_c n m d b at) cs s → GoesOn (one_more n k here s)
more-goes k n m d b at here c cs s e f l (same, less, W, P, is, a, t, h) =
    let u = record s { focus = lit (datum.Int (pos (k + 1))) here; store = with_content n lengthened s.store; load = s.load + 1 } in
    inr (subst (λ us. FillsIn (k + 1) us u) (sym e)
    (subst (λ x. FillsUnder (k + 1) x cs u) (sym f) (same, omega arith, W, P, is, a, t, Holds-lengthened n k W s.store (s.next + 1) h)))

-- all cells are there
all-goes : (k n m d : ℕ) (b : Tree) (at : Place) (base : ℕ) (cs : List (Pushed CopyContext)) (s : CopyState) →
    FillsUnder k (fill_c n m d b at) cs s → GoesOn (bound_filled n d b at base cs s)
all-goes k n m d b at base cs s (same, less, W, P, is, a, t, h) =
    let U = sequence n k ∷ W in
    inl (
      U,
      P,
      copied-in U (mark (marks.Sequence n) at) b (paths sequence_type) P (sequence-answers n k W at)
          (answers-older (sequence n k) W b (paths sequence_type ∷ []) P a),
      (many k, W, refl, is, t),
      h,
    )

by_count : (k m : ℕ) (more all : CopyMove) → k ≤ m → (k < m → GoesOn more) → GoesOn all →
    GoesOn (if nat_lt k m then more else (if nat_eq k m then all else sticks))
by_count k m more all le f g = test (nat_lt k m) refl
  where
    test : (x : Bool) → nat_lt k m ≡ x → GoesOn (if x then more else (if nat_eq k m then all else sticks))
    test true e = f (ltb-true k m e)
    test false e = let l = ltb-false k m e in rw (eq-eqb k m (omega arith)) g

filled-goes : (k : ℕ) (here : Place) (x : CopyContext) (c : Pushed CopyContext) (cs : List (Pushed CopyContext)) (s : CopyState) →
    s.contexts ≡ c ∷ cs → c.context ≡ x → FillsUnder k x cs s → GoesOn (datum_under (datum.Int (pos k)) here x c.base cs s)
filled-goes k here (fill_c n m d b at) c cs s e f h =
    by_count k m (one_more n k here s) (bound_filled n d b at c.base cs s) h.1
    (λ l. more-goes k n m d b at here c cs s e f l h) (all-goes k n m d b at c.base cs s h)
filled-goes k here x c cs s e f h = absurd h

focused-fills : (k : ℕ) (here : Place) (cs : List (Pushed CopyContext)) (s : CopyState) → s.contexts ≡ cs →
    FillsIn k cs s → GoesOn (datum_focused (datum.Int (pos k)) here cs s)
focused-fills k here [] s e h = absurd h
focused-fills k here (c ∷ cs) s e h = filled-goes k here c.context c cs s e refl h

pub filling-goes : (p : Tree) (s : CopyState) → FillsAt p s.contexts s → GoesOn (step_at p s)
filling-goes (lit (datum.Int (pos k)) here) s h = focused-fills k here s.contexts s refl h
filling-goes p s h = absurd h

-- ---- a finished command

pub skip-keeps : (here : Place) (x : CopyContext) (s : CopyState) (W : World) (P : PlainPath) → P ≡ end atoms.Comm →
    Takes (Behind s) W P x → Holds s.next W s.store → Keeps (skip_meets here x s)
skip-keeps here (then_c q) s W P e t h = (W, t.1, t.2, t.3, h)
skip-keeps here (body_c loop) s W P e t h = (W, end atoms.Comm, t.1, t.2, h)
skip-keeps here (loop_c loop) s W P e t h = (W, t.1, t.2, t.3, h)
skip-keeps here (drop_c n) s W P e t h =
    (t.1, end atoms.Comm, refl, subst (λ Q. Behind s t.1 Q) e t.4, Holds-without_row n t.0 W t.1 s.store s.next t.2 h)
skip-keeps here (esc_c n) s W P e t h = (t.0, end atoms.Comm, refl, t.3, Holds-left n W t.0 s.store s.next t.1 h)
skip-keeps here x s W P e t h = let f = sym (command_asked e) ∙ Takes-asked (Behind s) W P x t in absurd cc

-- ---- a procedure, a field and an acceptor

pub lam-keeps : (d : ℕ) (b : Tree) (x : CopyContext) (s : CopyState) (W : World) (P : PlainPath) (D : PlainPaths) (R : PlainPath) →
    P ≡ call D R → Answers W (D ∷ []) b R → Takes (Behind s) W P x → Holds s.next W s.store → Keeps (lam_meets d b x s)
lam-keeps d b (arg_c q) s W P D R e a t h =
    let k = t.2 in
    let f : t.0 ≡ D = cc in
    let g : t.1 ≡ R = cc in (
      W,
      R,
      copied-in W q b D R (subst (λ E. EachPath (λ Q. Answers W [] q Q) E) f t.3) a,
      subst (λ Q. Behind s W Q) g t.4,
      Holds-more W s.store s.next (s.next + 1) (omega arith) h,
    )
lam-keeps d b x s W P D R e a t h = let f = sym (ap (λ Q. first_asked Q) e) ∙ Takes-asked (Behind s) W P x t in absurd cc

pub field-keeps : (i : ℕ) (p : Tree) (x : CopyContext) (s : CopyState) (W : World) (P R : PlainPath) → P ≡ pick i R → Answers W [] p R →
    Takes (Behind s) W P x → Holds s.next W s.store → Keeps (field_meets i p x s)
field-keeps i p (pick_c j) s W P R e a t h =
    let k = t.1 in
    let f : i ≡ j = cc in
    let g : t.0 ≡ R = cc in
    rw (eq-eqb i j f) (W, R, a, subst (λ Q. Behind s W Q) g t.2, h)
field-keeps i p x s W P R e a t h = let f = sym (ap (λ Q. first_asked Q) e) ∙ Takes-asked (Behind s) W P x t in absurd cc

pub accept-keeps : (d : ℕ) (D : DataTy) (b : Tree) (here : Place) (x : CopyContext) (s : CopyState) (W : World) (P : PlainPath) →
    P ≡ end (acceptor_atom D) → Answers W (only (data_atom D) ∷ []) b (end atoms.Comm) →
    Takes (Behind s) W P x → Holds s.next W s.store → Keeps (accept_meets d b here x s)
accept-keeps d D b here (store_c v) s W P e a t h =
    let f = acceptor_atom-same t.0 D (ends_same t.1 e) in (
      W,
      end atoms.Comm,
      copied-in W (lit v here) b (only (data_atom D)) (end atoms.Comm) (ap end (sym (t.2 ∙ ap (λ E. data_atom E) f)), tt) a,
      t.3,
      Holds-more W s.store s.next (s.next + 1) (omega arith) h,
    )
accept-keeps d D b here x s W P e a t h = let f = sym (assignment_asked D e) ∙ Takes-asked (Behind s) W P x t in absurd cc

-- ---- cells

loaded-keeps : (o : Option Datum) (v : Datum) (here : Place) (s : CopyState) (W : World) (P : PlainPath) → o ≡ Some v → P ≡ end (datum_atom v) →
    Behind s W P → Holds s.next W s.store → Keeps (loaded o here s)
loaded-keeps (Some u) v here s W P f e t h = let g : u ≡ v = cc in (W, P, e ∙ ap (λ x. end (datum_atom x)) (sym g), t, h)
loaded-keeps None v here s W P f e t h = absurd cc

not_assigned : (which : Which) (x : CopyContext) (n : ℕ) (here : Place) (cs : List (Pushed CopyContext)) (s : CopyState) → for_end a_value ≡ asked_by x →
    Keeps (loaded (value_of which n s.store) here s) → Keeps (cell_meets which n here x cs s)
not_assigned which (store_c v) n here cs s f h = absurd cc
not_assigned which x n here cs s f h = h

-- the value of a cell
cell-loads : (which : Which) (n : ℕ) (u : RowType) (D : DataTy) (here : Place) (cs : List (Pushed CopyContext)) (s : CopyState) (W : World) (P : PlainPath) →
    HasCell u which D → Stands (row n u) W → P ≡ end (data_atom D) → Behind s W P → AllTake W P cs → Holds s.next W s.store →
    Keeps (cell_under which n here cs s)
cell-loads which n u D here [] s W P c stands e b t h =
    let r = value_of-typed which W s.store s.next n u D c h stands in
    loaded-keeps (value_of which n s.store) r.0 here s W P r.1 (e ∙ ap end (sym r.2)) b h
cell-loads which n u D here (x ∷ cs) s W P c stands e b t h =
    let r = value_of-typed which W s.store s.next n u D c h stands in
    not_assigned which x.context n here cs s (sym (value_asked D e) ∙ Takes-asked (λ V Q. AllTake V Q cs) W P x.context t)
    (loaded-keeps (value_of which n s.store) r.0 here s W P r.1 (e ∙ ap end (sym r.2)) b h)

assigned-keeps : (which : Which) (o : Option Datum) (u : Datum) (n : ℕ) (v : Datum) (here : Place) (s : CopyState) → o ≡ Some u →
    Keeps (assigned (Some u) which n v here s) → Keeps (assigned o which n v here s)
assigned-keeps which (Some w) u n v here s f h = h
assigned-keeps which None u n v here s f h = absurd cc

-- a cell takes a new value
stores-in : (which : Which) (n : ℕ) (u : RowType) (D : DataTy) (here : Place) (x : CopyContext) (cs : List (Pushed CopyContext)) (s : CopyState) (W : World) (P : PlainPath) →
    HasCell u which D → Stands (row n u) W → P ≡ end (acceptor_atom D) → Takes (λ V Q. AllTake V Q cs) W P x → Holds s.next W s.store →
    Keeps (cell_meets which n here x cs s)
stores-in which n u D here (store_c v) cs s W P c stands e t h =
    let f = acceptor_atom-same t.0 D (ends_same t.1 e) in
    let r = value_of-typed which W s.store s.next n u D c h stands in
    assigned-keeps which (value_of which n s.store) r.0 n v here (record s { contexts = cs }) r.1
    (W, end atoms.Comm, refl, t.3, Holds-with_value which W s.store s.next n u D v c h stands (t.2 ∙ ap (λ E. data_atom E) f))
stores-in which n u D here x cs s W P c stands e t h =
    let f = sym (assignment_asked D e) ∙ Takes-asked (λ V Q. AllTake V Q cs) W P x t in absurd cc

cell-stores : (which : Which) (n : ℕ) (u : RowType) (D : DataTy) (here : Place) (cs : List (Pushed CopyContext)) (s : CopyState) (W : World) (P : PlainPath) →
    HasCell u which D → Stands (row n u) W → P ≡ end (acceptor_atom D) → AllTake W P cs → Holds s.next W s.store → Keeps (cell_under which n here cs s)
cell-stores which n u D here [] s W P c stands e t h = let f = sym (assignment_asked D e) ∙ run_asked t.1 in absurd cc
cell-stores which n u D here (x ∷ cs) s W P c stands e t h = stores-in which n u D here x.context cs s W P c stands e t h

-- a cell's variable is its value or its acceptor
cell-path : (D : DataTy) {P : PlainPath} → HasBelow (paths (cell_type D)) P → (P ≡ end (data_atom D)) ⊎ (P ≡ end (acceptor_atom D))
cell-path data_type.Int (first_path (ends same_end)) = inl refl
cell-path data_type.Bool (first_path (ends same_end)) = inl refl
cell-path data_type.Char (first_path (ends same_end)) = inl refl
cell-path data_type.Int (there (first_path (ends same_end))) = inr refl
cell-path data_type.Bool (there (first_path (ends same_end))) = inr refl
cell-path data_type.Char (there (first_path (ends same_end))) = inr refl
cell-path D (there (there some)) = elim some [ ]

-- a cell that stands, of a variable or of a sequence
pub cell-keeps : (which : Which) (n : ℕ) (u : RowType) (D : DataTy) (here : Place) (s : CopyState) (W : World) (P : PlainPath) → HasCell u which D →
    Stands (row n u) W → HasBelow (paths (cell_type D)) P → Behind s W P → Holds s.next W s.store → Keeps (cell_under which n here s.contexts s)
cell-keeps which n u D here s W P c stands some t h =
    elim (cell-path D some) [
      | inl e ↦ cell-loads which n u D here s.contexts s W P c stands e t t h
      | inr e ↦ cell-stores which n u D here s.contexts s W P c stands e t h
    ]

-- ---- sequences

-- a sequence's variable is called with an index for a cell, or its length is selected
pub sequence-path : {P : PlainPath} → HasBelow (paths sequence_type) P →
    ((E : PlainPaths) × (R : PlainPath) × (P ≡ call E R) × HasBelow E (end atoms.Int) × HasBelow (paths (cell_type data_type.Int)) R)
    ⊎ (P ≡ pick 0 (end atoms.Int))
sequence-path (first_path (calls {E = E} {q = R} (and_above some none) low)) = inl (E, R, refl, some, first_path low)
sequence-path (there (first_path (calls {E = E} {q = R} (and_above some none) low))) = inl (E, R, refl, some, there (first_path low))
sequence-path (there (there (first_path (picks (ends same_end))))) = inr refl
sequence-path (there (there (there some))) = elim some [ ]

-- an index is asked for
indexing-keeps : (n k : ℕ) (here : Place) (x : CopyContext) (s : CopyState) (W : World) (P : PlainPath) (E : PlainPaths) (R : PlainPath) →
    P ≡ call E R → HasBelow E (end atoms.Int) → HasBelow (paths (cell_type data_type.Int)) R → Stands (sequence n k) W →
    Takes (Behind s) W P x → Holds s.next W s.store → Keeps (sequence_meets n here x s)
indexing-keeps n k here (arg_c q) s W P E R e some cells_at stands t h =
    let a = t.2 in
    let f : t.0 ≡ E = cc in
    let g : t.1 ≡ R = cc in (
      W,
      end atoms.Int,
      answers-above W q [] some (subst (λ D. EachPath (λ Q. Answers W [] q Q) D) f t.3),
      (k, refl, stands, R, cells_at, subst (λ Q. Behind s W Q) g t.4),
      h,
    )
indexing-keeps n k here x s W P E R e some cells_at stands t h =
    let f = sym (ap (λ Q. first_asked Q) e) ∙ Takes-asked (Behind s) W P x t in absurd cc

measured-keeps : (x : Content) (k : ℕ) (here : Place) (s : CopyState) (W : World) → IsContentOf (many k) x → Behind s W (end atoms.Int) →
    Holds s.next W s.store → Keeps (measured (Some x) here s)
measured-keeps (single v) k here s W c t h = absurd c
measured-keeps (several at vs) k here s W c t h = (W, end atoms.Int, refl, t, h)

-- the length is
length-keeps : (n k : ℕ) (here : Place) (x : CopyContext) (s : CopyState) (W : World) (P : PlainPath) → P ≡ pick 0 (end atoms.Int) →
    Stands (sequence n k) W → Takes (Behind s) W P x → Holds s.next W s.store → Keeps (sequence_meets n here x s)
length-keeps n k here (pick_c i) s W P e stands t h =
    let a = t.1 in
    let f : i ≡ 0 = cc in
    let g : t.0 ≡ end atoms.Int = cc in
    let r = content_of-typed W s.store s.next n (many k) h stands in
    rw (eq-eqb i 0 f, r.1) (measured-keeps r.0 k here s W r.2 (subst (λ Q. Behind s W Q) g t.2) h)
length-keeps n k here x s W P e stands t h = let f = sym (ap (λ Q. first_asked Q) e) ∙ Takes-asked (Behind s) W P x t in absurd cc

pub sequence-keeps : (n k : ℕ) (here : Place) (x : CopyContext) (s : CopyState) (W : World) (P : PlainPath) → HasBelow (paths sequence_type) P →
    Stands (sequence n k) W → Takes (Behind s) W P x → Holds s.next W s.store → Keeps (sequence_meets n here x s)
sequence-keeps n k here x s W P some stands t h =
    elim (sequence-path some) [
      | inl c ↦ indexing-keeps n k here x s W P c.0 c.1 c.2 c.3 c.4 stands t h
      | inr e ↦ length-keeps n k here x s W P e stands t h
    ]

-- ---- jumps

not_a_row : (n m : ℕ) (u : RowType) (W V : World) → W ≡ row m u ∷ V → Stands (jump n) W → Stands (jump n) V
not_a_row n m u W V e stands = elim (subst (λ U. Stands (jump n) U) e stands) [ inl f ↦ absurd cc | inr s ↦ s ]

not_this_jump : (n m : ℕ) (W V : World) → W ≡ jump m ∷ V → nat_eq m n ≡ false → Stands (jump n) W → Stands (jump n) V
not_this_jump n m W V e apart stands =
    elim (subst (λ U. Stands (jump n) U) e stands) [
      | inl f ↦ (let g : n ≡ m = cc in let k = sym (eq-eqb m n (sym g)) ∙ apart in absurd cc)
      | inr s ↦ s
    ]

-- a context that isn't the jump's own is taken off
past : (n : ℕ) (x : CopyContext) (rest : World → PlainPath → Type 0) (W : World) (P : PlainPath) (store : List Row) (b : ℕ) → is_target n x ≡ false →
    Stands (jump n) W → Takes rest W P x → Holds b W store →
    (V : World) × (Q : PlainPath) × Stands (jump n) V × rest V Q × Holds b V (store_after x store)
past n (op_1 op at) rest W P store b f s t h = (W, end (unary_atom op), s, t.1, h)
past n (op_l op q at) rest W P store b f s t h = (W, end (binary_atom op), s, t.4, h)
past n (op_r op u at) rest W P store b f s t h = (W, end (binary_atom op), s, t.4, h)
past n (if_c p q) rest W P store b f s t h = (W, t.1, s, t.4, h)
past n (case_c parts at) rest W P store b f s t h = (W, t.1, s, t.3, h)
past n (arg_c q) rest W P store b f s t h = (W, t.1, s, t.4, h)
past n (pick_c i) rest W P store b f s t h = (W, t.0, s, t.2, h)
past n (then_c q) rest W P store b f s t h = (W, t.1, s, t.3, h)
past n (assign_c p) rest W P store b f s t h = (W, end atoms.Comm, s, t.3, h)
past n (store_c v) rest W P store b f s t h = (W, end atoms.Comm, s, t.3, h)
past n (while_c loop c) rest W P store b f s t h = (W, end atoms.Comm, s, t.3, h)
past n (body_c loop) rest W P store b f s t h = (W, end atoms.Comm, s, t.2, h)
past n (loop_c loop) rest W P store b f s t h = (W, t.1, s, t.3, h)
past n (new_c d c) rest W P store b f s t h = (W, t.2, s, t.5, h)
past n (drop_c m) rest W P store b f s t h = (t.1, P, not_a_row n m t.0 W t.1 t.2 s, t.4, Holds-without_row m t.0 W t.1 store b t.2 h)
past n (put_c kind) rest W P store b f s t h = (W, end atoms.Comm, s, t.1, h)
past n (esc_c m) rest W P store b f s t h =
    (t.0, end atoms.Comm, not_this_jump n m W t.0 t.1 f s, t.3, Holds-left m W t.0 store b t.1 h)
past n (cells_c d c at) rest W P store b f s t h = (W, t.1, s, t.4, h)
past n (fill_c m v d c at) rest W P store b f s t h = absurd t
past n (element_c m) rest W P store b f s t h = (W, t.3, s, t.5, h)

-- the jump's own context is the last that is taken off
landed : (n : ℕ) (x : CopyContext) (rest : World → PlainPath → Type 0) (W : World) (P : PlainPath) (store : List Row) (b : ℕ) → is_target n x ≡ true →
    Takes rest W P x → Holds b W store → (V : World) × rest V (end atoms.Comm) × Holds b V store
landed n (esc_c m) rest W P store b f t h = (t.0, t.3, Holds-left m W t.0 store b t.1 h)
landed n x rest W P store b f t h = absurd cc

pub jump-keeps : (n : ℕ) (here : Place) (cs : List (Pushed CopyContext)) (s : CopyState) (W : World) (P : PlainPath) → Stands (jump n) W →
    AllTake W P cs → Holds s.next W s.store → Keeps (jumped n here cs s)
jump-keeps n here [] s W P stands t h = absurd (subst (λ U. Stands (jump n) U) t.0 stands)
jump-keeps n here (c ∷ cs) s W P stands t h =
    let rest : World → PlainPath → Type 0 = λ V Q. AllTake V Q cs in
    by_test (is_target n c.context) _ (jumped n here cs (record s { store = store_after c.context s.store }))
    (λ f. let r = landed n c.context rest W P s.store s.next f t h in (r.0, end atoms.Comm, refl, r.1, r.2))
    (λ f. let r = past n c.context rest W P s.store s.next f stands t h in
    jump-keeps n here cs (record s { store = store_after c.context s.store }) r.0 r.1 r.2 r.3 r.4)
