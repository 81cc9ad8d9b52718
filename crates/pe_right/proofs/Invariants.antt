-- What stands between a state of the machine and one of the copy rule: each focus answers a path, each context takes one and gives one, and both are read in the frames that they keep.
use Rattle.std.proofs.Common.{ℕ, suc, ◌+◌, ◌<◌, ◌≤◌, ◌≡◌, ◌⊎◌, Bool, true, false, List, [], ◌∷◌, length, replicate, Option, Some, None, pos}
use Rattle.fy_base.specs.declared.data.Place.{Place}
use Rattle.fy_base.specs.declared.data.Datum.{Datum}
use Rattle.fy_base.specs.declared.data.Datum.TheVariants as datum_kind
use Rattle.fy_base.specs.declared.data.UnOp.{UnOp}
use Rattle.fy_base.specs.declared.data.BinOp.{BinOp}
use Rattle.fy_base.specs.declared.data.PutKind.{PutKind}
use Rattle.fy_types.specs.declared.types.Atom.{Atom}
use Rattle.fy_types.specs.declared.types.Atom.TheVariants as atoms
use Rattle.fy_types.specs.Paths.{PlainPath, PlainPaths, end, call, pick, paths}
use Rattle.fy_types.specs.PathOrder.{HasBelow}
use Rattle.fy_phrase.specs.declared.phrase.DataTy.{DataTy}
use Rattle.fy_phrase.specs.declared.phrase.DataTy.TheVariants as data_type
use Rattle.fy_phrase.specs.declared.phrase.MarkKind.TheVariants as marks
use Rattle.fy_phrase.specs.declared.shapes.ShapeTable.{ShapeTable}
use Rattle.fy_phrase.specs.Tree.{Tree, Trees, no_trees, and_tree, var, lit, skip, mark}
use Rattle.fy_phrase.specs.Sizes.{nodes}
use Rattle.fy_phrase.specs.WellMade.{IsClosed, IsClosedUnder, HasDepths, HasDepthsUnder}
use Rattle.fy_phrase.specs.Contexts.{CopyContext, op_1, op_l, op_r, if_c, case_c, arg_c, pick_c, then_c, assign_c, store_c, while_c, body_c, loop_c, new_c, drop_c, put_c, esc_c, cells_c, fill_c, element_c, Pushed}
use Rattle.fy_phrase.specs.Copy.{several, Which, own, element, CopyState}
use Rattle.fy_derive.specs.Atoms.{data_atom, acceptor_atom, cell_type, sequence_type, datum_atom, operand_atom, unary_atom, takes, binary_atom, put_atom}
use Rattle.fy_derive.specs.Shapes.{erase}
use Rattle.fy_derive.specs.ShapeTables.{HasPairOf}
use Rattle.fy_derive.proofs.PathTyping.{IsRun}
use Rattle.fy_derive.proofs.StateTyping.{AreInts}
use Rattle.pe_code.specs.declared.code.PeItem.{PeItem}
use Rattle.pe_code.specs.declared.code.PeCode.{PeCode}
use Rattle.pe_code.specs.Code.{item_at, picked_from}
use Rattle.pe_machine.specs.States.{Pointer, Thunk, source, datum, cell_of, jump_of, sequence_of, Binding, to_thunk, to_cell, to_escape, to_sequence, Frame, Focus, code_at, value, completed, Wanted, PeContext, Held, PeState, oldest, is_named}
use Rattle.pe_right.specs.Closing.{closed_by}
use Rattle.pe_right.specs.Constants.{constant}
use Rattle.pe_right.specs.Entered.{BinderKind, a_cell, another, Entering, IsEntered}
use Rattle.pe_right.specs.Right.{is_variable, Enters, IsCodeOf}
use Rattle.pe_right.specs.Typed.{IsTableOf}
use Rattle.pe_right.specs.ReadsBack.{cells_in}
use Rattle.pe_right.proofs.Merges.{spare}
use Rattle.pe_right.proofs.Demanding.{Answers}
use Rattle.pe_right.proofs.FrameLemmas.{Below, HasFrame, IsEscape, Mark, a_row, an_escape, marks_in}

-- a closed phrase, the table of an accepted derivation, the data of constants that are known, and code that is right for these
pub record Compiled : Type 0 where
  pub phrase : Tree
  pub table : ShapeTable
  pub code : PeCode
  pub closed : IsClosed phrase
  pub depths : HasDepths phrase
  pub typed : IsTableOf phrase table
  pub handed : Tree → Option Datum
  pub constants : (q : Tree) (v : Datum) → handed q ≡ Some v → constant q ≡ Some v
  pub straight : ℕ → Entering
  pub right : IsCodeOf handed straight phrase table code

-- the fact holds of each path above one of the list
abbrev pub Above : PlainPaths → (PlainPath → Type 0) → Type 0
Above D F = (P : PlainPath) → HasBelow D P → F P

-- the cell of a variable has a datum of the type
abbrev pub OwnHolds : Which → DataTy → Datum → Type 0
OwnHolds own X v = datum_atom v ≡ data_atom X
OwnHolds (element i) X v = ⊥

-- the cells of a sequence have integers
abbrev pub ElementHolds : Which → DataTy → List Datum → Type 0
ElementHolds own X vs = ⊥
ElementHolds (element i) X vs = (i < length vs) × AreInts vs × (data_type.Int ≡ X)

-- the binding has the cell, with a datum of the type
abbrev pub HoldsDatum : Which → DataTy → Binding → Type 0
HoldsDatum which X (to_thunk t) = ⊥
HoldsDatum which X (to_cell v) = OwnHolds which X v
HoldsDatum which X to_escape = ⊥
HoldsDatum which X (to_sequence c) = ElementHolds which X c.values

abbrev pub HasCell : Which → DataTy → ℕ → List Frame → Type 0
HasCell which X n fs = HasFrame (λ b. HoldsDatum which X b) n fs

-- the binding is a sequence of cells
abbrev pub HoldsInts : Binding → Type 0
HoldsInts (to_thunk t) = ⊥
HoldsInts (to_cell v) = ⊥
HoldsInts to_escape = ⊥
HoldsInts (to_sequence c) = AreInts c.values

abbrev pub HasSequence : ℕ → List Frame → Type 0
HasSequence n fs = HasFrame (λ b. HoldsInts b) n fs

-- how a cell that is wanted is used
abbrev pub wanted_atom : Bool → Atom
wanted_atom true = atoms.IntAcc
wanted_atom false = atoms.Int

abbrev pub HasEscape : ℕ → List Frame → Type 0
HasEscape n fs = HasFrame (λ b. IsEscape b) n fs

-- the marks with the context's own in front
abbrev pub marked : PeContext → List Mark → List Mark
marked (drop_c n) ms = a_row n ∷ ms
marked (esc_c n) ms = an_escape n ∷ ms
marked (op_1 op at) ms = ms
marked (op_l op c at) ms = ms
marked (op_r op u at) ms = ms
marked (if_c c d) ms = ms
marked (case_c c at) ms = ms
marked (arg_c t) ms = ms
marked (pick_c i) ms = ms
marked (then_c c) ms = ms
marked (assign_c c) ms = ms
marked (store_c v) ms = ms
marked (while_c c d) ms = ms
marked (body_c c) ms = ms
marked (loop_c c) ms = ms
marked (new_c d c) ms = ms
marked (put_c kind) ms = ms
marked (cells_c d c at) ms = ms
marked (fill_c n v d c at) ms = ms
marked (element_c n) ms = ms

-- a frame binds as the binder says
abbrev pub IsBoundBy : BinderKind → Binding → Type 0
IsBoundBy a_cell (to_thunk t) = ⊥
IsBoundBy a_cell (to_cell v) = Unit {0}
IsBoundBy a_cell to_escape = ⊥
IsBoundBy a_cell (to_sequence c) = ⊥
IsBoundBy another b = Unit {0}

-- the frame that is named, and those around it, bind as the binders say, of which the first is the innermost
abbrev pub AreBoundBy : List Frame → Option ℕ → List BinderKind → Type 0
AreBoundBy [] r w = (r ≡ None) × (w ≡ [])
AreBoundBy (f ∷ fs) r w =
    ((r ≡ Some f.number) × ((b : BinderKind) × (rest : List BinderKind) × (w ≡ b ∷ rest) × IsBoundBy b f.binding × AreBoundBy fs f.around rest))
    ⊎ ((is_named r f.number ≡ false) × AreBoundBy fs r w)

-- how many steps of the machine may follow, at most, before one that the copy rule makes too
abbrev pub rank_of : Tree → ℕ
rank_of (var k at) = 2
rank_of (lit v at) = 1
rank_of (skip at) = 1
rank_of p = 0

module _ (g : Compiled) where
  abbrev pub Answered : List PlainPaths → ℕ → Tree → PlainPath → Type 0
  Answered G k q P = Answers (HasPairOf g.table) G k q P

  -- node k of the phrase, which is entered, with d binders around it, as which the frame that is named and those around it bind
  pub record IsNode (fs : List Frame) (r : Option ℕ) (d k : ℕ) (q : Tree) : Type 0 where
    pub binders : List BinderKind
    pub stands : IsEntered g.straight [] 0 g.phrase binders k q
    pub many : length binders ≡ d
    pub bound : AreBoundBy fs r binders
    pub closed : IsClosedUnder d q
    pub depths : HasDepthsUnder d q

  -- the body of a binder, which stands before d others
  pub record IsBody (fs : List Frame) (r : Option ℕ) (b : BinderKind) (d k : ℕ) (q : Tree) : Type 0 where
    pub binders : List BinderKind
    pub stands : IsEntered g.straight [] 0 g.phrase (b ∷ binders) k q
    pub many : length binders ≡ d
    pub bound : AreBoundBy fs r binders
    pub closed : IsClosedUnder (suc d) q
    pub depths : HasDepthsUnder (suc d) q

  -- the shape of an index has a number
  abbrev pub IndexKnown : Type 0
  IndexKnown = (n : ℕ) × (g.code.sequences.value ≡ Some n)

  -- ---- frames

  -- a thunk stands for a phrase that answers the paths D; E says what frames stand for
  abbrev pub ThunkAnswersIn : (Option ℕ → List Tree → List PlainPaths → Type 0) → List Frame → Thunk → Tree → PlainPaths → Type 0
  ThunkAnswersIn E fs (source k r) q D =
      (node : Tree) × (qs : List Tree) × (G : List PlainPaths) × IsNode fs r (length G) k node × (is_variable node ≡ None) × E r qs G × Above D (λ P. Answered G k node P)
      × (q ≡ closed_by 0 qs node)
  ThunkAnswersIn E fs (datum v) q D =
      (constant q ≡ Some v) × (nodes q ≤ spare g.phrase + 1) × Above D (λ P. P ≡ end (datum_atom v)) × (((at : Place) × (q ≡ lit v at)) ⊎ (g.handed q ≡ Some v))
  ThunkAnswersIn E fs (cell_of n) q D =
      (at : Place) × (X : DataTy) × (q ≡ mark (marks.Cell n) at) × HasCell own X n fs × Above D (λ P. HasBelow (paths (cell_type X)) P)
  ThunkAnswersIn E fs (jump_of n) q D = (at : Place) × (q ≡ mark (marks.Jump n) at) × HasEscape n fs × Above D (λ P. IsRun P)
  ThunkAnswersIn E fs (sequence_of n) q D =
      (at : Place) × (q ≡ mark (marks.Sequence n) at) × IndexKnown × HasSequence n fs × Above D (λ P. HasBelow (paths sequence_type) P)

  abbrev pub BindingAnswersIn : (Option ℕ → List Tree → List PlainPaths → Type 0) → List Frame → ℕ → Binding → Tree → PlainPaths → Type 0
  BindingAnswersIn E fs n (to_thunk t) q D = ThunkAnswersIn E fs t q D
  BindingAnswersIn E fs n (to_cell v) q D =
      (at : Place) × (X : DataTy) × (q ≡ mark (marks.Cell n) at) × (datum_atom v ≡ data_atom X) × Above D (λ P. HasBelow (paths (cell_type X)) P)
  BindingAnswersIn E fs n to_escape q D = (at : Place) × (q ≡ mark (marks.Jump n) at) × Above D (λ P. IsRun P)
  BindingAnswersIn E fs n (to_sequence c) q D =
      (at : Place) × (q ≡ mark (marks.Sequence n) at) × IndexKnown × AreInts c.values × Above D (λ P. HasBelow (paths sequence_type) P)

  -- the frame that is named, and those around it, stand for the phrases qs with the paths G
  abbrev pub FramesAnswer : List Frame → Option ℕ → List Tree → List PlainPaths → Type 0
  FramesAnswer [] r qs G = (r ≡ None) × (qs ≡ []) × (G ≡ [])
  FramesAnswer (f ∷ fs) r qs G =
      ((r ≡ Some f.number) × ((q : Tree) × (rest : List Tree) × (D : PlainPaths) × (H : List PlainPaths) × (qs ≡ q ∷ rest) × (G ≡ D ∷ H)
      × BindingAnswersIn (FramesAnswer fs) fs f.number f.binding q D × FramesAnswer fs f.around rest H))
      ⊎ ((is_named r f.number ≡ false) × FramesAnswer fs r qs G)

  abbrev pub ThunkAnswers : List Frame → Thunk → Tree → PlainPaths → Type 0
  ThunkAnswers fs t q D = ThunkAnswersIn (FramesAnswer fs) fs t q D

  abbrev pub BindingAnswers : List Frame → ℕ → Binding → Tree → PlainPaths → Type 0
  BindingAnswers fs n b q D = BindingAnswersIn (FramesAnswer fs) fs n b q D

  -- ---- code and contexts

  -- code stands for a node that answers the path and is entered there at its shape
  abbrev pub CodeAnswers : List Frame → Pointer → Tree → PlainPath → Type 0
  CodeAnswers fs c q P =
      (k : ℕ) × (node : Tree) × (qs : List Tree) × (G : List PlainPaths) × IsNode fs c.frame (length G) k node × Answered G k node P × Enters g.table g.code k (erase P) c.address
      × FramesAnswer fs c.frame qs G × (q ≡ closed_by 0 qs node)

  -- the like for a body, whose own variable has the paths D
  abbrev pub BodyAnswers : BinderKind → List Frame → Pointer → Tree → PlainPaths → PlainPath → Type 0
  BodyAnswers y fs c b D P =
      (k : ℕ) × (node : Tree) × (qs : List Tree) × (G : List PlainPaths) × IsBody fs c.frame y (length G) k node × Answered (D ∷ G) k node P
      × Enters g.table g.code k (erase P) c.address × FramesAnswer fs c.frame qs G × (b ≡ closed_by 1 qs node)

  abbrev pub EachCodeAnswers : List Frame → Option ℕ → List ℕ → Trees → PlainPath → Type 0
  EachCodeAnswers fs r [] no_trees P = Unit {0}
  EachCodeAnswers fs r (y ∷ ys) (and_tree q qs) P = CodeAnswers fs (record { address = y; frame = r }) q P × EachCodeAnswers fs r ys qs P
  EachCodeAnswers fs r [] (and_tree q qs) P = ⊥
  EachCodeAnswers fs r (y ∷ ys) no_trees P = ⊥

  abbrev pub PartsAnswer : List Frame → Pointer → Trees → PlainPath → Type 0
  PartsAnswer fs c parts P = (i : PeItem) × (item_at g.code c.address ≡ Some i) × EachCodeAnswers fs c.frame (picked_from i.insn) parts P

  -- a context stands for one, takes the first path and gives the second
  pub data ContextTakes (fs : List Frame) : PeContext → CopyContext → PlainPath → PlainPath → Type 0 where
    unary_operand : {op : UnOp} {at : Place} → ContextTakes fs (op_1 op at) (op_1 op at) (end (operand_atom op)) (end (unary_atom op))
    left_operand : {op : BinOp} {c : Pointer} {q : Tree} {at : Place} (D : DataTy) → takes op D ≡ true → CodeAnswers fs c q (end (data_atom D)) →
        ContextTakes fs (op_l op c at) (op_l op q at) (end (data_atom D)) (end (binary_atom op))
    right_operand : {op : BinOp} {u : Datum} {at : Place} (D : DataTy) → takes op D ≡ true → datum_atom u ≡ data_atom D →
        ContextTakes fs (op_r op u at) (op_r op u at) (end (data_atom D)) (end (binary_atom op))
    condition : {c d : Pointer} {q r : Tree} {P : PlainPath} → CodeAnswers fs c q P → CodeAnswers fs d r P → ContextTakes fs (if_c c d) (if_c q r) (end atoms.Bool) P
    index : {c : Pointer} {parts : Trees} {at : Place} {P : PlainPath} → PartsAnswer fs c parts P → ContextTakes fs (case_c c at) (case_c parts at) (end atoms.Int) P
    procedure : {t : Thunk} {q : Tree} {D : PlainPaths} {P : PlainPath} → ThunkAnswers fs t q D → ContextTakes fs (arg_c t) (arg_c q) (call D P) P
    selected : {i : ℕ} {P : PlainPath} → ContextTakes fs (pick_c i) (pick_c i) (pick i P) P
    first_command : {c : Pointer} {q : Tree} {P : PlainPath} → CodeAnswers fs c q P → ContextTakes fs (then_c c) (then_c q) (end atoms.Comm) P
    assigned_value : {c : Pointer} {q : Tree} (D : DataTy) → CodeAnswers fs c q (end (acceptor_atom D)) →
        ContextTakes fs (assign_c c) (assign_c q) (end (data_atom D)) (end atoms.Comm)
    acceptor : {v : Datum} (D : DataTy) → datum_atom v ≡ data_atom D → ContextTakes fs (store_c v) (store_c v) (end (acceptor_atom D)) (end atoms.Comm)
    loop_test : {c d : Pointer} {q r : Tree} → CodeAnswers fs c q (end atoms.Comm) → CodeAnswers fs d r (end atoms.Comm) →
        ContextTakes fs (while_c c d) (while_c q r) (end atoms.Bool) (end atoms.Comm)
    loop_body : {c : Pointer} {q : Tree} → CodeAnswers fs c q (end atoms.Comm) → ContextTakes fs (body_c c) (body_c q) (end atoms.Comm) (end atoms.Comm)
    endless_body : {c : Pointer} {q : Tree} {P : PlainPath} → CodeAnswers fs c q P → ContextTakes fs (loop_c c) (loop_c q) (end atoms.Comm) P
    first_value : {d : ℕ} {c : Pointer} {b : Tree} {P : PlainPath} (D : DataTy) → IsRun P → BodyAnswers a_cell fs c b (paths (cell_type D)) P →
        ContextTakes fs (new_c d c) (new_c d b) (end (data_atom D)) P
    cells_wanted : {d : ℕ} {c : Pointer} {b : Tree} {at : Place} {P : PlainPath} → IsRun P → IndexKnown → BodyAnswers another fs c b (paths sequence_type) P →
        ContextTakes fs (cells_c d c at) (cells_c d b at) (end atoms.Int) P
    element_wanted : {w : Wanted} → HasSequence w.number fs → ContextTakes fs (element_c w) (element_c w.number) (end atoms.Int) (end (wanted_atom w.is_written))
    cell_body : {n : ℕ} {P : PlainPath} → IsRun P → ContextTakes fs (drop_c n) (drop_c n) P P
    put_datum : {kind : PutKind} → ContextTakes fs (put_c kind) (put_c kind) (end (put_atom kind)) (end atoms.Comm)
    escape_body : {n : ℕ} → ContextTakes fs (esc_c n) (esc_c n) (end atoms.Comm) (end atoms.Comm)

  -- the contexts stand for contexts, and the newest takes the path
  abbrev pub ContextsTake : List Frame → List Held → List (Pushed CopyContext) → PlainPath → Type 0
  ContextsTake fs [] [] P = IsRun P × (marks_in fs ≡ [])
  ContextsTake fs (c ∷ cs) (x ∷ xs) P =
      (x.base ≡ c.base) × (c.frames ≤ length fs) × (marks_in fs ≡ marked c.context (marks_in (oldest c.frames fs)))
      × ((Q : PlainPath) × ContextTakes (oldest c.frames fs) c.context x.context P Q × ContextsTake (oldest c.frames fs) cs xs Q)
  ContextsTake fs [] (x ∷ xs) P = ⊥
  ContextsTake fs (c ∷ cs) [] P = ⊥

  -- ---- states

  -- the focus answers the path; r bounds the rank of what the code stands for
  abbrev pub FocusAnswers : ℕ → List Frame → Focus → Tree → PlainPath → Type 0
  FocusAnswers r fs (code_at c) q P = (s : CodeAnswers fs c q P) × (rank_of s.1 ≤ r)
  FocusAnswers r fs (value v) q P = (at : Place) × (q ≡ lit v at) × (P ≡ end (datum_atom v))
  FocusAnswers r fs completed q P = (at : Place) × (q ≡ skip at) × (P ≡ end atoms.Comm)

  -- what stands beside the focus, where the contexts take the path
  abbrev pub Behind : PeState → CopyState → PlainPath → Type 0
  Behind s c P = ContextsTake s.frames s.contexts c.contexts P × (c.store ≡ cells_in s.frames) × Below s.next s.frames × (c.next ≡ s.next) × (c.load ≡ s.load)

  abbrev pub Simulates : ℕ → PeState → CopyState → Type 0
  Simulates r s c = (P : PlainPath) × FocusAnswers r s.frames s.focus c.focus P × Behind s c P

  -- a state in which a sequence is filled: the datum in focus says how many of its cells are there, and no frame holds it yet
  pub record Fills (s : PeState) (c : CopyState) : Type 0 where
    pub made : ℕ
    pub wanted : ℕ
    pub few : made ≤ wanted
    -- the context that is filled, and those behind it
    pub depth : ℕ
    pub body : Pointer
    pub phrase : Tree
    pub place : Place
    pub base : ℕ
    pub behind : List Held
    pub copy_behind : List (Pushed CopyContext)
    pub focus : s.focus ≡ value (datum_kind.Int (pos made))
    pub contexts : s.contexts ≡ (record { base = base; frames = length s.frames; context = fill_c s.next wanted depth body place }) ∷ behind
    pub here : Place
    pub copy_focus : c.focus ≡ lit (datum_kind.Int (pos made)) here
    pub copy_contexts : c.contexts ≡ (record { base = base; context = fill_c s.next wanted depth phrase place }) ∷ copy_behind
    -- the body runs behind them
    pub path : PlainPath
    pub run : IsRun path
    pub known : IndexKnown
    pub answers : BodyAnswers another s.frames body phrase (paths sequence_type) path
    pub takes_path : ContextsTake s.frames behind copy_behind path
    pub store : c.store ≡ (record { number = s.next; content = several place (replicate made (datum_kind.Int (pos 0))) }) ∷ cells_in s.frames
    pub below : Below s.next s.frames
    pub next : c.next ≡ s.next
    pub load : c.load ≡ s.load

  abbrev pub Follows : ℕ → PeState → CopyState → Type 0
  Follows r s c = Simulates r s c ⊎ Fills s c
