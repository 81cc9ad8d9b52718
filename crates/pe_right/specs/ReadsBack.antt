-- Reading back: which state of the copy rule a state of the push-enter machine stands for. An address may stand for any node that is entered there, so for an operand and for its merge; a variable
-- stands for what its frame does.
use Rattle.std.specs.Prelude.{ℕ, ◌≡◌, ◌⊎◌, false, List, [], ◌∷◌, ◌++◌, replicate, Option, Some, None, pos}
use Rattle.fy_base.specs.declared.data.Place.{Place}
use Rattle.fy_base.specs.declared.data.Datum.{Datum}
use Rattle.fy_base.specs.declared.data.Datum.TheVariants as datum_kind
use Rattle.fy_phrase.specs.declared.phrase.MarkKind.TheVariants as marks
use Rattle.fy_phrase.specs.Tree.{Tree, Trees, lit, skip, mark, no_trees, and_tree}
use Rattle.fy_phrase.specs.Contexts.{CopyContext, op_1, op_l, op_r, if_c, case_c, arg_c, pick_c, then_c, assign_c, store_c, while_c, body_c, loop_c, new_c, drop_c, put_c, esc_c, cells_c, fill_c, element_c, Pushed}
use Rattle.fy_phrase.specs.Copy.{Row, single, several, CopyState}
use Rattle.fy_derive.specs.Shapes.{IsNodeAt}
use Rattle.pe_code.specs.declared.code.PeItem.{PeItem}
use Rattle.pe_code.specs.declared.code.PeCode.{PeCode}
use Rattle.pe_code.specs.Code.{item_at, entry_of, picked_from}
use Rattle.pe_machine.specs.States.{Pointer, Thunk, source, datum, cell_of, jump_of, sequence_of, Binding, to_thunk, to_cell, to_escape, to_sequence, Frame, Focus, code_at, value, completed, PeContext, Held, PeState, oldest, is_named}
use Rattle.pe_right.specs.Closing.{closed_by}

-- `handed` tells for which arguments and definitions the code has a datum
module _ (handed : Tree → Option Datum) (p : Tree) (code : PeCode) where
  -- a thunk stands for its node, closed by what its frame stands for, which E says, and a datum for its literal, or for a phrase that the code hands as this datum
  abbrev pub ThunkStands : (Option ℕ → List Tree → Type 0) → Thunk → Tree → Type 0
  ThunkStands E (source k r) q = (node : Tree) × (qs : List Tree) × IsNodeAt 0 p k node × E r qs × (q ≡ closed_by 0 qs node)
  ThunkStands E (datum v) q = ((at : Place) × (q ≡ lit v at)) ⊎ (handed q ≡ Some v)
  ThunkStands E (cell_of n) q = (at : Place) × (q ≡ mark (marks.Cell n) at)
  ThunkStands E (jump_of n) q = (at : Place) × (q ≡ mark (marks.Jump n) at)
  ThunkStands E (sequence_of n) q = (at : Place) × (q ≡ mark (marks.Sequence n) at)

  abbrev pub BindingStands : (Option ℕ → List Tree → Type 0) → ℕ → Binding → Tree → Type 0
  BindingStands E n (to_thunk t) q = ThunkStands E t q
  BindingStands E n (to_cell v) q = (at : Place) × (q ≡ mark (marks.Cell n) at)
  BindingStands E n to_escape q = (at : Place) × (q ≡ mark (marks.Jump n) at)
  BindingStands E n (to_sequence c) q = (at : Place) × (q ≡ mark (marks.Sequence n) at)

  -- the frame that is named, and those around it, stand for these phrases, the innermost first; each thunk names an older frame
  abbrev pub FramesStand : List Frame → Option ℕ → List Tree → Type 0
  FramesStand [] r qs = (r ≡ None) × (qs ≡ [])
  FramesStand (f ∷ fs) r qs =
      ((r ≡ Some f.number) × ((q : Tree) × (rest : List Tree) × (qs ≡ q ∷ rest) × BindingStands (FramesStand fs) f.number f.binding q × FramesStand fs f.around rest))
      ⊎ ((is_named r f.number ≡ false) × FramesStand fs r qs)

  -- code stands for a node that is entered at its address, closed by what its frame stands for, n binders farther in
  abbrev pub CodeStandsUnder : ℕ → List Frame → Pointer → Tree → Type 0
  CodeStandsUnder n fs c q =
      (k shape : ℕ) × (node : Tree) × (qs : List Tree) × IsNodeAt 0 p k node × (entry_of code k shape ≡ Some c.address) × FramesStand fs c.frame qs × (q ≡ closed_by n qs node)

  abbrev pub CodeStands : List Frame → Pointer → Tree → Type 0
  CodeStands fs c q = CodeStandsUnder 0 fs c q

  -- each of the addresses, in the frame, stands for one of the parts
  abbrev pub EachStands : List Frame → Option ℕ → List ℕ → Trees → Type 0
  EachStands fs r [] no_trees = Unit {0}
  EachStands fs r (y ∷ ys) (and_tree q qs) = CodeStands fs (record { address = y; frame = r }) q × EachStands fs r ys qs
  EachStands fs r [] (and_tree q qs) = ⊥
  EachStands fs r (y ∷ ys) no_trees = ⊥

  -- the instruction picks from these parts
  abbrev pub PartsStand : List Frame → Pointer → Trees → Type 0
  PartsStand fs c parts = (i : PeItem) × (item_at code c.address ≡ Some i) × EachStands fs c.frame (picked_from i.insn) parts

  abbrev pub ContextStands : List Frame → PeContext → CopyContext → Type 0
  ContextStands fs (op_1 op at) x = x ≡ op_1 op at
  ContextStands fs (op_l op c at) x = (q : Tree) × (x ≡ op_l op q at) × CodeStands fs c q
  ContextStands fs (op_r op u at) x = x ≡ op_r op u at
  ContextStands fs (if_c c d) x = (q r : Tree) × (x ≡ if_c q r) × CodeStands fs c q × CodeStands fs d r
  ContextStands fs (case_c c at) x = (parts : Trees) × (x ≡ case_c parts at) × PartsStand fs c parts
  ContextStands fs (arg_c t) x = (q : Tree) × (x ≡ arg_c q) × ThunkStands (FramesStand fs) t q
  ContextStands fs (pick_c i) x = x ≡ pick_c i
  ContextStands fs (then_c c) x = (q : Tree) × (x ≡ then_c q) × CodeStands fs c q
  ContextStands fs (assign_c c) x = (q : Tree) × (x ≡ assign_c q) × CodeStands fs c q
  ContextStands fs (store_c v) x = x ≡ store_c v
  ContextStands fs (while_c c d) x = (q r : Tree) × (x ≡ while_c q r) × CodeStands fs c q × CodeStands fs d r
  ContextStands fs (body_c c) x = (q : Tree) × (x ≡ body_c q) × CodeStands fs c q
  ContextStands fs (loop_c c) x = (q : Tree) × (x ≡ loop_c q) × CodeStands fs c q
  ContextStands fs (new_c d c) x = (q : Tree) × (x ≡ new_c d q) × CodeStandsUnder 1 fs c q
  ContextStands fs (drop_c n) x = x ≡ drop_c n
  ContextStands fs (put_c kind) x = x ≡ put_c kind
  ContextStands fs (esc_c n) x = x ≡ esc_c n
  ContextStands fs (cells_c d c at) x = (q : Tree) × (x ≡ cells_c d q at) × CodeStandsUnder 1 fs c q
  ContextStands fs (fill_c n v d c at) x = (q : Tree) × (x ≡ fill_c n v d q at) × CodeStandsUnder 1 fs c q
  ContextStands fs (element_c w) x = x ≡ element_c w.number

  -- each context stands for one, in the frames that stood when it was pushed
  abbrev pub ContextsStand : List Frame → List Held → List (Pushed CopyContext) → Type 0
  ContextsStand fs [] [] = Unit {0}
  ContextsStand fs (c ∷ cs) (x ∷ xs) = ContextStands (oldest c.frames fs) c.context x.context × ContextsStand (oldest c.frames fs) cs xs
  ContextsStand fs [] (x ∷ xs) = ⊥
  ContextsStand fs (c ∷ cs) [] = ⊥

  abbrev pub FocusStands : List Frame → Focus → Tree → Type 0
  FocusStands fs (code_at c) q = CodeStands fs c q
  FocusStands fs (value v) q = (at : Place) × (q ≡ lit v at)
  FocusStands fs completed q = (at : Place) × (q ≡ skip at)

-- the cell or the sequence of cells of frame n, if it holds one, before the others
abbrev pub with_cell_of : ℕ → Binding → List Row → List Row
with_cell_of n (to_thunk t) cs = cs
with_cell_of n (to_cell v) cs = (record { number = n; content = single v }) ∷ cs
with_cell_of n to_escape cs = cs
with_cell_of n (to_sequence c) cs = (record { number = n; content = several c.place c.values }) ∷ cs

-- the cells that the frames hold
abbrev pub cells_in : List Frame → List Row
cells_in [] = []
cells_in (f ∷ fs) = with_cell_of f.number f.binding (cells_in fs)

-- the sequence that a context fills, which has k cells so far, each with 0
abbrev pub filled_by : ℕ → PeContext → List Row
filled_by k (fill_c n v d c at) = (record { number = n; content = several at (replicate k (datum_kind.Int (pos 0))) }) ∷ []
filled_by k c = []

abbrev pub filled_under : ℕ → List Held → List Row
filled_under k [] = []
filled_under k (c ∷ cs) = filled_by k c.context

-- a sequence that is filled, which no frame holds yet: it has as many cells as the datum in focus says
abbrev pub filling : Focus → List Held → List Row
filling (value (datum_kind.Int (pos k))) cs = filled_under k cs
filling f cs = []

-- the state of the machine stands for the copy state; places of literals, finished commands and marks that a step made are open, and numbers of cells, of sequences of cells and of escapes are the same on both sides
pub record ReadsBack (handed : Tree → Option Datum) (p : Tree) (code : PeCode) (s : PeState) (c : CopyState) : Type 0 where
  pub focus : FocusStands handed p code s.frames s.focus c.focus
  pub contexts : ContextsStand handed p code s.frames s.contexts c.contexts
  pub store : c.store ≡ filling s.focus s.contexts ++ cells_in s.frames
