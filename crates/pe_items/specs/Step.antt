-- The steps of the push-enter machine on items. An answer and a jump cut the items back to those below the context; a context that is taken stays among the items until such a cut.
-- The cells of a sequence that is not complete stand on its context, which is written anew with each.
use Rattle.std.specs.Prelude.{ℕ, ◌+◌, Bool, true, false, nat_eq, nat_lt, if◌then◌else◌, List, [], ◌∷◌, length, replicate, slice_get, Some, None, pos, negsuc}
use Rattle.std.specs.declared.option.Option.{Option}
use Rattle.fy_base.specs.declared.data.Place.{Place}
use Rattle.fy_base.specs.declared.data.Datum.{Datum}
use Rattle.fy_base.specs.declared.data.Datum.TheVariants as datum_kind
use Rattle.fy_base.specs.declared.data.BinOp.{BinOp}
use Rattle.fy_base.specs.declared.data.BinOp.TheVariants.{And, Or}
use Rattle.fy_base.specs.declared.data.FaultKind.{FaultKind}
use Rattle.fy_base.specs.declared.data.FaultKind.TheVariants.{Range}
use Rattle.fy_base.specs.declared.arithmetic.Applied.{Applied}
use Rattle.fy_base.specs.declared.arithmetic.Applied.TheVariants.{Gives, Faults, NoSense}
use Rattle.fy_base.specs.Outside.{Bytes}
use Rattle.fy_base.specs.Arithmetic.{unary_result, binary_result, written_text}
use Rattle.fy_phrase.specs.Contexts.{op_1, op_l, op_r, if_c, case_c, arg_c, pick_c, then_c, assign_c, store_c, while_c, body_c, loop_c, new_c, drop_c, put_c, esc_c, cells_c, fill_c, element_c}
use Rattle.fy_phrase.specs.Copy.{Which, own, element, byte_or_end}
use Rattle.pe_code.specs.declared.code.PeInsn.{PeInsn}
use Rattle.pe_code.specs.declared.code.PeInsn.TheVariants as insn
use Rattle.pe_code.specs.declared.code.StraightPart.{StraightPart}
use Rattle.pe_code.specs.declared.code.PeItem.{PeItem}
use Rattle.pe_code.specs.declared.code.PeCode.{PeCode}
use Rattle.pe_code.specs.Code.{item_at, entry_of}
use Rattle.pe_code.specs.Straight.{Reading, no_frame, cell_read, Outcome, leaves, fails, has_none, misses, outcome_after}
use Rattle.pe_machine.specs.States.{Pointer, Thunk, source, datum, cell_of, jump_of, sequence_of, Sequence, Focus, code_at, value, completed, Wanted, PeContext}
use Rattle.pe_machine.specs.Step.{is_assignment, parts_at, waiting, Asked, a_cell, a_length, no_part, asked_at}
use Rattle.pe_items.specs.Items.{ItemBinding, to_thunk, to_cell, to_escape, frame, context, sequence, address_on, FoundContext, context_at, FoundFrame, frame_from, datum_in, handed_by, escape_at, sequence_at, value_at, with_value, ItemState}

-- where a step leads, as the push-enter machine's does
pub data ItemMove : Type 0 where
  goes : (s : ItemState) → ItemMove
  puts : (text : Bytes) (s : ItemState) → ItemMove
  takes : (go : Option ℕ → ItemState) → ItemMove
  faults : (kind : FaultKind) (at : Place) → ItemMove
  -- no step is defined, or what it needs isn't there
  sticks : ItemMove

-- ---- words of the table

abbrev pub focus_on : Focus → ItemState → ItemState
focus_on f s = record s { focus = f }

abbrev pub focused : Focus → ItemState → ItemMove
focused f s = goes (focus_on f s)

-- a context is pushed, and is the newest
abbrev pub push : PeContext → ItemState → ItemState
push c s = record s { newest = address_on s.items; items = context c s.newest ∷ s.items }

abbrev pub pushed : PeContext → Pointer → ItemState → ItemMove
pushed c p s = goes (focus_on (code_at p) (push c s))

-- a frame is made, and on with the body at the address, in that frame
abbrev pub bound : ℕ → ItemBinding → ℕ → Option ℕ → ItemState → ItemMove
bound d b body around s =
    goes (record s { focus = code_at (record { address = body; frame = Some (address_on s.items) }); items = frame d b around ∷ s.items })

-- an answer cuts the items back to those that are older than the newest context
abbrev pub answered : (PeContext → ItemState → ItemMove) → Option FoundContext → ItemState → ItemMove
answered meets None s = sticks
answered meets (Some c) s = meets c.content (record s { newest = c.outside; items = c.older })

-- the newest context is taken; the items stay
abbrev pub taken : (PeContext → ItemState → ItemMove) → Option FoundContext → ItemState → ItemMove
taken meets None s = sticks
taken meets (Some c) s = meets c.content (record s { newest = c.outside })

abbrev pub newest_of : ItemState → Option FoundContext
newest_of s = context_at s.newest s.items

-- ---- cells

abbrev pub loaded : Option Datum → ItemState → ItemMove
loaded (Some v) s = focused (value v) s
loaded None s = sticks

abbrev pub assigned : Option Datum → Which → ℕ → Datum → ItemState → ItemMove
assigned (Some u) which x v s = focused completed (record s { items = with_value which x v s.items })
assigned None which x v s = sticks

abbrev pub assignment_meets : Which → ℕ → PeContext → ItemState → ItemMove
assignment_meets which x (store_c v) s = assigned (value_at which x s.items) which x v s
assignment_meets which x _ s = sticks

abbrev pub cell_entered : Bool → Which → ℕ → ItemState → ItemMove
cell_entered true which x s = taken (assignment_meets which x) (newest_of s) s
cell_entered false which x s = loaded (value_at which x s.items) s

abbrev pub element_picked : Datum → Wanted → Option Sequence → ItemState → ItemMove
element_picked (datum_kind.Int (pos i)) w (Some c) s = if nat_lt i (length c.values) then cell_entered w.is_written (element i) w.number s else faults Range c.place
element_picked (datum_kind.Int (negsuc i)) w (Some c) s = faults Range c.place
element_picked _ w (Some c) s = sticks
element_picked _ w None s = sticks

-- ---- a datum meets a context

abbrev pub operated : Applied → Place → ItemState → ItemMove
operated (Gives v) at s = focused (value v) s
operated (Faults kind) at s = faults kind at
operated NoSense at s = sticks

abbrev pub left_meets : BinOp → Datum → Pointer → Place → ItemState → ItemMove
left_meets And (datum_kind.Bool true) q at s = focused (code_at q) s
left_meets And (datum_kind.Bool false) q at s = focused (value (datum_kind.Bool false)) s
left_meets And _ q at s = sticks
left_meets Or (datum_kind.Bool true) q at s = focused (value (datum_kind.Bool true)) s
left_meets Or (datum_kind.Bool false) q at s = focused (code_at q) s
left_meets Or _ q at s = sticks
left_meets op v q at s = pushed (op_r op v at) q s

abbrev pub chosen : Datum → ItemMove → ItemMove → ItemMove
chosen (datum_kind.Bool true) m n = m
chosen (datum_kind.Bool false) m n = n
chosen _ m n = sticks

abbrev pub focused_if_some : Option ℕ → Option ℕ → Place → ItemState → ItemMove
focused_if_some (Some a) around at s = focused (code_at (record { address = a; frame = around })) s
focused_if_some None around at s = faults Range at

abbrev pub indexed : Datum → List ℕ → Option ℕ → Place → ItemState → ItemMove
indexed (datum_kind.Int (pos n)) parts around at s = focused_if_some (slice_get parts n) around at s
indexed (datum_kind.Int (negsuc n)) parts around at s = faults Range at
indexed _ parts around at s = sticks

abbrev pub written : Option Bytes → ItemState → ItemMove
written (Some text) s = puts text (focus_on completed s)
written None s = sticks

-- a new cell holds v as long as the body runs; no item names the cell by a number
abbrev pub stored : Datum → ℕ → Pointer → ItemState → ItemMove
stored v d body s = bound d (to_cell v) body.address body.frame (push (drop_c 0) s)

-- a sequence of k cells, each with 0, on its context; no item names it by a number
abbrev pub with_cells : PeContext → Place → ℕ → ItemState → ItemState
with_cells c at k s =
    record s { newest = address_on s.items; items = sequence (record { place = at; values = replicate k (datum_kind.Int (pos 0)) }) ∷ context c s.newest ∷ s.items }

abbrev pub counted : Datum → ℕ → Pointer → Place → ItemState → ItemMove
counted (datum_kind.Int (pos m)) d body at s = focused (value (datum_kind.Int (pos 0))) (with_cells (fill_c 0 m d body at) at 0 s)
counted (datum_kind.Int (negsuc m)) d body at s = faults Range at
counted _ d body at s = sticks

abbrev pub one_more : ℕ → ℕ → ℕ → Pointer → Place → ItemState → ItemMove
one_more k m d body at s = focused (value (datum_kind.Int (pos (k + 1)))) (with_cells (fill_c 0 m d body at) at (k + 1) s)

abbrev pub bound_filled : ℕ → ℕ → Pointer → Place → ItemState → ItemMove
bound_filled m d body at s = bound d (to_thunk (sequence_of (address_on s.items))) body.address body.frame (with_cells (drop_c 0) at m s)

abbrev pub filled : Datum → ℕ → (ℕ → ItemMove) → ItemMove → ItemMove
filled (datum_kind.Int (pos k)) m more all = if nat_lt k m then more k else (if nat_eq k m then all else sticks)
filled _ m more all = sticks

abbrev pub datum_meets : PeCode → Datum → PeContext → ItemState → ItemMove
datum_meets code v (op_1 op at) s = operated (unary_result op v) at s
datum_meets code v (op_l op q at) s = left_meets op v q at s
datum_meets code v (op_r op u at) s = operated (binary_result op u v) at s
datum_meets code v (if_c p q) s = chosen v (focused (code_at p) s) (focused (code_at q) s)
datum_meets code v (case_c parts at) s = indexed v (parts_at (item_at code parts.address)) parts.frame at s
datum_meets code v (while_c loop c) s = chosen v (pushed (body_c loop) c s) (focused completed s)
datum_meets code v (new_c d body) s = stored v d body s
datum_meets code v (assign_c p) s = pushed (store_c v) p s
datum_meets code v (put_c kind) s = written (written_text kind v) s
datum_meets code v (cells_c d body at) s = counted v d body at s
datum_meets code v (fill_c n m d body at) s = filled v m (λ k. one_more k m d body at s) (bound_filled m d body at s)
datum_meets code v (element_c w) s = element_picked v w (sequence_at w.number s.items) s
datum_meets code v _ s = sticks

-- ---- a finished command meets a context

abbrev pub completion_meets : PeContext → ItemState → ItemMove
completion_meets (then_c q) s = focused (code_at q) s
completion_meets (body_c loop) s = focused (code_at loop) s
completion_meets (loop_c loop) s = focused (code_at loop) s
completion_meets (drop_c n) s = focused completed s
completion_meets (esc_c n) s = focused completed s
completion_meets _ s = sticks

-- ---- a procedure, a field and an acceptor meet the context that demands them

abbrev pub bind_meets : ℕ → ℕ → Option ℕ → PeContext → ItemState → ItemMove
bind_meets d body around (arg_c t) s = bound d (to_thunk t) body around s
bind_meets d body around _ s = sticks

abbrev pub field_meets : ℕ → Pointer → PeContext → ItemState → ItemMove
field_meets i p (pick_c j) s = if nat_eq i j then focused (code_at p) s else sticks
field_meets i p _ s = sticks

abbrev pub accept_meets : ℕ → ℕ → Option ℕ → PeContext → ItemState → ItemMove
accept_meets d body around (store_c v) s = bound d (to_thunk (datum v)) body around s
accept_meets d body around _ s = sticks

-- ---- a thunk is entered at a shape

-- a jump cuts the items back to those that are older than its context
abbrev pub left_by : Option FoundContext → ItemState → ItemMove
left_by (Some c) s = goes (record s { focus = completed; newest = c.outside; items = c.older })
left_by None s = sticks

abbrev pub jumped : Option ℕ → ItemState → ItemMove
jumped (Some c) s = left_by (context_at c s.items) s
jumped None s = sticks

abbrev pub at_entry : Option ℕ → Option ℕ → ItemState → ItemMove
at_entry (Some a) around s = focused (code_at (record { address = a; frame = around })) s
at_entry None around s = sticks

abbrev pub entered_plain : PeCode → ℕ → Thunk → ItemState → ItemMove
entered_plain code shape (source node around) s = at_entry (entry_of code node shape) around s
entered_plain code shape (datum v) s = focused (value v) s
entered_plain code shape (cell_of x) s = cell_entered (is_assignment code.assignment shape) own x s
entered_plain code shape (jump_of x) s = jumped (escape_at x s.items) s
entered_plain code shape (sequence_of x) s = sticks

-- an index is entered before the cell that it picks
abbrev pub index_entered : PeCode → Option ℕ → Wanted → Thunk → ItemState → ItemMove
index_entered code (Some shape) w t s = entered_plain code shape t (push (element_c w) s)
index_entered code None w t s = sticks

abbrev pub index_meets : PeCode → Wanted → PeContext → ItemState → ItemMove
index_meets code w (arg_c t) s = index_entered code code.sequences.value w t s
index_meets code w _ s = sticks

abbrev pub length_meets : ℕ → PeContext → ItemState → ItemMove
length_meets m (pick_c i) s = if nat_eq i 0 then focused (value (datum_kind.Int (pos m))) s else sticks
length_meets m _ s = sticks

abbrev pub sequence_asked : PeCode → Asked → ℕ → Option Sequence → ItemState → ItemMove
sequence_asked code (a_cell is_written) x (Some c) s = taken (index_meets code (record { is_written = is_written; number = x })) (newest_of s) s
sequence_asked code a_length x (Some c) s = taken (length_meets (length c.values)) (newest_of s) s
sequence_asked code no_part x (Some c) s = sticks
sequence_asked code asked x None s = sticks

abbrev pub entered : PeCode → ℕ → Thunk → ItemState → ItemMove
entered code shape (sequence_of x) s = sequence_asked code (asked_at code.sequences shape) x (sequence_at x s.items) s
entered code shape t s = entered_plain code shape t s

abbrev pub with_variable : Option FoundFrame → (Thunk → ItemMove) → ItemMove
with_variable (Some f) go = go (handed_by f)
with_variable None go = sticks

-- ---- straight code

abbrev pub own_cell : Option FoundFrame → Reading
own_cell (Some f) = cell_read (datum_in f.binding)
own_cell None = no_frame

-- no item is made for the assignment
abbrev pub cell_set : Option Datum → ℕ → Datum → ItemState → ItemMove
cell_set (Some u) x v s = focused completed (record s { items = with_value own x v s.items })
cell_set None x v s = sticks

abbrev pub own_cell_set : Option FoundFrame → Datum → ItemState → ItemMove
own_cell_set (Some f) v s = cell_set (datum_in f.binding) f.address v s
own_cell_set None v s = sticks

abbrev pub faults_at : FaultKind → Option PeItem → ItemMove
faults_at kind (Some i) = faults kind i.place
faults_at kind None = sticks

abbrev pub outcome_move : PeCode → Outcome → (Datum → ItemMove) → ItemMove
outcome_move code (leaves (v ∷ [])) go = go v
outcome_move code (leaves stack) go = sticks
outcome_move code (fails kind a) go = faults_at kind (item_at code a)
outcome_move code has_none go = sticks
outcome_move code misses go = sticks

abbrev pub straight_run : PeCode → List StraightPart → Option ℕ → ItemState → (Datum → ItemMove) → ItemMove
straight_run code ss x s go = outcome_move code (outcome_after (λ k. own_cell (frame_from s.items k x)) ss []) go

-- ---- one step, by the focus

abbrev pub executed : PeCode → PeInsn → ℕ → Place → Pointer → ItemState → ItemMove
executed code (insn.UseVar k shape) d at here s = with_variable (frame_from s.items k here.frame) (λ t. entered code shape t s)
executed code (insn.Answer v) d at here s = focused (value v) s
executed code (insn.Op1 op x) d at here s = pushed (op_1 op at) (record here { address = x }) s
executed code (insn.Op2 op x y) d at here s = pushed (op_l op (record here { address = y }) at) (record here { address = x }) s
executed code (insn.Cond x y z) d at here s = pushed (if_c (record here { address = y }) (record here { address = z })) (record here { address = x }) s
executed code (insn.Case x ys) d at here s = pushed (case_c here at) (record here { address = x }) s
executed code (insn.Bind y) d at here s = taken (bind_meets d y here.frame) (newest_of s) s
executed code (insn.Pass n y) d at here s = pushed (arg_c (source n here.frame)) (record here { address = y }) s
executed code (insn.PassVar k y) d at here s =
    with_variable (frame_from s.items k here.frame) (λ t. pushed (arg_c t) (record here { address = y }) s)
executed code (insn.PassData v y) d at here s = pushed (arg_c (datum v)) (record here { address = y }) s
executed code (insn.Field i x) d at here s = taken (field_meets i (record here { address = x })) (newest_of s) s
executed code (insn.Pick i x) d at here s = pushed (pick_c i) (record here { address = x }) s
executed code (insn.Let n y) d at here s = bound d (to_thunk (source n here.frame)) y here.frame s
executed code (insn.LetVar k y) d at here s =
    with_variable (frame_from s.items k here.frame) (λ t. bound d (to_thunk t) y here.frame s)
executed code (insn.LetData v y) d at here s = bound d (to_thunk (datum v)) y here.frame s
executed code (insn.Knot n y) d at here s = bound d (to_thunk (source n here.frame)) y here.frame s
executed code insn.Done d at here s = focused completed s
executed code (insn.Seq x y) d at here s = pushed (then_c (record here { address = y })) (record here { address = x }) s
executed code (insn.Assign x y) d at here s = pushed (assign_c (record here { address = x })) (record here { address = y }) s
executed code (insn.While x y) d at here s = pushed (while_c here (record here { address = y })) (record here { address = x }) s
executed code (insn.Loop x) d at here s = pushed (loop_c here) (record here { address = x }) s
executed code (insn.New x y) d at here s = pushed (new_c d (record here { address = y })) (record here { address = x }) s
executed code (insn.Cells x y) d at here s = pushed (cells_c d (record here { address = y }) at) (record here { address = x }) s
executed code (insn.Escape y) d at here s = bound d (to_escape (address_on s.items)) y here.frame (push (esc_c 0) s)
executed code (insn.Accept y) d at here s = taken (accept_meets d y here.frame) (newest_of s) s
executed code (insn.Put kind x) d at here s = pushed (put_c kind) (record here { address = x }) s
executed code (insn.Read x) d at here s = takes (λ byte. focus_on (code_at (record here { address = x })) (push (store_c (byte_or_end byte)) s))
executed code (insn.Eval ss) d at here s = straight_run code ss here.frame s (λ v. focused (value v) s)
executed code (insn.Set k ss) d at here s = straight_run code ss here.frame s (λ v. own_cell_set (frame_from s.items k here.frame) v s)
executed code (insn.EvalFor ss u) d at here s = straight_run code ss here.frame s (λ v. datum_meets code v (waiting u here) s)

abbrev pub item_executed : PeCode → Option PeItem → Pointer → ItemState → ItemMove
item_executed code (Some i) here s = executed code i.insn i.depth i.place here s
item_executed code None here s = sticks

abbrev pub step_at : PeCode → Focus → ItemState → ItemMove
step_at code (code_at here) s = item_executed code (item_at code here.address) here s
step_at code (value v) s = answered (datum_meets code v) (newest_of s) s
step_at code completed s = answered completion_meets (newest_of s) s

abbrev pub item_step : PeCode → ItemState → ItemMove
item_step code s = step_at code s.focus s
