-- The push-enter machine: what code does, step by step. An argument or a definition is pushed or bound as a thunk, a node of the source with a frame, and entered where its variable is
-- used, as in Krivine's machine ("A call-by-name lambda-calculus machine", 2007). The steps, the load and the places of faults are those of the copy rule.
use Rattle.std.specs.Prelude.{ℕ, ◌+◌, Bool, true, false, nat_eq, nat_lt, if◌then◌else◌, List, [], ◌∷◌, length, replicate, slice_get, Some, None, pos, negsuc}
use Rattle.std.specs.declared.option.Option.{Option}
use Rattle.fy_base.specs.declared.data.Place.{Place}
use Rattle.fy_base.specs.declared.data.Datum.{Datum}
use Rattle.fy_base.specs.declared.data.Datum.TheVariants as datum_kind
use Rattle.fy_base.specs.declared.data.BinOp.{BinOp}
use Rattle.fy_base.specs.declared.data.BinOp.TheVariants.{And, Or}
use Rattle.fy_base.specs.declared.data.FaultKind.{FaultKind}
use Rattle.fy_base.specs.declared.data.FaultKind.TheVariants.{Range}
use Rattle.fy_base.specs.declared.arithmetic.Applied.{Applied}
use Rattle.fy_base.specs.declared.arithmetic.Applied.TheVariants.{Gives, Faults, NoSense}
use Rattle.fy_base.specs.Outside.{Bytes}
use Rattle.fy_base.specs.Arithmetic.{unary_result, binary_result, written_text}
use Rattle.fy_phrase.specs.Contexts.{op_1, op_l, op_r, if_c, case_c, arg_c, pick_c, then_c, assign_c, store_c, while_c, body_c, loop_c, new_c, drop_c, put_c, esc_c, cells_c, fill_c, element_c}
use Rattle.fy_phrase.specs.Copy.{Which, own, element, byte_or_end}
use Rattle.pe_code.specs.declared.code.PeInsn.{PeInsn}
use Rattle.pe_code.specs.declared.code.PeInsn.TheVariants as insn
use Rattle.pe_code.specs.declared.code.StraightPart.{StraightPart}
use Rattle.pe_code.specs.declared.code.Purpose.{Purpose}
use Rattle.pe_code.specs.declared.code.Purpose.TheVariants as purpose
use Rattle.pe_code.specs.declared.code.PeItem.{PeItem}
use Rattle.pe_code.specs.declared.code.SequenceShapes.{SequenceShapes}
use Rattle.pe_code.specs.declared.code.PeCode.{PeCode}
use Rattle.pe_code.specs.Code.{item_at, entry_of, picked_from}
use Rattle.pe_code.specs.Straight.{Reading, no_frame, cell_read, Outcome, leaves, fails, has_none, misses, outcome_after}
use Rattle.pe_machine.specs.States.{Pointer, Thunk, source, datum, cell_of, jump_of, sequence_of, Sequence, Binding, to_thunk, to_cell, to_escape, to_sequence, Frame, Focus, code_at, value, completed, Wanted, PeContext, Held, PeState, oldest, is_listed, frame_outside, datum_in, sequence_at, value_of, with_value, handed_on}

-- where a step leads
pub data PeMove : Type 0 where
  -- on to a state
  goes : (s : PeState) → PeMove
  -- bytes are put, and on to a state
  puts : (text : Bytes) (s : PeState) → PeMove
  -- the next byte of input is taken, or none at its end, and on to the state that it gives
  takes : (go : Option ℕ → PeState) → PeMove
  faults : (kind : FaultKind) (at : Place) → PeMove
  -- no step is defined
  sticks : PeMove
  -- a frame that is named isn't in the list
  loses : PeMove

-- ---- words of the table

-- the focus changes alone
abbrev pub focus_on : Focus → PeState → PeState
focus_on f s = record s { focus = f }

-- a context is pushed: it keeps the load, to which it adds 8, and how many frames stand
abbrev pub push : PeContext → PeState → PeState
push c s = record s { contexts = (record { base = s.load; frames = length s.frames; context = c }) ∷ s.contexts; load = s.load + 8 }

-- a frame of depth d is made in the frame around it: it takes the next number and adds 8 + d to the load
abbrev pub bind : ℕ → Binding → Option ℕ → PeState → PeState
bind d b around s =
    record s { frames = (record { number = s.next; depth = d; binding = b; around = around }) ∷ s.frames; next = s.next + 1; load = s.load + (8 + d) }

abbrev pub focused : Focus → PeState → PeMove
focused f s = goes (focus_on f s)

abbrev pub pushed : PeContext → Pointer → PeState → PeMove
pushed c p s = goes (focus_on (code_at p) (push c s))

-- a frame is made, and on with the body at the address, in that frame
abbrev pub bound : ℕ → Binding → ℕ → Option ℕ → PeState → PeMove
bound d b body around s = goes (focus_on (code_at (record { address = body; frame = Some s.next })) (bind d b around s))

-- an answer takes the newest context off, sets the load to its base and cuts the frames back to those that stood; without a context the state is stuck
abbrev pub answered : (PeContext → PeState → PeMove) → List Held → PeState → PeMove
answered meets [] s = sticks
answered meets (c ∷ cs) s = meets c.context (record s { contexts = cs; frames = oldest c.frames s.frames; load = c.base })

-- the newest context is taken off; the load and the frames stay
abbrev pub taken : (PeContext → PeState → PeMove) → List Held → PeState → PeMove
taken meets [] s = sticks
taken meets (c ∷ cs) s = meets c.context (record s { contexts = cs })

-- ---- cells

-- a cell gives its datum
abbrev pub loaded : Option Datum → PeState → PeMove
loaded (Some v) s = focused (value v) s
loaded None s = loses

-- or takes a new one
abbrev pub assigned : Option Datum → Which → ℕ → Datum → PeState → PeMove
assigned (Some u) which n v s = focused completed (record s { frames = with_value which n v s.frames })
assigned None which n v s = loses

abbrev pub assignment_meets : Which → ℕ → PeContext → PeState → PeMove
assignment_meets which n (store_c v) s = assigned (value_of which n s.frames) which n v s
assignment_meets which n _ s = sticks

-- a cell takes a datum where an assignment is asked for, and gives its own elsewhere
abbrev pub cell_entered : Bool → Which → ℕ → PeState → PeMove
cell_entered true which n s = taken (assignment_meets which n) s.contexts s
cell_entered false which n s = loaded (value_of which n s.frames) s

-- the cell that an index picks of a sequence, or the fault where there is none
abbrev pub element_picked : Datum → Wanted → Option Sequence → PeState → PeMove
element_picked (datum_kind.Int (pos i)) w (Some c) s = if nat_lt i (length c.values) then cell_entered w.is_written (element i) w.number s else faults Range c.place
element_picked (datum_kind.Int (negsuc i)) w (Some c) s = faults Range c.place
element_picked _ w (Some c) s = sticks
element_picked _ w None s = loses

-- ---- a datum meets a context

-- the result of an operator, or its fault
abbrev pub operated : Applied → Place → PeState → PeMove
operated (Gives v) at s = focused (value v) s
operated (Faults kind) at s = faults kind at
operated NoSense at s = sticks

-- the left operand's value: of `and` and `or` it may decide
abbrev pub left_meets : BinOp → Datum → Pointer → Place → PeState → PeMove
left_meets And (datum_kind.Bool true) q at s = focused (code_at q) s
left_meets And (datum_kind.Bool false) q at s = focused (value (datum_kind.Bool false)) s
left_meets And _ q at s = sticks
left_meets Or (datum_kind.Bool true) q at s = focused (value (datum_kind.Bool true)) s
left_meets Or (datum_kind.Bool false) q at s = focused (code_at q) s
left_meets Or _ q at s = sticks
left_meets op v q at s = pushed (op_r op v at) q s

-- a condition's value chooses
abbrev pub chosen : Datum → PeMove → PeMove → PeMove
chosen (datum_kind.Bool true) m n = m
chosen (datum_kind.Bool false) m n = n
chosen _ m n = sticks

-- the addresses of the parts of the instruction
abbrev pub parts_at : Option PeItem → List ℕ
parts_at (Some i) = picked_from i.insn
parts_at None = []

abbrev pub focused_if_some : Option ℕ → Option ℕ → Place → PeState → PeMove
focused_if_some (Some a) frame at s = focused (code_at (record { address = a; frame = frame })) s
focused_if_some None frame at s = faults Range at

-- the part that an index picks, or the fault where there is none
abbrev pub indexed : Datum → List ℕ → Option ℕ → Place → PeState → PeMove
indexed (datum_kind.Int (pos n)) parts frame at s = focused_if_some (slice_get parts n) frame at s
indexed (datum_kind.Int (negsuc n)) parts frame at s = faults Range at
indexed _ parts frame at s = sticks

-- the text of a datum, or none where it is of another kind
abbrev pub written : Option Bytes → PeState → PeMove
written (Some text) s = puts text (focus_on completed s)
written None s = sticks

-- a new cell holds v as long as the body runs
abbrev pub stored : Datum → ℕ → Pointer → PeState → PeMove
stored v d body s = bound d (to_cell v) body.address body.frame (push (drop_c s.next) s)

-- so many cells are wanted of a new sequence, which has none yet; or the fault of a negative number
abbrev pub counted : Datum → ℕ → Pointer → Place → PeState → PeMove
counted (datum_kind.Int (pos m)) d body at s = focused (value (datum_kind.Int (pos 0))) (push (fill_c s.next m d body at) s)
counted (datum_kind.Int (negsuc m)) d body at s = faults Range at
counted _ d body at s = sticks

abbrev pub datum_meets : PeCode → Datum → PeContext → PeState → PeMove
datum_meets code v (op_1 op at) s = operated (unary_result op v) at s
datum_meets code v (op_l op q at) s = left_meets op v q at s
datum_meets code v (op_r op u at) s = operated (binary_result op u v) at s
datum_meets code v (if_c p q) s = chosen v (focused (code_at p) s) (focused (code_at q) s)
datum_meets code v (case_c parts at) s = indexed v (parts_at (item_at code parts.address)) parts.frame at s
datum_meets code v (while_c loop c) s = chosen v (pushed (body_c loop) c s) (focused completed s)
datum_meets code v (new_c d body) s = stored v d body s
datum_meets code v (assign_c p) s = pushed (store_c v) p s
datum_meets code v (put_c kind) s = written (written_text kind v) s
datum_meets code v (cells_c d body at) s = counted v d body at s
datum_meets code v (element_c w) s = element_picked v w (sequence_at w.number s.frames) s
datum_meets code v _ s = sticks

-- a sequence that has k cells gains one, which adds 1 to the load; no frame holds it yet
abbrev pub one_more : ℕ → PeState → PeMove
one_more k s = goes (record s { focus = value (datum_kind.Int (pos (k + 1))); load = s.load + 1 })

-- a frame holds all m cells, each with 0, as long as the body runs, and their context becomes that of the body
abbrev pub bound_filled : ℕ → ℕ → Pointer → Place → Held → List Held → PeState → PeMove
bound_filled m d body at c cs s =
    bound d (to_sequence (record { place = at; values = replicate m (datum_kind.Int (pos 0)) })) body.address body.frame
    (record s { contexts = (record c { context = drop_c s.next }) ∷ cs })

-- of m cells so many are there: one more is made, or all are there
abbrev pub filled : Datum → ℕ → (ℕ → PeMove) → PeMove → PeMove
filled (datum_kind.Int (pos k)) m more all = if nat_lt k m then more k else (if nat_eq k m then all else sticks)
filled _ m more all = sticks

-- a datum answers each context but that of a sequence, which stays until its cells are there, and then keeps its base as that of the body
abbrev pub datum_under : PeCode → Datum → PeContext → Held → List Held → PeState → PeMove
datum_under code v (fill_c n m d body at) c cs s = filled v m (λ k. one_more k s) (bound_filled m d body at c cs s)
datum_under code v e c cs s = answered (datum_meets code v) (c ∷ cs) s

abbrev pub datum_focused : PeCode → Datum → List Held → PeState → PeMove
datum_focused code v [] s = sticks
datum_focused code v (c ∷ cs) s = datum_under code v c.context c cs s

-- ---- a finished command meets a context

abbrev pub completion_meets : PeContext → PeState → PeMove
completion_meets (then_c q) s = focused (code_at q) s
completion_meets (body_c loop) s = focused (code_at loop) s
completion_meets (loop_c loop) s = focused (code_at loop) s
completion_meets (drop_c n) s = focused completed s
completion_meets (esc_c n) s = focused completed s
completion_meets _ s = sticks

-- ---- a procedure, a field and an acceptor meet the context that demands them

abbrev pub bind_meets : ℕ → ℕ → Option ℕ → PeContext → PeState → PeMove
bind_meets d body around (arg_c t) s = bound d (to_thunk t) body around s
bind_meets d body around _ s = sticks

abbrev pub field_meets : ℕ → Pointer → PeContext → PeState → PeMove
field_meets i p (pick_c j) s = if nat_eq i j then focused (code_at p) s else sticks
field_meets i p _ s = sticks

abbrev pub accept_meets : ℕ → ℕ → Option ℕ → PeContext → PeState → PeMove
accept_meets d body around (store_c v) s = bound d (to_thunk (datum v)) body around s
accept_meets d body around _ s = sticks

-- ---- a thunk is entered at a shape

-- whether a context is that of jump n
abbrev pub is_target : ℕ → PeContext → Bool
is_target n (esc_c m) = nat_eq m n
is_target n _ = false

-- a jump takes off the contexts before its own and that one too, sets the load to its base and cuts the frames back
abbrev pub jumped : ℕ → List Held → PeState → PeMove
jumped n [] s = sticks
jumped n (c ∷ cs) s =
    if is_target n c.context then goes (record s { focus = completed; contexts = cs; frames = oldest c.frames s.frames; load = c.base })
    else jumped n cs s

-- an entry in a frame
abbrev pub at_entry : Option ℕ → Option ℕ → PeState → PeMove
at_entry (Some a) frame s = focused (code_at (record { address = a; frame = frame })) s
at_entry None frame s = sticks

-- where the frame that is named is in the list
abbrev pub if_listed : Bool → PeMove → PeMove
if_listed true m = m
if_listed false m = loses

-- whether a shape is the one that is meant, such as the one that asks for an assignment
abbrev pub is_assignment : Option ℕ → ℕ → Bool
is_assignment None shape = false
is_assignment (Some n) shape = nat_eq n shape

-- a thunk that isn't a sequence; a cell is written at the shape that asks for an assignment, and read at every other
abbrev pub entered_plain : PeCode → ℕ → Thunk → PeState → PeMove
entered_plain code shape (source node frame) s = if_listed (is_listed frame s.frames) (at_entry (entry_of code node shape) frame s)
entered_plain code shape (datum v) s = focused (value v) s
entered_plain code shape (cell_of n) s = cell_entered (is_assignment code.assignment shape) own n s
entered_plain code shape (jump_of n) s = if_listed (is_listed (Some n) s.frames) (jumped n s.contexts s)
entered_plain code shape (sequence_of n) s = sticks

-- an index is entered at the shape of a value, before the cell that it picks
abbrev pub index_entered : PeCode → Option ℕ → Wanted → Thunk → PeState → PeMove
index_entered code (Some shape) w t s = entered_plain code shape t (push (element_c w) s)
index_entered code None w t s = sticks

abbrev pub index_meets : PeCode → Wanted → PeContext → PeState → PeMove
index_meets code w (arg_c t) s = index_entered code code.sequences.value w t s
index_meets code w _ s = sticks

-- the length of a sequence, the field `len`, whose name has the number 0
abbrev pub length_meets : ℕ → PeContext → PeState → PeMove
length_meets m (pick_c i) s = if nat_eq i 0 then focused (value (datum_kind.Int (pos m))) s else sticks
length_meets m _ s = sticks

-- what a shape asks of a sequence: a cell to be written or to be read, its length, or nothing that it has
pub data Asked : Type 0 where
  a_cell : (is_written : Bool) → Asked
  a_length : Asked
  no_part : Asked

abbrev pub asked_at : SequenceShapes → ℕ → Asked
asked_at shapes shape =
    if is_assignment shapes.element shape then a_cell false else (if is_assignment shapes.assigned_element shape then a_cell true else (if is_assignment shapes.row_length shape then a_length else no_part))

abbrev pub sequence_asked : PeCode → Asked → ℕ → Option Sequence → PeState → PeMove
sequence_asked code (a_cell is_written) n (Some c) s = taken (index_meets code (record { is_written = is_written; number = n })) s.contexts s
sequence_asked code a_length n (Some c) s = taken (length_meets (length c.values)) s.contexts s
sequence_asked code no_part n (Some c) s = sticks
sequence_asked code asked n None s = loses

abbrev pub entered : PeCode → ℕ → Thunk → PeState → PeMove
entered code shape (sequence_of n) s = sequence_asked code (asked_at code.sequences shape) n (sequence_at n s.frames) s
entered code shape t s = entered_plain code shape t s

-- what the variable that is bound in the frame hands on
abbrev pub with_variable : Option Frame → (Thunk → PeMove) → PeMove
with_variable (Some f) go = go (handed_on f.number f.binding)
with_variable None go = loses

-- ---- straight code

-- a variable's own cell is the one that its frame holds
abbrev pub own_cell : Option Frame → Reading
own_cell (Some f) = cell_read (datum_in f.binding)
own_cell None = no_frame

-- it takes a datum, and the load is that of an assignment by a context
abbrev pub cell_set : Option Datum → ℕ → Datum → PeState → PeMove
cell_set (Some u) n v s = focused completed (record s { frames = with_value own n v s.frames; load = s.load + 8 })
cell_set None n v s = sticks

abbrev pub own_cell_set : Option Frame → Datum → PeState → PeMove
own_cell_set (Some f) v s = cell_set (datum_in f.binding) f.number v s
own_cell_set None v s = loses

-- a fault at the place of an item
abbrev pub faults_at : FaultKind → Option PeItem → PeMove
faults_at kind (Some i) = faults kind i.place
faults_at kind None = sticks

-- the one datum that is left goes on
abbrev pub outcome_move : PeCode → Outcome → (Datum → PeMove) → PeMove
outcome_move code (leaves (v ∷ [])) go = go v
outcome_move code (leaves stack) go = sticks
outcome_move code (fails kind a) go = faults_at kind (item_at code a)
outcome_move code has_none go = sticks
outcome_move code misses go = loses

-- straight code is run in a frame
abbrev pub straight_run : PeCode → List StraightPart → Option ℕ → PeState → (Datum → PeMove) → PeMove
straight_run code ss r s go = outcome_move code (outcome_after (λ k. own_cell (frame_outside s.frames k r)) ss []) go

-- the context that waits for its datum where the form is executed by parts
abbrev pub waiting : Purpose → Pointer → PeContext
waiting (purpose.Choose x y) here = if_c (record here { address = x }) (record here { address = y })
waiting (purpose.Repeat x) here = while_c here (record here { address = x })
waiting (purpose.Store x) here = assign_c (record here { address = x })
waiting (purpose.Write kind) here = put_c kind

-- ---- one step, by the focus

-- an instruction that stands at an address and is executed in a frame
abbrev pub executed : PeCode → PeInsn → ℕ → Place → Pointer → PeState → PeMove
executed code (insn.UseVar k shape) d at here s = with_variable (frame_outside s.frames k here.frame) (λ t. entered code shape t s)
executed code (insn.Answer v) d at here s = focused (value v) s
executed code (insn.Op1 op x) d at here s = pushed (op_1 op at) (record here { address = x }) s
executed code (insn.Op2 op x y) d at here s = pushed (op_l op (record here { address = y }) at) (record here { address = x }) s
executed code (insn.Cond x y z) d at here s = pushed (if_c (record here { address = y }) (record here { address = z })) (record here { address = x }) s
executed code (insn.Case x ys) d at here s = pushed (case_c here at) (record here { address = x }) s
executed code (insn.Bind y) d at here s = taken (bind_meets d y here.frame) s.contexts s
executed code (insn.Pass n y) d at here s = pushed (arg_c (source n here.frame)) (record here { address = y }) s
executed code (insn.PassVar k y) d at here s =
    with_variable (frame_outside s.frames k here.frame) (λ t. pushed (arg_c t) (record here { address = y }) s)
executed code (insn.PassData v y) d at here s = pushed (arg_c (datum v)) (record here { address = y }) s
executed code (insn.Field i x) d at here s = taken (field_meets i (record here { address = x })) s.contexts s
executed code (insn.Pick i x) d at here s = pushed (pick_c i) (record here { address = x }) s
executed code (insn.Let n y) d at here s = bound d (to_thunk (source n here.frame)) y here.frame s
executed code (insn.LetVar k y) d at here s =
    with_variable (frame_outside s.frames k here.frame) (λ t. bound d (to_thunk t) y here.frame s)
executed code (insn.LetData v y) d at here s = bound d (to_thunk (datum v)) y here.frame s
executed code (insn.Knot n y) d at here s = bound d (to_thunk (source n here.frame)) y here.frame s
executed code insn.Done d at here s = focused completed s
executed code (insn.Seq x y) d at here s = pushed (then_c (record here { address = y })) (record here { address = x }) s
executed code (insn.Assign x y) d at here s = pushed (assign_c (record here { address = x })) (record here { address = y }) s
executed code (insn.While x y) d at here s = pushed (while_c here (record here { address = y })) (record here { address = x }) s
executed code (insn.Loop x) d at here s = pushed (loop_c here) (record here { address = x }) s
executed code (insn.New x y) d at here s = pushed (new_c d (record here { address = y })) (record here { address = x }) s
executed code (insn.Cells x y) d at here s = pushed (cells_c d (record here { address = y }) at) (record here { address = x }) s
executed code (insn.Escape y) d at here s = bound d to_escape y here.frame (push (esc_c s.next) s)
executed code (insn.Accept y) d at here s = taken (accept_meets d y here.frame) s.contexts s
executed code (insn.Put kind x) d at here s = pushed (put_c kind) (record here { address = x }) s
executed code (insn.Read x) d at here s = takes (λ byte. focus_on (code_at (record here { address = x })) (push (store_c (byte_or_end byte)) s))
executed code (insn.Eval ss) d at here s = straight_run code ss here.frame s (λ v. focused (value v) s)
executed code (insn.Set k ss) d at here s = straight_run code ss here.frame s (λ v. own_cell_set (frame_outside s.frames k here.frame) v s)
executed code (insn.EvalFor ss u) d at here s = straight_run code ss here.frame s (λ v. datum_meets code v (waiting u here) s)

-- where no item stands at the address, no step is defined
abbrev pub item_executed : PeCode → Option PeItem → Pointer → PeState → PeMove
item_executed code (Some i) here s = executed code i.insn i.depth i.place here s
item_executed code None here s = sticks

abbrev pub step_at : PeCode → Focus → PeState → PeMove
step_at code (code_at here) s = item_executed code (item_at code here.address) here s
step_at code (value v) s = datum_focused code v s.contexts s
step_at code completed s = answered completion_meets s.contexts s

abbrev pub pe_step : PeCode → PeState → PeMove
pe_step code s = step_at code s.focus s
