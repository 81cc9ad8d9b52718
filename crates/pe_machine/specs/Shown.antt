-- The machine's state that values of the program stand for.
use Rattle.std.specs.Prelude.{ℕ, ◌+◌, List, [], ◌∷◌, length, take, drop, replicate, Some, None, pos}
use Rattle.std.specs.declared.option.Option.{Option}
use Rattle.fy_base.specs.declared.data.Datum.{Datum}
use Rattle.fy_base.specs.declared.data.Datum.TheVariants as datum_kind
use Rattle.fy_phrase.specs.Contexts.{op_1, op_l, op_r, if_c, case_c, arg_c, pick_c, then_c, assign_c, store_c, while_c, body_c, loop_c, new_c, drop_c, put_c, esc_c, cells_c, fill_c, element_c}
use Rattle.pe_machine.specs.States as states
use Rattle.pe_machine.specs.States.{source, datum, cell_of, jump_of, sequence_of, to_thunk, to_cell, to_escape, to_sequence, code_at, value, completed, PeContext}
use Rattle.pe_machine.specs.declared.frames.FrameName.{FrameName}
use Rattle.pe_machine.specs.declared.frames.Thunk.{Thunk}
use Rattle.pe_machine.specs.declared.frames.Thunk.TheVariants as thunk
use Rattle.pe_machine.specs.declared.frames.Binding.{Binding}
use Rattle.pe_machine.specs.declared.frames.Binding.TheVariants as binding
use Rattle.pe_machine.specs.declared.frames.Frame.{Frame}
use Rattle.pe_machine.specs.declared.contexts.Pointer.{Pointer}
use Rattle.pe_machine.specs.declared.contexts.Context.{Context}
use Rattle.pe_machine.specs.declared.contexts.Context.TheVariants as held
use Rattle.pe_machine.specs.declared.contexts.Held.{Held}
use Rattle.pe_machine.specs.declared.contexts.Filling.{Filling}
use Rattle.pe_code.specs.Straight.{Reading, reads, no_cell, no_frame, Outcome, leaves, fails, has_none, misses}
use Rattle.pe_machine.specs.declared.lookup.OwnCell.{OwnCell}
use Rattle.pe_machine.specs.declared.lookup.OwnCell.TheVariants as cell
use Rattle.pe_machine.specs.declared.straight.Stack.{Stack}
use Rattle.pe_machine.specs.declared.straight.Stack.TheVariants as stack
use Rattle.pe_machine.specs.declared.straight.Run.{Run}
use Rattle.pe_machine.specs.declared.straight.Run.TheVariants as run
use Rattle.pe_machine.specs.declared.contexts.Focus.{Focus}
use Rattle.pe_machine.specs.declared.contexts.Focus.TheVariants as focus

-- the number of the frame that is named
abbrev pub number_of : Option FrameName → Option ℕ
number_of None = None
number_of (Some name) = Some name.number

-- a thunk, by the numbers of its frames
abbrev pub thunk_of : Thunk → states.Thunk
thunk_of (thunk.Source node frame) = source node (number_of frame)
thunk_of (thunk.Literal v) = datum v
thunk_of (thunk.Cell name) = cell_of name.number
thunk_of (thunk.Jump name) = jump_of name.number
thunk_of (thunk.Sequence name) = sequence_of name.number

-- what a frame binds, whose cells are the first of these
abbrev pub binding_of : List Datum → Binding → states.Binding
binding_of cells (binding.ToThunk t) = to_thunk (thunk_of t)
binding_of cells (binding.ToCell v) = to_cell v
binding_of cells binding.ToEscape = to_escape
binding_of cells (binding.ToSequence place count) = to_sequence (record { place = place; values = take count cells })

-- what a new frame binds: each of its cells holds 0
abbrev pub fresh_binding : Binding → states.Binding
fresh_binding (binding.ToThunk t) = to_thunk (thunk_of t)
fresh_binding (binding.ToCell v) = to_cell v
fresh_binding binding.ToEscape = to_escape
fresh_binding (binding.ToSequence place count) = to_sequence (record { place = place; values = replicate count (datum_kind.Int (pos 0)) })

-- a frame, by the cells of all
abbrev pub frame_of : List Datum → Frame → states.Frame
frame_of cells f = record { number = f.number; depth = f.depth; binding = binding_of (drop f.cells cells) f.binding; around = number_of f.around }

-- code at an address
abbrev pub pointer_of : Pointer → states.Pointer
pointer_of p = record { address = p.address; frame = number_of p.frame }

-- what waits
abbrev pub context_of : Context → PeContext
context_of (held.Op1 op at) = op_1 op at
context_of (held.OpL op q at) = op_l op (pointer_of q) at
context_of (held.OpR op u at) = op_r op u at
context_of (held.If p q) = if_c (pointer_of p) (pointer_of q)
context_of (held.Case parts at) = case_c (pointer_of parts) at
context_of (held.Arg t) = arg_c (thunk_of t)
context_of (held.Pick i) = pick_c i
context_of (held.Then q) = then_c (pointer_of q)
context_of (held.Assign p) = assign_c (pointer_of p)
context_of (held.Store v) = store_c v
context_of (held.While loop c) = while_c (pointer_of loop) (pointer_of c)
context_of (held.Body loop) = body_c (pointer_of loop)
context_of (held.Loop loop) = loop_c (pointer_of loop)
context_of (held.New d body) = new_c d (pointer_of body)
context_of (held.Drop n) = drop_c n
context_of (held.Put kind) = put_c kind
context_of (held.Escape n) = esc_c n
context_of (held.Cells d body place) = cells_c d (pointer_of body) place
context_of (held.Element is_written name) = element_c (record { is_written = is_written; number = name.number })

-- a context, with what was before it
abbrev pub held_of : Held → states.Held
held_of h = record { base = h.base; frames = h.frames; context = context_of h.context }

-- what is in focus
abbrev pub focus_of : Focus → states.Focus
focus_of (focus.Code p) = code_at (pointer_of p)
focus_of (focus.Value v) = value v
focus_of focus.Completed = completed

-- frames and contexts with the newest last, before others with the newest first
abbrev pub frames_onto : List Datum → List states.Frame → List Frame → List states.Frame
frames_onto cells fs [] = fs
frames_onto cells fs (x ∷ xs) = frames_onto cells (frame_of cells x ∷ fs) xs

abbrev pub contexts_onto : List states.Held → List Held → List states.Held
contexts_onto cs [] = cs
contexts_onto cs (x ∷ xs) = contexts_onto (held_of x ∷ cs) xs

-- a sequence that gets its cells, in front of what a state is otherwise: a context on which the focus tells how many are there
abbrev pub filled_state : Filling → states.PeState → states.PeState
filled_state f s = record s {
  focus = value (datum_kind.Int (pos f.made));
  contexts = (record { base = s.load; frames = length s.frames; context = fill_c s.next f.count f.depth (pointer_of f.body) f.place }) ∷ s.contexts;
  load = f.made + (s.load + 8);
}

abbrev pub with_filling : Option Filling → states.PeState → states.PeState
with_filling None s = s
with_filling (Some f) s = filled_state f s

-- ---- straight code

abbrev pub reading_of : OwnCell → Reading
reading_of (cell.Reads name v) = reads v
reading_of cell.NoCell = no_cell
reading_of cell.NoFrame = no_frame

-- the data of a stack, with the newest first
abbrev pub stack_of : Stack → List Datum
stack_of stack.Empty = []
stack_of (stack.One v) = v ∷ []
stack_of (stack.Two v u) = v ∷ u ∷ []
stack_of (stack.Three v u t) = v ∷ u ∷ t ∷ []

abbrev pub outcome_of : Run → Outcome
outcome_of (run.Leaves s) = leaves (stack_of s)
outcome_of (run.Fails kind a) = fails kind a
outcome_of run.HasNone = has_none
outcome_of run.Misses = misses
