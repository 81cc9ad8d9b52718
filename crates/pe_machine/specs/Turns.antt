-- What the program's plan of a step tells.
use Rattle.std.specs.Prelude.{ℕ, ◌+◌, ◌*◌, ◌≤◌, nat_le, nat_lt, pos, negsuc, if◌then◌else◌, List, [], ◌∷◌, length}
use Rattle.fy_base.specs.declared.data.Datum.{Datum}
use Rattle.fy_base.specs.declared.data.Datum.TheVariants as datum_kind
use Rattle.fy_base.specs.declared.data.FaultKind.TheVariants.{Range}
use Rattle.fy_base.specs.declared.data.Place.{Place}
use Rattle.fy_base.specs.Arithmetic.{written_text}
use Rattle.fy_phrase.specs.Contexts.{arg_c, store_c, esc_c, fill_c}
use Rattle.fy_phrase.specs.Copy.{byte_or_end}
use Rattle.pe_code.specs.declared.code.PeCode.{PeCode}
use Rattle.fy_phrase.specs.Copy.{own, element}
use Rattle.pe_machine.specs.States.{Held, PeContext, PeState, code_at, value, completed, to_thunk, to_escape, oldest, frame_outside, with_value}
use Rattle.pe_machine.specs.Step.{PeMove, goes, takes, faults, sticks, loses, focus_on, push, focused, pushed, bound, taken, stored, written, bind_meets, field_meets, accept_meets, assignment_meets, entered, with_variable, length_meets, bound_filled}
use Rattle.pe_machine.specs.Sound.{AreBased, cells_in}
use Rattle.pe_machine.specs.Shown.{number_of, thunk_of, pointer_of, context_of, focus_of, frames_onto, contexts_onto, filled_state}
use Rattle.pe_machine.specs.Names.{Frames}
use Rattle.pe_machine.specs.declared.contexts.Filling.{Filling}
use Rattle.pe_machine.specs.declared.core_state.Core.{Core}
use Rattle.pe_machine.specs.declared.turns.Kept.{Kept}
use Rattle.pe_machine.specs.declared.turns.Change.{Change}
use Rattle.pe_machine.specs.declared.turns.Change.TheVariants.{Focus, Push, PushValue, Bind, NewCell, NewEscape, SetCell, SetElement, Assign}
use Rattle.pe_machine.specs.declared.turns.Turn.{Turn}
use Rattle.pe_machine.specs.declared.turns.Turn.TheVariants.{On, Fill, Put, Read, Fault, Stuck, Gone}
use Rattle.pe_machine.specs.declared.turns.Plan.{Plan}
use Rattle.pe_machine.specs.declared.turns.Demand.{Demand}
use Rattle.pe_machine.specs.declared.turns.Demand.TheVariants.{Argument, Selection, Assigned, Cell, Length}
use Rattle.std.specs.declared.result.Result.{Result}
use Rattle.std.specs.declared.result.Result.TheVariants.{Ok, Err}
use Rattle.pe_machine.specs.declared.lookup.OwnCell.{OwnCell}
use Rattle.pe_machine.specs.declared.lookup.OwnCell.TheVariants.{Reads, NoCell, NoFrame}
use Rattle.pe_machine.specs.declared.turns.Act.{Act}
use Rattle.pe_machine.specs.declared.turns.Act.TheVariants.{Now, Use, Pass, Let, Ask}

-- the machine's state
abbrev pub state_of : Core → PeState
state_of core = record {
  focus = focus_of core.focus;
  contexts = contexts_onto [] core.contexts.items;
  frames = frames_onto core.cells.items [] core.frames.items;
  next = core.next;
  load = core.load;
}

-- its frames, as names lead to them
abbrev pub frames_of : Core → Frames
frames_of core = record { items = core.frames.items; next = core.next }

-- the oldest n contexts
abbrev pub oldest_contexts : ℕ → List Held → List Held
oldest_contexts n [] = []
oldest_contexts n (c ∷ cs) = if nat_le n (length cs) then oldest_contexts n cs else c ∷ cs

-- the stacks are cut back
abbrev pub kept_of : Kept → PeState → PeState
kept_of kept s = record s { contexts = oldest_contexts kept.contexts s.contexts; frames = oldest kept.frames s.frames; load = kept.load }

-- what is kept of a state is counted in the load, which is within the limit
pub record IsFair (limit : ℕ) (s : PeState) (kept : Kept) : Type 0 where
  pub counted : 8 * (kept.frames + kept.contexts) ≤ kept.load
  pub cells : cells_in (oldest kept.frames s.frames) ≤ kept.load
  pub within : kept.load ≤ limit
  pub based : AreBased limit (oldest kept.frames s.frames) (oldest_contexts kept.contexts s.contexts)

-- what a change leads to
abbrev pub change_move : Change → PeState → PeMove
change_move (Focus f) s = focused (focus_of f) s
change_move (Push c p) s = pushed (context_of c) (pointer_of p) s
change_move (PushValue c v) s = focused (value v) (push (context_of c) s)
change_move (Bind d t p) s = bound d (to_thunk (thunk_of t)) p.address (number_of p.frame) s
change_move (NewCell d v p) s = stored v d (pointer_of p) s
change_move (NewEscape d p) s = bound d to_escape p.address (number_of p.frame) (push (esc_c s.next) s)
change_move (SetCell name v) s = goes (focus_on completed (record s { frames = with_value own name.number v s.frames }))
change_move (SetElement name i v) s = goes (focus_on completed (record s { frames = with_value (element i) name.number v s.frames }))
change_move (Assign name v) s = goes (focus_on completed (record s { frames = with_value own name.number v s.frames; load = s.load + 8 }))

-- all cells are there, and the body runs
abbrev pub filled_move : Filling → PeState → PeMove
filled_move f s =
    bound_filled f.count f.depth (pointer_of f.body) f.place (record { base = s.load; frames = length s.frames; context = fill_c s.next f.count f.depth (pointer_of f.body) f.place }) s.contexts (filled_state f s)

-- what a turn leads to; a text is put where the datum has one of the kind
abbrev pub turn_move : Turn → PeState → PeMove
turn_move (On change) s = change_move change s
turn_move (Fill count d p at) s = focused (value (datum_kind.Int (pos 0))) (push (fill_c s.next count d (pointer_of p) at) s)
turn_move (Put kind v) s = written (written_text kind v) s
turn_move (Read p) s = takes (λ byte. focus_on (code_at (pointer_of p)) (push (store_c (byte_or_end byte)) s))
turn_move (Fault kind at) s = faults kind at
turn_move Stuck s = sticks
turn_move Gone s = loses

-- what a plan leads to: a turn after a cut
abbrev pub plan_move : Plan → PeState → PeMove
plan_move plan s = turn_move plan.turn (kept_of plan.kept s)

-- what a datum picks of so many cells that were made at a place
abbrev pub picked_in : Datum → ℕ → Place → (ℕ → PeMove) → PeMove
picked_in (datum_kind.Int (pos i)) count at go = if nat_lt i count then go i else faults Range at
picked_in (datum_kind.Int (negsuc i)) count at go = faults Range at
picked_in _ count at go = sticks

-- what a demand leads to at a context
abbrev pub demand_move : Demand → PeContext → PeState → PeMove
demand_move (Argument d p) c s = bind_meets d p.address (number_of p.frame) c s
demand_move (Selection i p) c s = field_meets i (pointer_of p) c s
demand_move (Assigned d p) c s = accept_meets d p.address (number_of p.frame) c s
demand_move (Cell name) c s = assignment_meets own name.number c s
demand_move (Length count) c s = length_meets count c s

-- what an act leads to, by the stacks
abbrev pub act_move : PeCode → Act → PeState → PeMove
act_move code (Now turn) s = turn_move turn s
act_move code (Use k shape frame) s = with_variable (frame_outside s.frames k (number_of frame)) (λ t. entered code shape t s)
act_move code (Pass k p) s = with_variable (frame_outside s.frames k (number_of p.frame)) (λ t. pushed (arg_c t) (pointer_of p) s)
act_move code (Let d k p) s = with_variable (frame_outside s.frames k (number_of p.frame)) (λ t. bound d (to_thunk t) p.address (number_of p.frame) s)
act_move code (Ask demand) s = taken (demand_move demand) s.contexts s

-- what a datum, or what straight code comes to in its place, leads to
abbrev pub result_move : Result Datum Turn → PeState → (Datum → PeMove) → PeMove
result_move (Ok v) s go = go v
result_move (Err turn) s go = turn_move turn s

-- what a variable's own cell leads to where it takes a datum
abbrev pub set_move : OwnCell → Datum → PeState → PeMove
set_move (Reads name u) v s = focused completed (record s { frames = with_value own name.number v s.frames; load = s.load + 8 })
set_move NoCell v s = sticks
set_move NoFrame v s = loses
