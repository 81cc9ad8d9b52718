-- States of the push-enter machine: frames in order of making, thunks that name them, and the contexts of the copy rule with thunks and addresses in place of phrases.
use Rattle.std.specs.Prelude.{ℕ, zero, suc, Bool, true, false, nat_eq, nat_le, if◌then◌else◌, List, [], ◌∷◌, length, set, slice_get, Some, None}
use Rattle.std.specs.declared.option.Option.{Option}
use Rattle.fy_base.specs.declared.data.Datum.{Datum}
use Rattle.fy_base.specs.declared.data.Place.{Place}
use Rattle.fy_phrase.specs.Contexts.{Context}
use Rattle.fy_phrase.specs.Copy.{Which, own, element}

-- code at an address, with the frame in which its innermost variable is bound, if any is in scope
pub record Pointer : Type 0 where
  pub address : ℕ
  pub frame : Option ℕ

-- what stands for a phrase that isn't evaluated yet
pub data Thunk : Type 0 where
  -- a node of the source phrase, in a frame
  source : (node : ℕ) (frame : Option ℕ) → Thunk
  -- a literal
  datum : (v : Datum) → Thunk
  -- the cell that the frame holds
  cell_of : (n : ℕ) → Thunk
  -- the escape that the frame holds
  jump_of : (n : ℕ) → Thunk
  -- the sequence of cells that the frame holds
  sequence_of : (n : ℕ) → Thunk

-- the values of a sequence of cells, and the place of its `Cells`
pub record Sequence : Type 0 where
  pub place : Place
  pub values : List Datum

-- what a frame binds its variable to
pub data Binding : Type 0 where
  to_thunk : Thunk → Binding
  to_cell : Datum → Binding
  to_escape : Binding
  to_sequence : Sequence → Binding

-- a binding, with the depth of its binder and the frame around it; no two frames ever have the same number
pub record Frame : Type 0 where
  pub number : ℕ
  pub depth : ℕ
  pub binding : Binding
  pub around : Option ℕ

-- what a step looks at
pub data Focus : Type 0 where
  -- the instruction at an address
  code_at : Pointer → Focus
  -- a datum that meets the newest context
  value : Datum → Focus
  -- a finished command that does
  completed : Focus

-- a cell that is wanted of the sequence that frame n holds: to be written, or to be read
pub record Wanted : Type 0 where
  pub is_written : Bool
  pub number : ℕ

-- a list of parts is the instruction that picks from them
abbrev pub PeContext : Type 0
PeContext = Context Thunk Pointer Pointer Wanted

-- a context, with the load and the number of frames before it was pushed
pub record Held : Type 0 where
  pub base : ℕ
  pub frames : ℕ
  pub context : PeContext

-- the contexts and the frames stand with the newest first; next is the number that the next frame takes
pub record PeState : Type 0 where
  pub focus : Focus
  pub contexts : List Held
  pub frames : List Frame
  pub next : ℕ
  pub load : ℕ

-- ---- frames

-- whether a frame is the one that is named
abbrev pub is_named : Option ℕ → ℕ → Bool
is_named None m = false
is_named (Some n) m = nat_eq n m

-- the oldest n frames
abbrev pub oldest : ℕ → List Frame → List Frame
oldest n [] = []
oldest n (f ∷ fs) = if nat_le n (length fs) then oldest n fs else f ∷ fs

-- whether the frame that is named is in the list; where none is, nothing is missing
abbrev pub is_listed : Option ℕ → List Frame → Bool
is_listed None [] = true
is_listed (Some n) [] = false
is_listed r (f ∷ fs) = if is_named r f.number then true else is_listed r fs

-- the frame itself, or one outside it
abbrev pub from_frame : ℕ → Frame → (ℕ → Option Frame) → Option Frame
from_frame zero f outside = Some f
from_frame (suc k) f outside = outside k

-- the frame k frames outside the one that is named
abbrev pub frame_outside : List Frame → ℕ → Option ℕ → Option Frame
frame_outside [] k r = None
frame_outside (f ∷ fs) k r =
    if is_named r f.number then from_frame k f (λ j. frame_outside fs j f.around) else frame_outside fs k r

-- the datum in a cell
abbrev pub datum_in : Binding → Option Datum
datum_in (to_thunk t) = None
datum_in (to_cell v) = Some v
datum_in to_escape = None
datum_in (to_sequence c) = None

-- the datum in the cell of frame n
abbrev pub datum_of : ℕ → List Frame → Option Datum
datum_of n [] = None
datum_of n (f ∷ fs) = if nat_eq n f.number then datum_in f.binding else datum_of n fs

-- a cell with another datum
abbrev pub with_datum : Datum → Binding → Binding
with_datum v (to_thunk t) = to_thunk t
with_datum v (to_cell u) = to_cell v
with_datum v to_escape = to_escape
with_datum v (to_sequence c) = to_sequence c

-- the frames, with another binding in frame n
abbrev pub with_binding : ℕ → (Binding → Binding) → List Frame → List Frame
with_binding n change [] = []
with_binding n change (f ∷ fs) = if nat_eq n f.number then record f { binding = change f.binding } ∷ fs else f ∷ with_binding n change fs

-- the frames, with v in the cell of frame n
abbrev pub with_cell : ℕ → Datum → List Frame → List Frame
with_cell n v fs = with_binding n (with_datum v) fs

-- ---- sequences of cells

abbrev pub sequence_in : Binding → Option Sequence
sequence_in (to_sequence c) = Some c
sequence_in _ = None

-- the sequence of frame n
abbrev pub sequence_at : ℕ → List Frame → Option Sequence
sequence_at n [] = None
sequence_at n (f ∷ fs) = if nat_eq n f.number then sequence_in f.binding else sequence_at n fs

-- cell i of a sequence
abbrev pub element_in : ℕ → Option Sequence → Option Datum
element_in i (Some c) = slice_get c.values i
element_in i None = None

-- a sequence with v in cell i
abbrev pub with_element : ℕ → Datum → Binding → Binding
with_element i v (to_sequence c) = to_sequence (record c { values = set c.values i v })
with_element i v b = b

-- ---- a cell of either sort

-- the datum in a cell of frame n
abbrev pub value_of : Which → ℕ → List Frame → Option Datum
value_of own n fs = datum_of n fs
value_of (element i) n fs = element_in i (sequence_at n fs)

-- the frames, with v in a cell of frame n
abbrev pub with_value : Which → ℕ → Datum → List Frame → List Frame
with_value own n v fs = with_cell n v fs
with_value (element i) n v fs = with_binding n (with_element i v) fs

-- what a variable of frame n hands on: its thunk, or one that names the frame of its cell, escape or sequence
abbrev pub handed_on : ℕ → Binding → Thunk
handed_on n (to_thunk t) = t
handed_on n (to_cell v) = cell_of n
handed_on n to_escape = jump_of n
handed_on n (to_sequence c) = sequence_of n
