-- Frames, contexts and the cells of sequences on one stack of words, in order of making: where each stands, and how they are named by addresses.
use Rattle.std.specs.Prelude.{ℕ, zero, suc, ◌+◌, nat_eq, if◌then◌else◌, List, [], ◌∷◌, length, set, Some, None}
use Rattle.std.specs.declared.option.Option.{Option}
use Rattle.fy_base.specs.declared.data.Datum.{Datum}
use Rattle.pe_frame.specs.Frames.{frame_words, words_of_context}
use Rattle.fy_phrase.specs.Copy.{Which, own, element}
use Rattle.pe_machine.specs.States.{Thunk, cell_of, jump_of, Sequence, Focus, PeContext, is_named, element_in}

-- what a frame binds its variable to; an escape has the address of its context, and a sequence is bound as the thunk that names its own
pub data ItemBinding : Type 0 where
  to_thunk : Thunk → ItemBinding
  to_cell : Datum → ItemBinding
  to_escape : (context : ℕ) → ItemBinding

-- a frame, with the depth of its binder and the address of the frame around it; a context, with the address of the one outside it; or the cells of a sequence, on the
-- context that drops them. The thunks and pointers in them name frames by their addresses, and sequences by those of their contexts
pub data Item : Type 0 where
  frame : (depth : ℕ) (binding : ItemBinding) (around : Option ℕ) → Item
  context : (content : PeContext) (outside : ℕ) → Item
  sequence : Sequence → Item

-- how many words an item has
abbrev pub width : Item → ℕ
width (frame depth binding around) = frame_words depth
width (context content outside) = words_of_context
width (sequence c) = length c.values

-- how many words items have; the newest stands first
abbrev pub words : List Item → ℕ
words [] = 0
words (i ∷ is) = words is + width i

-- where the item that stands on these begins: word 0 is the stack's foot, to which the outmost contexts lead
abbrev pub address_on : List Item → ℕ
address_on is = suc (words is)

-- ---- contexts

-- a context, the address of the one outside it, and the items that are older
pub record FoundContext : Type 0 where
  pub content : PeContext
  pub outside : ℕ
  pub older : List Item

-- the context at an address
abbrev pub context_at : ℕ → List Item → Option FoundContext
context_at x [] = None
context_at x (frame depth binding around ∷ is) = context_at x is
context_at x (sequence c ∷ is) = context_at x is
context_at x (context content outside ∷ is) =
    if nat_eq x (address_on is) then Some (record { content = content; outside = outside; older = is }) else context_at x is

-- ---- frames

-- a frame's address and its binding
pub record FoundFrame : Type 0 where
  pub address : ℕ
  pub binding : ItemBinding

-- the frame itself, or one outside it
abbrev pub from_frame : ℕ → FoundFrame → (ℕ → Option FoundFrame) → Option FoundFrame
from_frame zero f outside = Some f
from_frame (suc k) f outside = outside k

-- the frame k frames outside the one at an address
abbrev pub frame_from : List Item → ℕ → Option ℕ → Option FoundFrame
frame_from [] k x = None
frame_from (context content outside ∷ is) k x = frame_from is k x
frame_from (sequence c ∷ is) k x = frame_from is k x
frame_from (frame depth binding around ∷ is) k x =
    if is_named x (address_on is)
    then from_frame k (record { address = address_on is; binding = binding }) (λ j. frame_from is j around)
    else frame_from is k x

-- what the variable of a frame hands on: its thunk, or one that names the frame of its cell or escape
abbrev pub handed_on : ℕ → ItemBinding → Thunk
handed_on x (to_thunk t) = t
handed_on x (to_cell v) = cell_of x
handed_on x (to_escape c) = jump_of x

abbrev pub handed_by : FoundFrame → Thunk
handed_by f = handed_on f.address f.binding

-- the datum in a cell
abbrev pub datum_in : ItemBinding → Option Datum
datum_in (to_thunk t) = None
datum_in (to_cell v) = Some v
datum_in (to_escape c) = None

-- the datum in the cell of the frame at an address
abbrev pub datum_at : ℕ → List Item → Option Datum
datum_at x [] = None
datum_at x (context content outside ∷ is) = datum_at x is
datum_at x (sequence c ∷ is) = datum_at x is
datum_at x (frame depth binding around ∷ is) = if nat_eq x (address_on is) then datum_in binding else datum_at x is

-- a cell with another datum
abbrev pub with_datum : Datum → ItemBinding → ItemBinding
with_datum v (to_thunk t) = to_thunk t
with_datum v (to_cell u) = to_cell v
with_datum v (to_escape c) = to_escape c

-- the items, with v in the cell of the frame at an address
abbrev pub with_cell : ℕ → Datum → List Item → List Item
with_cell x v [] = []
with_cell x v (context content outside ∷ is) = context content outside ∷ with_cell x v is
with_cell x v (sequence c ∷ is) = sequence c ∷ with_cell x v is
with_cell x v (frame depth binding around ∷ is) =
    if nat_eq x (address_on is) then frame depth (with_datum v binding) around ∷ is else frame depth binding around ∷ with_cell x v is

-- the address of the context of an escape
abbrev pub context_in : ItemBinding → Option ℕ
context_in (to_thunk t) = None
context_in (to_cell v) = None
context_in (to_escape c) = Some c

abbrev pub escape_at : ℕ → List Item → Option ℕ
escape_at x [] = None
escape_at x (context content outside ∷ is) = escape_at x is
escape_at x (sequence c ∷ is) = escape_at x is
escape_at x (frame depth binding around ∷ is) = if nat_eq x (address_on is) then context_in binding else escape_at x is

-- ---- sequences of cells

-- the sequence on the context at an address
abbrev pub sequence_at : ℕ → List Item → Option Sequence
sequence_at x [] = None
sequence_at x (context content outside ∷ is) = sequence_at x is
sequence_at x (frame depth binding around ∷ is) = sequence_at x is
sequence_at x (sequence c ∷ is) = if nat_eq (x + words_of_context) (address_on is) then Some c else sequence_at x is

-- the items, with v in cell i of the sequence on the context at an address
abbrev pub with_element : ℕ → ℕ → Datum → List Item → List Item
with_element x i v [] = []
with_element x i v (context content outside ∷ is) = context content outside ∷ with_element x i v is
with_element x i v (frame depth binding around ∷ is) = frame depth binding around ∷ with_element x i v is
with_element x i v (sequence c ∷ is) =
    if nat_eq (x + words_of_context) (address_on is) then sequence (record c { values = set c.values i v }) ∷ is else sequence c ∷ with_element x i v is

-- the datum in a cell: of the frame at an address, or of the sequence on the context at one
abbrev pub value_at : Which → ℕ → List Item → Option Datum
value_at own x is = datum_at x is
value_at (element i) x is = element_in i (sequence_at x is)

-- the items, with v in a cell
abbrev pub with_value : Which → ℕ → Datum → List Item → List Item
with_value own x v is = with_cell x v is
with_value (element i) x v is = with_element x i v is

-- ---- states

-- the focus, whose pointers have addresses of frames, the address of the newest context (0 where there is none), and the items
pub record ItemState : Type 0 where
  pub focus : Focus
  pub newest : ℕ
  pub items : List Item
