-- What the routines do, in whatever code holds them.
use Rattle.std.specs.Prelude.{◌≡◌, ℕ, suc, ◌+◌, ◌*◌, ◌^◌, ◌<◌, ◌≤◌, ℤ, Bool, true, if◌then◌else◌, List, ◌∷◌, ◌++◌, length, slice_index, slice_get, Some}
use Rattle.std.specs.Int.{cast_unsigned, w64}
use Rattle.fy_base.specs.Arithmetic.{is_int, written_text}
use Rattle.fy_base.specs.Outside.{Bytes}
use Rattle.fy_base.specs.declared.data.Datum.TheVariants as datum
use Rattle.fy_base.specs.declared.data.FaultKind.{FaultKind}
use Rattle.fy_base.specs.declared.data.Place.{Place}
use Rattle.fy_base.specs.declared.data.PutKind.TheVariants as kind
use Rattle.pe_frame.specs.Frames.{frame_words, display_start}
use Rattle.rv_insn.specs.declared.events.Event.{Event}
use Rattle.rv_insn.specs.declared.events.Event.TheVariants as event
use Rattle.rv_word.specs.declared.micros.Micro.{Micro}
use Rattle.rv_word.specs.Word.{Data, Code, State, goes, stops, block, word_address, word_run}
use Rattle.rv_word.specs.Costs.{spent}
use Rattle.rv_word.specs.Discipline.{Bounds, are_disciplined}
use Rattle.rv_flow.specs.Lowering.{block_items, blocks_items}
use Rattle.rv_flow.specs.Laws.{blocks_cost}
use Rattle.rv_runtime.specs.Routines.{meet, go, exhausted, put_true, put_false, put_int, make_frame, copy_display, first_free, fault_block, routine_blocks}

-- ---- code with the routines

-- its first two blocks are the caller's, then come the routines, and then others
pub record HoldsRoutines (code : Code) : Type 0 where
  pub meet_block : List Micro
  pub go_block : List Micro
  pub others : List (List Micro)
  pub are : code.blocks ≡ meet_block ∷ go_block ∷ (routine_blocks ++ others)

-- where a block begins
abbrev pub at_block : Code → ℕ → Data → State
at_block code label e = record { rest = block code label; held = e }

-- from a block some steps lead to another, at a cost
pub record Leads (code : Code) (from to most : ℕ) (before after : Data) : Type 0 where
  pub steps : ℕ
  pub some : 1 ≤ steps
  pub leads : word_run code steps (at_block code from before) ≡ goes (at_block code to after)
  pub cost : spent code steps (at_block code from before) ≤ most

-- a block ends the run at once
pub record Stops (code : Code) (label most : ℕ) (how : Event) (e : Data) : Type 0 where
  pub ends : word_run code 1 (at_block code label e) ≡ stops how e
  pub cost : spent code 1 (at_block code label e) ≤ most

-- ---- ends

abbrev pub ExhaustionIsTold : Type 0
ExhaustionIsTold = (code : Code) (e : Data) → HoldsRoutines code → Stops code exhausted 10 event.Exhausted e

abbrev pub FaultsAreTold : Type 0
FaultsAreTold =
    (code : Code) (label : ℕ) (fault : FaultKind) (number : ℕ) (place : Place) (e : Data) → block code label ≡ fault_block fault number → slice_get code.places number ≡ Some place
    → Stops code label 10 (event.Fault fault place) e

-- ---- output

-- what output leaves as it is
pub record KeepsAll (before after : Data) : Type 0 where
  pub frame : after.named.frame ≡ before.named.frame
  pub context : after.named.context ≡ before.named.context
  pub top : after.named.top ≡ before.named.top
  pub words : after.words ≡ before.words
  pub input : after.input ≡ before.input

-- a routine puts a text, and then its command is finished
pub record Puts (code : Code) (label most : ℕ) (text : Bytes) (before : Data) : Type 0 where
  pub after : Data
  pub leads : Leads code label meet most before after
  pub output : after.output ≡ before.output ++ text
  pub keeps : KeepsAll before after

abbrev pub IntsArePut : Type 0
IntsArePut =
    (code : Code) (z : ℤ) (text : Bytes) (e : Data) → HoldsRoutines code → is_int z ≡ true → e.named.datum ≡ cast_unsigned w64 z → written_text kind.Int (datum.Int z) ≡ Some text
    → Puts code put_int 600 text e

abbrev pub TruthsArePut : Type 0
TruthsArePut =
    (code : Code) (b : Bool) (text : Bytes) (e : Data) → HoldsRoutines code → written_text kind.Bool (datum.Bool b) ≡ Some text
    → Puts code (if b then put_true else put_false) 100 text e

-- ---- frames

-- the registers and words before n words, a multiple of four, are copied from word a on to word t on
pub record IsCopyBegun (a t n : ℕ) (e : Data) : Type 0 where
  pub third : e.named.third ≡ word_address a
  pub top : e.named.top ≡ word_address t
  pub second : e.named.second ≡ word_address (t + n)
  pub rounds : ℕ
  pub fours : n ≡ 4 * suc rounds
  pub apart : a + n ≤ t
  pub room : t + n ≤ length e.words
  pub few : length e.words ≤ 2 ^ 27

-- what making a frame leaves as it is
pub record KeepsRest (before after : Data) : Type 0 where
  pub context : after.named.context ≡ before.named.context
  pub datum : after.named.datum ≡ before.named.datum
  pub input : after.input ≡ before.input
  pub output : after.output ≡ before.output

-- words from word a on stand from word t on, n of them, and no other changed
pub record AreCopied (a t n : ℕ) (before after : List ℕ) : Type 0 where
  pub size : length after ≡ length before
  pub copied : (j : ℕ) → j < n → slice_index after (t + j) ≡ slice_index before (a + j)
  pub below : (k : ℕ) → k < t → slice_index after k ≡ slice_index before k
  pub above : (k : ℕ) → t + n ≤ k → slice_index after k ≡ slice_index before k

-- the words are copied, and the caller goes on behind them
pub record Copies (code : Code) (a t n : ℕ) (before : Data) : Type 0 where
  pub after : Data
  pub leads : Leads code copy_display go (16 * n) before after
  pub frame : after.named.frame ≡ before.named.frame
  pub top : after.named.top ≡ word_address (t + n)
  pub keeps : KeepsRest before after
  pub words : AreCopied a t n before.words after.words

abbrev pub DisplaysAreCopied : Type 0
DisplaysAreCopied = (code : Code) (a t n : ℕ) (e : Data) → HoldsRoutines code → IsCopyBegun a t n e → Copies code a t n e

-- a frame at a depth, around which the frame at word f is the innermost, is to be made at word t, and there is room for it
pub record IsFrameBegun (f t depth : ℕ) (e : Data) : Type 0 where
  pub frame : e.named.frame ≡ word_address f
  pub top : e.named.top ≡ word_address t
  pub third : e.named.third ≡ 8 * frame_words depth
  pub some : 1 ≤ depth
  pub most : depth ≤ 512
  pub apart : f + (2 + depth) ≤ t
  pub room : t + frame_words depth ≤ length e.words
  pub few : length e.words ≤ 2 ^ 27

-- the display at word t is the address of the frame at word f and then that frame's display, the three words before it are as before, and so are all words outside the frame
pub record HasFrame (f t depth : ℕ) (before after : List ℕ) : Type 0 where
  pub size : length after ≡ length before
  pub below : (k : ℕ) → k < t + display_start → slice_index after k ≡ slice_index before k
  pub first : slice_index after (t + display_start) ≡ word_address f
  pub display : (j : ℕ) → suc j < depth → slice_index after (t + display_start + suc j) ≡ slice_index before (f + display_start + j)
  pub above : (k : ℕ) → t + frame_words depth ≤ k → slice_index after k ≡ slice_index before k

-- the frame is made, and the caller goes on in it
pub record Makes (code : Code) (f t depth : ℕ) (before : Data) : Type 0 where
  pub after : Data
  pub leads : Leads code make_frame go (100 + 16 * depth) before after
  pub frame : after.named.frame ≡ word_address t
  pub top : after.named.top ≡ word_address (t + frame_words depth)
  pub keeps : KeepsRest before after
  pub words : HasFrame f t depth before.words after.words

abbrev pub FramesAreMade : Type 0
FramesAreMade = (code : Code) (f t depth : ℕ) (e : Data) → HoldsRoutines code → IsFrameBegun f t depth e → Makes code f t depth e

-- ---- the routines as code

-- they are disciplined wherever the labels are those of blocks
abbrev pub RoutinesAreDisciplined : Type 0
RoutinesAreDisciplined = (b : Bounds) → first_free ≤ b.blocks → are_disciplined b routine_blocks ≡ true

-- they have the labels up to the first free one, and take few words
pub record RoutinesAreFew : Type 0 where
  pub blocks : exhausted + length routine_blocks ≡ first_free
  pub words : blocks_cost routine_blocks ≤ 4096

-- their items are the same however many entries and words of the table there are, and so are those of a fault
pub record RoutinesAreUniform : Type 0 where
  pub routines : (entries table_words : ℕ) → blocks_items entries table_words exhausted routine_blocks ≡ blocks_items 0 0 exhausted routine_blocks
  pub faults : (entries table_words label : ℕ) (kind : FaultKind) (place : ℕ)
      → block_items entries table_words label (fault_block kind place) ≡ block_items 0 0 label (fault_block kind place)
