-- Which words of the stack stand for frames, contexts and cells of sequences, and where the word machine stands as the machine of items does.
use Rattle.std.specs.Prelude.{◌≡◌, ◌⊎◌, ℕ, suc, ◌+◌, ◌^◌, ◌<◌, ◌≤◌, pos, nat_eq, if◌then◌else◌, List, [], ◌∷◌, length, replicate, slice_get, slice_index, All, Some, None}
use Rattle.std.specs.declared.option.Option.{Option}
use Rattle.fy_base.specs.declared.data.Place.{Place}
use Rattle.fy_base.specs.declared.data.Datum.{Datum}
use Rattle.fy_base.specs.declared.data.Datum.TheVariants.{Int}
use Rattle.fy_phrase.specs.Contexts.{op_1, op_l, op_r, if_c, case_c, arg_c, pick_c, then_c, assign_c, store_c, while_c, body_c, loop_c, new_c, drop_c, put_c, esc_c, cells_c, fill_c, element_c}
use Rattle.pe_code.specs.declared.code.PeInsn.{PeInsn}
use Rattle.pe_code.specs.declared.code.PeInsn.TheVariants as insn
use Rattle.pe_code.specs.declared.code.Purpose.TheVariants as purpose
use Rattle.pe_code.specs.declared.code.StraightPart.{StraightPart}
use Rattle.pe_code.specs.declared.code.PeCode.{PeCode}
use Rattle.pe_code.specs.Code.{item_at}
use Rattle.pe_code.specs.Valid.{LeadsTo, IsThunkNode}
use Rattle.pe_frame.specs.Frames.{display_start, words_of_context}
use Rattle.pe_machine.specs.States.{Pointer, Thunk, source, datum, cell_of, jump_of, sequence_of, Sequence, Focus, code_at, value, completed, PeContext}
use Rattle.pe_items.specs.Items.{ItemBinding, to_thunk, to_cell, to_escape, Item, frame, context, sequence, address_on, FoundFrame, frame_from, handed_on, ItemState}
use Rattle.rv_word.specs.declared.micros.Micro.{Micro}
use Rattle.rv_word.specs.Word.{Data, Code, State, word_address, block}
use Rattle.rv_operators.specs.Operators.{word_of}
use Rattle.rv_operators.specs.Laws.{IsDatum}
use Rattle.rv_select.specs.Numbers.{meet, fill_label, filled_label, right_entries, label_of, entry_number, entry_word, end_entry, pop_entry, element_entry, column_word, datum_column, cell_column, escape_column, sequence_column, column_of}
use Rattle.rv_select.specs.Blocks.{put_entry}

-- word k of what stands at word x
abbrev pub word_in : List ℕ → ℕ → ℕ → ℕ
word_in words x k = slice_index words (x + k)

-- ---- frames around one another

-- the address of the frame that is named, or that of the stack's foot where none is
abbrev pub frame_word : Option ℕ → ℕ
frame_word None = word_address 0
frame_word (Some x) = word_address x

-- how many frames there are from the one that is named on outward
abbrev pub frames_from : List Item → Option ℕ → Option ℕ
frames_from is None = Some 0
frames_from [] (Some x) = None
frames_from (context content outside ∷ is) (Some x) = frames_from is (Some x)
frames_from (sequence c ∷ is) (Some x) = frames_from is (Some x)
frames_from (frame depth binding around ∷ is) (Some x) = if nat_eq x (address_on is) then Some (suc depth) else frames_from is (Some x)

abbrev pub address_found : Option FoundFrame → Option ℕ
address_found None = None
address_found (Some f) = Some f.address

-- ---- thunks and bindings: a thunk is two words, and `depths` says how many frames there are from one on

-- the column of the table's rows in which its entries stand
abbrev pub column : PeCode → Thunk → ℕ
column code (source node around) = column_of code node
column code (datum v) = datum_column
column code (cell_of x) = cell_column
column code (jump_of x) = escape_column
column code (sequence_of x) = sequence_column

-- where the number of its cells stands: in word 2 of the context on which they are
abbrev pub count_address : ℕ → ℕ
count_address x = word_address (x + 2)

-- what its code finds as the frame in use
abbrev pub payload : Thunk → ℕ
payload (source node around) = frame_word around
payload (datum v) = word_of v
payload (cell_of x) = word_address x
payload (jump_of x) = word_address x
payload (sequence_of x) = count_address x

-- its node is one of which thunks are made where its frame is, and its datum is in range
abbrev pub IsGoodThunk : PeCode → (Option ℕ → Option ℕ) → Thunk → Type 0
IsGoodThunk code depths (source node around) = (depth : ℕ) × IsThunkNode code depth node × (depths around ≡ Some depth)
IsGoodThunk code depths (datum v) = IsDatum v
IsGoodThunk code depths (cell_of x) = Unit {0}
IsGoodThunk code depths (jump_of x) = Unit {0}
IsGoodThunk code depths (sequence_of x) = Unit {0}

abbrev pub IsGoodBinding : PeCode → (Option ℕ → Option ℕ) → ItemBinding → Type 0
IsGoodBinding code depths (to_thunk t) = IsGoodThunk code depths t
IsGoodBinding code depths (to_cell v) = IsDatum v
IsGoodBinding code depths (to_escape c) = Unit {0}

-- word 2 of a frame is the datum of a cell, and the address of the context of an escape
abbrev pub HasThird : ItemBinding → ℕ → Type 0
HasThird (to_thunk t) w = Unit {0}
HasThird (to_cell v) w = w ≡ word_of v
HasThird (to_escape c) w = w ≡ word_address c

-- that context stands below the frame, which is at word x
abbrev pub LeavesBelow : ItemBinding → ℕ → Type 0
LeavesBelow (to_thunk t) x = Unit {0}
LeavesBelow (to_cell v) x = Unit {0}
LeavesBelow (to_escape c) x = c < x

-- a frame that stands on these items: words 0 and 1 are what its variable hands on, and word j of its display is the address of the frame j frames outside the one around it
pub record FrameIsLaid (code : PeCode) (words : List ℕ) (is : List Item) (depth : ℕ) (binding : ItemBinding) (around : Option ℕ) : Type 0 where
  pub column_is : word_in words (address_on is) 0 ≡ column_word (column code (handed_on (address_on is) binding))
  pub payload_is : word_in words (address_on is) 1 ≡ payload (handed_on (address_on is) binding)
  pub third : HasThird binding (word_in words (address_on is) 2)
  pub below : LeavesBelow binding (address_on is)
  pub display : (j y : ℕ) → j < depth → address_found (frame_from is j around) ≡ Some y → word_in words (address_on is) (display_start + j) ≡ word_address y
  pub depth_is : frames_from is around ≡ Some depth
  pub good : IsGoodBinding code (frames_from is) binding

-- ---- contexts: word 0 is the entry at which they are met, word 1 the address of the one outside, and words 2 and 3 are their parts

-- the item at the address is this, and the word names its k-th entry
pub record IsEntryOf (code : PeCode) (a depth : ℕ) (i : PeInsn) (at : Place) (k w : ℕ) : Type 0 where
  pub stands : item_at code a ≡ Some (record { insn = i; depth = depth; place = at })
  pub entry : w ≡ entry_word (entry_number code a + k)

-- and word 2 is the frame in which the item runs
pub record IsHeldBy (code : PeCode) (depths : Option ℕ → Option ℕ) (a depth : ℕ) (i : PeInsn) (at : Place) (around : Option ℕ) (k w0 w2 : ℕ) : Type 0 where
  pub entry : IsEntryOf code a depth i at k w0
  pub deep : depths around ≡ Some depth
  pub frame : w2 ≡ frame_word around

-- the word names the entry by which an item's sequence of cells is dropped, behind which is that of its fault
abbrev pub DropsCells : PeCode → Place → ℕ → Type 0
DropsCells code at w = (a depth x y : ℕ) × IsEntryOf code a depth (insn.Cells x y) at 3 w

-- words 0, 2 and 3. No cells are made while these contexts stand: see below. Contexts of arguments, selections and acceptors are never met, so that their word 0 may be anything
abbrev pub HasParts : PeCode → (Option ℕ → Option ℕ) → PeContext → (w0 w2 w3 : ℕ) → Type 0
HasParts code depths (op_1 op at) w0 w2 w3 = (a depth x : ℕ) × IsEntryOf code a depth (insn.Op1 op x) at 1 w0
HasParts code depths (op_l op q at) w0 w2 w3 = (a depth x : ℕ) × IsHeldBy code depths a depth (insn.Op2 op x q.address) at q.frame 1 w0 w2
HasParts code depths (op_r op u at) w0 w2 w3 =
    (a depth x y : ℕ) × IsEntryOf code a depth (insn.Op2 op x y) at 2 w0 × (1 ≤ right_entries op) × (w2 ≡ word_of u) × IsDatum u
HasParts code depths (if_c p q) w0 w2 w3 =
    (a depth x : ℕ) × (at : Place) × IsHeldBy code depths a depth (insn.Cond x p.address q.address) at p.frame 1 w0 w2 × (q.frame ≡ p.frame)
HasParts code depths (case_c parts at) w0 w2 w3 =
    (depth x : ℕ) × (ys : List ℕ) × IsHeldBy code depths parts.address depth (insn.Case x ys) at parts.frame 1 w0 w2
HasParts code depths (arg_c t) w0 w2 w3 = (w2 ≡ column_word (column code t)) × (w3 ≡ payload t) × IsGoodThunk code depths t
HasParts code depths (pick_c i) w0 w2 w3 = Unit {0}
HasParts code depths (then_c q) w0 w2 w3 = (a depth x : ℕ) × (at : Place) × IsHeldBy code depths a depth (insn.Seq x q.address) at q.frame 1 w0 w2
HasParts code depths (assign_c p) w0 w2 w3 = (a depth y : ℕ) × (at : Place) × IsHeldBy code depths a depth (insn.Assign p.address y) at p.frame 1 w0 w2
HasParts code depths (store_c v) w0 w2 w3 = (w2 ≡ word_of v) × IsDatum v
HasParts code depths (while_c loop c) w0 w2 w3 =
    (depth x : ℕ) × (at : Place) × IsHeldBy code depths loop.address depth (insn.While x c.address) at loop.frame 1 w0 w2 × (c.frame ≡ loop.frame)
HasParts code depths (body_c loop) w0 w2 w3 =
    ((depth x y : ℕ) × (at : Place) × IsHeldBy code depths loop.address depth (insn.While x y) at loop.frame 2 w0 w2)
    ⊎ ((depth x : ℕ) × (ss : List StraightPart) × (at : Place) × IsHeldBy code depths loop.address depth (insn.EvalFor ss (purpose.Repeat x)) at loop.frame 1 w0 w2)
HasParts code depths (loop_c loop) w0 w2 w3 = (depth x : ℕ) × (at : Place) × IsHeldBy code depths loop.address depth (insn.Loop x) at loop.frame 1 w0 w2
HasParts code depths (new_c d body) w0 w2 w3 = (a x : ℕ) × (at : Place) × IsHeldBy code depths a d (insn.New x body.address) at body.frame 1 w0 w2
HasParts code depths (drop_c n) w0 w2 w3 = (w0 ≡ entry_word pop_entry) ⊎ ((at : Place) × DropsCells code at w0)
HasParts code depths (put_c kind) w0 w2 w3 = w0 ≡ entry_word (put_entry kind)
HasParts code depths (esc_c n) w0 w2 w3 = w0 ≡ entry_word pop_entry
HasParts code depths (cells_c d body at) w0 w2 w3 = (a x : ℕ) × IsHeldBy code depths a d (insn.Cells x body.address) at body.frame 1 w0 w2
HasParts code depths (fill_c n v d body at) w0 w2 w3 = ⊥
HasParts code depths (element_c w) w0 w2 w3 = (w0 ≡ entry_word (element_entry w.is_written)) × (w2 ≡ count_address w.number)

-- a context that stands on these items
pub record ContextIsLaid (code : PeCode) (words : List ℕ) (is : List Item) (content : PeContext) (outside : ℕ) : Type 0 where
  pub outside_is : word_in words (address_on is) 1 ≡ word_address outside
  pub parts : HasParts code (frames_from is) content (word_in words (address_on is) 0) (word_in words (address_on is) 2) (word_in words (address_on is) 3)

-- ---- sequences of cells: each stands on the context that drops it

-- the context is at word x: its word 0 tells the place of the sequence, its word 2 the number of the cells, and they stand behind it
pub record CellsAreLaid (code : PeCode) (words : List ℕ) (x : ℕ) (c : Sequence) : Type 0 where
  pub drops : DropsCells code c.place (word_in words x 0)
  pub count : word_in words x 2 ≡ length c.values
  pub cells : (i : ℕ) (v : Datum) → slice_get c.values i ≡ Some v → (word_in words (x + words_of_context) i ≡ word_of v) × IsDatum v

abbrev pub SequenceIsLaid : PeCode → List ℕ → List Item → Sequence → Type 0
SequenceIsLaid code words [] c = ⊥
SequenceIsLaid code words (frame depth binding around ∷ is) c = ⊥
SequenceIsLaid code words (sequence b ∷ is) c = ⊥
SequenceIsLaid code words (context content outside ∷ is) c = CellsAreLaid code words (address_on is) c

-- ---- all items

abbrev pub IsLaid : PeCode → List ℕ → List Item → Item → Type 0
IsLaid code words is (frame depth binding around) = FrameIsLaid code words is depth binding around
IsLaid code words is (context content outside) = ContextIsLaid code words is content outside
IsLaid code words is (sequence c) = SequenceIsLaid code words is c

abbrev pub AreLaid : PeCode → List ℕ → List Item → Type 0
AreLaid code words [] = Unit {0}
AreLaid code words (i ∷ is) = IsLaid code words is i × AreLaid code words is

-- the words of the stack have the items, and at the foot the entry of the program's end
pub record HasItems (code : PeCode) (words : List ℕ) (is : List Item) : Type 0 where
  pub foot : slice_index words 0 ≡ entry_word end_entry
  pub fits : address_on is ≤ length words
  pub few : length words ≤ 2 ^ 27
  pub laid : AreLaid code words is

-- and the registers have the newest context and the top; input is bytes
pub record HoldsItems (code : PeCode) (newest : ℕ) (is : List Item) (e : Data) : Type 0 where
  pub newest_is : e.named.context ≡ word_address newest
  pub top_is : e.named.top ≡ word_address (address_on is)
  pub memory : HasItems code e.words is
  pub bytes : All (λ byte. byte < 256) e.input

-- ---- states

-- what is left is the block of an item, whose frame is in use
pub record RunsItem (code : PeCode) (w : Code) (is : List Item) (p : Pointer) (rest : List Micro) (e : Data) : Type 0 where
  pub depth : ℕ
  pub leads : LeadsTo code depth p.address
  pub deep : frames_from is p.frame ≡ Some depth
  pub frame : e.named.frame ≡ frame_word p.frame
  pub at : rest ≡ block w (label_of code p.address)

-- a datum meets the newest context
pub record MeetsWith (w : Code) (v : Datum) (rest : List Micro) (e : Data) : Type 0 where
  pub datum : e.named.datum ≡ word_of v
  pub good : IsDatum v
  pub at : rest ≡ block w meet

abbrev pub HasFocus : PeCode → Code → List Item → Focus → List Micro → Data → Type 0
HasFocus code w is (code_at p) rest e = RunsItem code w is p rest e
HasFocus code w is (value v) rest e = MeetsWith w v rest e
HasFocus code w is completed rest e = rest ≡ block w meet

-- a state of the word machine in code w at which no cells are made
pub record IsAtRest (code : PeCode) (w : Code) (s : ItemState) (t : State) : Type 0 where
  pub items : HoldsItems code s.newest s.items t.held
  pub focus : HasFocus code w s.items s.focus t.rest t.held

-- where k of m cells are made, one more is, or all are there
abbrev pub IsAtFilling : Code → (k m : ℕ) → List Micro → Type 0
IsAtFilling w k m rest = ((k < m) × (rest ≡ block w fill_label)) ⊎ ((k ≡ m) × (rest ≡ block w filled_label))

-- one at which cells are made: k of m, by the item at address a, above older items
pub record MakesCells (code : PeCode) (w : Code) (s : ItemState) (t : State) : Type 0 where
  pub k : ℕ
  pub m : ℕ
  pub depth : ℕ
  pub a : ℕ
  pub first : ℕ
  pub body : Pointer
  pub place : Place
  pub outside : ℕ
  pub older : List Item
  pub state : s ≡ record {
    focus = value (Int (pos k));
    newest = address_on older;
    items = sequence (record { place = place; values = replicate k (Int (pos 0)) }) ∷ context (fill_c 0 m depth body place) outside ∷ older;
  }
  pub stands : item_at code a ≡ Some (record { insn = insn.Cells first body.address; depth = depth; place = place })
  pub deep : frames_from older body.frame ≡ Some depth
  pub at : IsAtFilling w k m t.rest
  -- its words: the entry, the context outside, and the number of cells; and the cells
  pub memory : HasItems code t.held.words older
  pub entry : word_in t.held.words (address_on older) 0 ≡ entry_word (entry_number code a + 2)
  pub outside_is : word_in t.held.words (address_on older) 1 ≡ word_address outside
  pub count : word_in t.held.words (address_on older) 2 ≡ m
  pub cells : (i : ℕ) → i < k → word_in t.held.words (address_on older + words_of_context) i ≡ 0
  pub fits : address_on older + words_of_context + k ≤ length t.held.words
  -- its registers
  pub frame : t.held.named.frame ≡ frame_word body.frame
  pub newest : t.held.named.context ≡ word_address (address_on older)
  pub top : t.held.named.top ≡ word_address (address_on older + words_of_context + k)
  pub datum : t.held.named.datum ≡ k
  pub second : t.held.named.second ≡ m
  pub bytes : All (λ byte. byte < 256) t.held.input

-- a state of the word machine in code w stands for a state of items
abbrev pub Stands : PeCode → Code → ItemState → State → Type 0
Stands code w s t = IsAtRest code w s t ⊎ MakesCells code w s t
