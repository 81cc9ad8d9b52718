-- Lowered code line by line over a view, so that what a micro-operation becomes is computed.
use Rattle.std.proofs.Common.{◌≡◌, ℕ, suc, ◌+◌, ◌-◌, ◌*◌, ◌/◌, ◌%◌, ◌^◌, ℤ, pos, negsuc, Bool, true, false, nat_eq, nat_lt, nat_le, ◌&&◌, if◌then◌else◌, List, [], ◌∷◌, ◌++◌, length, map, drop, slice_index, slice_set, Option, Some, None, refl}
use Rattle.std.specs.List.{slice_get}
use Rattle.std.specs.Int.{cast_signed, cast_unsigned, w64}
use Rattle.fy_base.specs.declared.data.Place.{Place}
use Rattle.fy_base.specs.declared.data.FaultKind.TheVariants as fault
use Rattle.rv_insn.specs.declared.events.Event.{Event}
use Rattle.rv_insn.specs.declared.events.Event.TheVariants as event
use Rattle.rv_insn.specs.declared.instructions.RegOp.{RegOp}
use Rattle.rv_insn.specs.declared.instructions.RegOp.TheVariants.{Add, Sub}
use Rattle.rv_insn.specs.declared.instructions.ImmOp.{ImmOp}
use Rattle.rv_insn.specs.declared.instructions.ImmOp.TheVariants.{Addi, Andi}
use Rattle.rv_insn.specs.declared.instructions.ShiftOp.{ShiftOp}
use Rattle.rv_insn.specs.declared.instructions.BranchOp.{BranchOp}
use Rattle.rv_insn.specs.declared.instructions.BranchOp.TheVariants.{Bne, Bltu, Bgeu}
use Rattle.rv_insn.specs.declared.instructions.LoadOp.TheVariants.{Ld}
use Rattle.rv_insn.specs.declared.instructions.StoreOp.TheVariants.{Sd}
use Rattle.rv_insn.specs.declared.instructions.Insn.{Insn}
use Rattle.rv_insn.specs.declared.instructions.Insn.TheVariants as insn
use Rattle.rv_insn.specs.Operations.{reg_value, imm_value, shift_value, is_taken, upper_value}
use Rattle.rv_insn.specs.Program.{code_start}
use Rattle.rv_insn.specs.Step.{displaced}
use Rattle.rv_guard.specs.Patterns.{instructions_of}
use Rattle.rv_asm.specs.declared.items.Item.{Item}
use Rattle.rv_asm.specs.declared.items.Item.TheVariants.{Plain, BranchTo, JumpTo, Constant}
use Rattle.rv_asm.specs.Forms.{constant_words}
use Rattle.rv_word.specs.declared.micros.Register.{Register}
use Rattle.rv_word.specs.declared.micros.Register.TheVariants.{Zero, Top}
use Rattle.rv_word.specs.declared.micros.Micro.{Micro}
use Rattle.rv_word.specs.declared.micros.Micro.TheVariants.{Set, Imm, Shift, Alu, Window, Get, Save, Look, Room, Test, Jump, Enter, Put, Take, End, Exhaust, Fault}
use Rattle.rv_word.specs.Word.{Data, Code, Led, hangs, stops, wrong, set, word_number, table_number, has_window, is_in_table, block, onward, taken_in}
use Rattle.rv_flow.specs.Lowering.{number_of, upper_part, lower_part, minus, kind_number, plain, lowered}
use Rattle.rv_flow.proofs.Parts.{window_by}
use Rattle.rv_flow.proofs.Shown.{Dest, N, X10, X11, X17, X30, X31, Source, R, X2, X3, X4, dest_number, source_number, View, read, put}

-- an instruction that goes on to the one behind, hangs at itself, or ends the run
pub data Line : Type 0 where
  Op : RegOp → Dest → Source → Source → Line
  Num : ImmOp → Dest → Source → ℤ → Line
  Lift : ShiftOp → Dest → Source → ℕ → Line
  Upper : Dest → ℕ → Line
  Stay : BranchOp → Source → Source → Line
  Load : Dest → Source → ℕ → Line
  Fetch : Dest → Source → Line
  Store : Source → ℕ → Source → Line
  Call : Line

-- what stands behind the lines of a micro-operation: nothing, or an item behind which x31 holds any number
pub data Last : Type 0 where
  Open : Last
  Value : Register → ℤ → Last
  Branch : BranchOp → Source → Source → ℕ → Last
  To : ℕ → Last
  Entry : Last

abbrev pub insn_of : Line → Insn
insn_of (Op op d a b) = insn.Reg op (dest_number d) (source_number a) (source_number b)
insn_of (Num op d a imm) = insn.Imm op (dest_number d) (source_number a) imm
insn_of (Lift op d a amount) = insn.Shift op (dest_number d) (source_number a) amount
insn_of (Upper d high) = insn.Lui (dest_number d) high
insn_of (Stay op a b) = insn.Branch op (source_number a) (source_number b) (pos 0)
insn_of (Load d a k) = insn.Load Ld (dest_number d) (source_number a) (pos (8 * k))
insn_of (Fetch d a) = insn.Load Ld (dest_number d) (source_number a) (pos 0)
insn_of (Store a k b) = insn.Store Sd (source_number b) (source_number a) (pos (8 * k))
insn_of Call = insn.Ecall

abbrev pub line_item : Line → Item
line_item i = Plain (insn_of i)

abbrev pub last_items : Last → List Item
last_items Open = []
last_items (Value r z) = Constant (number_of r) z ∷ []
last_items (Branch op a b label) = BranchTo op (source_number a) (source_number b) label ∷ []
last_items (To label) = JumpTo label ∷ []
last_items Entry = Plain (insn.Jalr 0 31 (pos 0)) ∷ []

-- ---- what they do

-- where the lines of a micro-operation lead: behind it, to a label, to themselves for ever, to the end of the run, or to what isn't said
pub data Did : Type 0 where
  Behind : Data → Did
  Away : ℕ → Data → Did
  Still : Data → Did
  Over : Event → Data → Did
  Unsaid : Did

-- a fault of the kind 1, 2 or 3 at a place
abbrev pub faulted_by : Option Place → ℕ → Data → Did
faulted_by None kind e = Unsaid
faulted_by (Some place) kind e =
    if nat_eq kind 1 then Over (event.Fault fault.Overflow place) e
    else (if nat_eq kind 2 then Over (event.Fault fault.Zero place) e
    else (if nat_eq kind 3 then Over (event.Fault fault.Range place) e
    else Unsaid))

-- the service with this number, and then what `rest` does
abbrev pub called : Code → ℕ → View → (View → Did) → Did
called code service v rest =
    if nat_eq service 0 then Over event.Ended v.held
    else (if nat_eq service 1 then rest (record v { held = record v.held { output = v.held.output ++ (v.scratch.x10 % 256) ∷ [] } })
    else (if nat_eq service 2 then rest (put (record v { held = record v.held { input = drop 1 v.held.input } }) X10 (taken_in (slice_get v.held.input 0)))
    else (if nat_eq service 3 then faulted_by (slice_get code.places v.scratch.x11) v.scratch.x10 v.held
    else (if nat_eq service 4 then Over event.Exhausted v.held
    else Unsaid))))

-- a line, and then what `rest` does
abbrev pub line_does : Code → Line → View → (View → Did) → Did
line_does code (Op op d a b) v rest = rest (put v d (reg_value op (read v a) (read v b)))
line_does code (Num op d a imm) v rest = rest (put v d (imm_value op (read v a) (cast_unsigned w64 imm)))
line_does code (Lift op d a amount) v rest = rest (put v d (shift_value op (read v a) amount))
line_does code (Upper d high) v rest = rest (put v d (upper_value high))
line_does code (Stay op a b) v rest = if is_taken op (read v a) (read v b) then Still v.held else rest v
line_does code (Load d a k) v rest =
    if has_window v.held (read v a) (k + 1) then rest (put v d (slice_index v.held.words (word_number (read v a) + k))) else Unsaid
line_does code (Fetch d a) v rest =
    if is_in_table code (read v a) then rest (put v d (slice_index code.table (table_number (read v a)))) else Unsaid
line_does code (Store a k b) v rest =
    if has_window v.held (read v a) (k + 1) && nat_lt (read v b) (2 ^ 64)
    then rest (record v { held = record v.held { words = slice_set v.held.words (word_number (read v a) + k) (read v b) } }) else Unsaid
line_does code Call v rest = called code v.scratch.x17 v rest

-- to a label that there is
abbrev pub to_label : Code → ℕ → Data → Did
to_label code label e = if nat_lt label (length code.blocks) then Away label e else Unsaid

-- the number of the entry at an address, and whether there is one
abbrev pub entry_number : ℕ → ℕ
entry_number address = (address - code_start) / 8

abbrev pub is_entry : Code → ℕ → Bool
is_entry code address = nat_le code_start address && (nat_lt (entry_number address) (length code.entries) && nat_eq (address % 8) 0)

abbrev pub entered : Code → ℕ → Data → Did
entered code address e = if is_entry code address then to_label code (slice_index code.entries (entry_number address)) e else Unsaid

abbrev pub last_does : Code → Last → View → Did
last_does code Open v = Behind v.held
last_does code (Value r z) v = Behind (record v.held { named = set v.held.named r (cast_unsigned w64 z) })
last_does code (Branch op a b label) v = if is_taken op (read v a) (read v b) then to_label code label v.held else Behind v.held
last_does code (To label) v = to_label code label v.held
last_does code Entry v = entered code (displaced v.scratch.x31 (pos 0) / 2 * 2) v.held

abbrev pub lines_do : Code → List Line → Last → View → Did
lines_do code [] last v = last_does code last v
lines_do code (i ∷ is) last v = line_does code i v (λ u. lines_do code is last u)

-- the word machine led so, where `rest` stands behind the micro-operation
abbrev pub led_by : Code → List Micro → Did → Led
led_by code rest (Behind e) = onward rest e
led_by code rest (Away label e) = onward (block code label) e
led_by code rest (Still e) = hangs e
led_by code rest (Over how e) = stops how e
led_by code rest Unsaid = wrong

-- ---- how many instructions they take

abbrev pub last_least : Last → ℕ
last_least Open = 0
last_least _ = 1

abbrev pub last_most : Last → ℕ
last_most Open = 0
last_most (Value r z) = constant_words z
last_most (Branch op a b label) = 3
last_most (To label) = 2
last_most Entry = 3

abbrev pub lines_least : List Line → Last → ℕ
lines_least [] last = last_least last
lines_least (i ∷ is) last = suc (lines_least is last)

abbrev pub lines_most : List Line → Last → ℕ
lines_most [] last = last_most last
lines_most (i ∷ is) last = suc (lines_most is last)

-- how many items they are
abbrev pub lines_count : List Line → Last → ℕ
lines_count [] last = length (last_items last)
lines_count (i ∷ is) last = suc (lines_count is last)

-- ---- the lines of each micro-operation

abbrev source : Register → Source
source r = R (N r)

-- a number below 2 ^ 31 in a register
abbrev pub number_lines : Dest → ℕ → List Line → List Line
number_lines d v rest = Upper d (upper_part v) ∷ Num Addi d (R d) (lower_part v) ∷ rest

abbrev pub room_lines : ℕ → List Line
room_lines k = if nat_le k 255 then Num Addi X31 X3 (minus (8 * k)) ∷ [] else number_lines X31 (8 * k) (Op Sub X31 X3 (R X31) ∷ [])

-- the check of a window, near or not
abbrev pub window_lines : Bool → Register → ℕ → List Line
window_lines true r k =
    Stay Bltu (source r) X2 ∷ Num Addi X31 X3 (minus (8 * k)) ∷ Stay Bltu (R X31) (source r)
    ∷ Num Andi X31 (source r) (pos 7) ∷ Stay Bne (R X31) (source Zero) ∷ []
window_lines false r k =
    Stay Bltu (source r) X2 ∷ Stay Bltu X3 (source r)
    ∷ number_lines X31 (8 * k) (Op Add X31 (R X31) (source r)
    ∷ Stay Bltu X3 (R X31) ∷ Num Andi X31 (source r) (pos 7) ∷ Stay Bne (R X31) (source Zero) ∷ [])

-- in code with so many entries and words of the table
abbrev pub lines_of : ℕ → ℕ → Micro → List Line
lines_of entries table_words (Set r v) = []
lines_of entries table_words (Imm op r s imm) = Num op (N r) (source s) imm ∷ []
lines_of entries table_words (Shift op r s amount) = Lift op (N r) (source s) amount ∷ []
lines_of entries table_words (Alu op r s t) = Op op (N r) (source s) (source t) ∷ []
lines_of entries table_words (Window r k) = window_lines (nat_le k 255) r k
lines_of entries table_words (Get r s k) = Load (N r) (source s) k ∷ []
lines_of entries table_words (Save s k r) = Store (source s) k (source r) ∷ []
lines_of entries table_words (Look r s) =
    Stay Bltu (source s) X4
    ∷ number_lines X31 (536870904 + 8 * table_words) (Stay Bltu (R X31) (source s)
    ∷ Num Andi X31 (source s) (pos 7) ∷ Stay Bne (R X31) (source Zero) ∷ Fetch (N r) (source s) ∷ [])
lines_of entries table_words (Room k label) = room_lines k
lines_of entries table_words (Test op r s label) = []
lines_of entries table_words (Jump label) = []
lines_of entries table_words (Enter r) =
    Num Andi X31 (source r) (negsuc 7) ∷ number_lines X30 (8 * entries) (Stay Bgeu (R X31) (R X30) ∷ Upper X30 16 ∷ Op Add X31 (R X31) (R X30) ∷ [])
lines_of entries table_words (Put r) = Num Addi X10 (source r) (pos 0) ∷ Num Addi X17 (source Zero) (pos 1) ∷ Call ∷ []
lines_of entries table_words (Take r) = Num Addi X17 (source Zero) (pos 2) ∷ Call ∷ Num Addi (N r) (R X10) (pos 0) ∷ []
lines_of entries table_words End = Num Addi X17 (source Zero) (pos 0) ∷ Call ∷ []
lines_of entries table_words Exhaust = Num Addi X17 (source Zero) (pos 4) ∷ Call ∷ []
lines_of entries table_words (Fault kind place) =
    Num Addi X10 (source Zero) (pos (kind_number kind)) ∷ number_lines X11 place (Num Addi X17 (source Zero) (pos 3) ∷ Call ∷ [])

abbrev pub last_of : Micro → Last
last_of (Set r v) = Value r (cast_signed w64 v)
last_of (Room k label) = Branch Bltu (R X31) (source Top) label
last_of (Test op r s label) = Branch op (source r) (source s) label
last_of (Jump label) = To label
last_of (Enter r) = Entry
last_of _ = Open

room_items : (b : Bool) (k : ℕ) (l : List Item)
    → plain (if b then insn.Imm Addi 31 3 (minus (8 * k)) ∷ [] else insn.Lui 31 (upper_part (8 * k)) ∷ insn.Imm Addi 31 31 (lower_part (8 * k)) ∷ insn.Reg Sub 31 3 31 ∷ []) ++ l
    ≡ map line_item (if b then Num Addi X31 X3 (minus (8 * k)) ∷ [] else number_lines X31 (8 * k) (Op Sub X31 X3 (R X31) ∷ [])) ++ l
room_items true k l = refl
room_items false k l = refl

window_items : (b : Bool) (r : Register) (k : ℕ) → plain (instructions_of (window_by b r k)) ≡ map line_item (window_lines b r k) ++ []
window_items true r k = refl
window_items false r k = refl

pub lines_are : (entries table_words : ℕ) (m : Micro) → lowered entries table_words m ≡ map line_item (lines_of entries table_words m) ++ last_items (last_of m)
lines_are entries table_words (Room k label) = room_items (nat_le k 255) k (last_items (last_of (Room k label)))
lines_are entries table_words (Window r k) = window_items (nat_le k 255) r k
lines_are entries table_words m = refl
