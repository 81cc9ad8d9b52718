-- What micro-operations become: items of assembly. Checks, entries, services and faults are the patterns of guarded code.
use Rattle.std.specs.Prelude.{ℕ, zero, suc, ◌+◌, ◌-◌, ◌*◌, ◌/◌, ◌%◌, ℤ, pos, negsuc, nat_le, nat_lt, if◌then◌else◌, List, [], ◌∷◌, ◌++◌, length, map}
use Rattle.std.specs.Int.{cast_signed, w64}
use Rattle.fy_base.specs.declared.data.FaultKind.{FaultKind}
use Rattle.fy_base.specs.declared.data.FaultKind.TheVariants.{Overflow, Zero, Range}
use Rattle.rv_insn.specs.declared.instructions.RegOp.TheVariants.{Sub}
use Rattle.rv_insn.specs.declared.instructions.ImmOp.TheVariants.{Addi}
use Rattle.rv_insn.specs.declared.instructions.LoadOp.TheVariants.{Ld}
use Rattle.rv_insn.specs.declared.instructions.StoreOp.TheVariants.{Sd}
use Rattle.rv_insn.specs.declared.instructions.BranchOp.TheVariants.{Bltu}
use Rattle.rv_insn.specs.declared.instructions.Insn.{Insn}
use Rattle.rv_insn.specs.declared.instructions.Insn.TheVariants as insn
use Rattle.rv_guard.specs.declared.pieces.Piece.{Piece}
use Rattle.rv_guard.specs.declared.pieces.Piece.TheVariants.{StackCheck, NearCheck, TableCheck, Entry, ServiceCall, FaultCall}
use Rattle.rv_guard.specs.Patterns.{instructions_of}
use Rattle.rv_asm.specs.declared.items.Item.{Item}
use Rattle.rv_asm.specs.declared.items.Item.TheVariants.{Mark, Plain, BranchTo, JumpTo, FarTo, Constant}
use Rattle.rv_word.specs.declared.micros.Register.{Register}
use Rattle.rv_word.specs.declared.micros.Register.TheVariants as register
use Rattle.rv_word.specs.declared.micros.Micro.{Micro}
use Rattle.rv_word.specs.declared.micros.Micro.TheVariants.{Set, Imm, Shift, Alu, Window, Get, Save, Look, Room, Test, Jump, Enter, Put, Take, End, Exhaust, Fault}
use Rattle.rv_word.specs.Word.{Code}

-- the register of RV64IM. x10, x11 and x17 belong to services, x30 and x31 to patterns, and x2, x3 and x4 hold the bounds of the regions
abbrev pub number_of : Register → ℕ
number_of register.Zero = 0
number_of register.Frame = 5
number_of register.Context = 6
number_of register.Top = 7
number_of register.Datum = 8
number_of register.First = 9
number_of register.Second = 12
number_of register.Third = 13

-- a number as 4096 times its upper part and its lower part, of twelve bits with sign
abbrev pub upper_part : ℕ → ℕ
upper_part v = (v + 2048) / 4096

abbrev pub lower_part : ℕ → ℤ
lower_part v = if nat_lt (v % 4096) 2048 then pos (v % 4096) else negsuc (4095 - v % 4096)

-- the negative of a number
abbrev pub minus : ℕ → ℤ
minus zero = pos 0
minus (suc v) = negsuc v

abbrev pub kind_number : FaultKind → ℕ
kind_number Overflow = 1
kind_number Zero = 2
kind_number Range = 3

-- instructions as they are
abbrev pub plain : List Insn → List Item
plain insns = map (λ i. Plain i) insns

-- x31 is so many words below the stack's end
abbrev pub room_insns : ℕ → List Insn
room_insns k =
    if nat_le k 255 then insn.Imm Addi 31 3 (minus (8 * k)) ∷ []
    else insn.Lui 31 (upper_part (8 * k)) ∷ insn.Imm Addi 31 31 (lower_part (8 * k)) ∷ insn.Reg Sub 31 3 31 ∷ []

-- the pieces that check, enter, serve and fault. A window of at most 255 words is checked near
abbrev pub window_piece : Register → ℕ → Piece
window_piece r k =
    if nat_le k 255 then NearCheck (number_of r) (minus (8 * k)) else StackCheck (number_of r) (upper_part (8 * k)) (lower_part (8 * k))

-- the last word of the table is the highest that a check of the table lets through
abbrev pub look_piece : ℕ → Register → Piece
look_piece table_words s = TableCheck (number_of s) (upper_part (536870904 + 8 * table_words)) (lower_part (536870904 + 8 * table_words))

abbrev pub entry_piece : ℕ → Register → Piece
entry_piece entries r = Entry (number_of r) (upper_part (8 * entries)) (lower_part (8 * entries))

abbrev pub fault_piece : FaultKind → ℕ → Piece
fault_piece kind place = FaultCall (kind_number kind) (upper_part place) (lower_part place)

abbrev pub copy : ℕ → ℕ → Insn
copy rd rs = insn.Imm Addi rd rs (pos 0)

-- a micro-operation, in code with so many entries and words of the table
abbrev pub lowered : ℕ → ℕ → Micro → List Item
lowered entries table_words (Set r v) = Constant (number_of r) (cast_signed w64 v) ∷ []
lowered entries table_words (Imm op r s imm) = Plain (insn.Imm op (number_of r) (number_of s) imm) ∷ []
lowered entries table_words (Shift op r s amount) = Plain (insn.Shift op (number_of r) (number_of s) amount) ∷ []
lowered entries table_words (Alu op r s t) = Plain (insn.Reg op (number_of r) (number_of s) (number_of t)) ∷ []
lowered entries table_words (Window r k) = plain (instructions_of (window_piece r k))
lowered entries table_words (Get r s k) = Plain (insn.Load Ld (number_of r) (number_of s) (pos (8 * k))) ∷ []
lowered entries table_words (Save s k r) = Plain (insn.Store Sd (number_of r) (number_of s) (pos (8 * k))) ∷ []
lowered entries table_words (Look r s) = plain (instructions_of (look_piece table_words s)) ++ Plain (insn.Load Ld (number_of r) (number_of s) (pos 0)) ∷ []
lowered entries table_words (Room k label) = plain (room_insns k) ++ BranchTo Bltu 31 (number_of register.Top) label ∷ []
lowered entries table_words (Test op r s label) = BranchTo op (number_of r) (number_of s) label ∷ []
lowered entries table_words (Jump label) = JumpTo label ∷ []
lowered entries table_words (Enter r) = plain (instructions_of (entry_piece entries r))
lowered entries table_words (Put r) = Plain (copy 10 (number_of r)) ∷ plain (instructions_of (ServiceCall 1))
lowered entries table_words (Take r) = plain (instructions_of (ServiceCall 2)) ++ Plain (copy (number_of r) 10) ∷ []
lowered entries table_words End = plain (instructions_of (ServiceCall 0))
lowered entries table_words Exhaust = plain (instructions_of (ServiceCall 4))
lowered entries table_words (Fault kind place) = plain (instructions_of (fault_piece kind place))

abbrev pub micro_items : ℕ → ℕ → List Micro → List Item
micro_items entries table_words [] = []
micro_items entries table_words (m ∷ ms) = lowered entries table_words m ++ micro_items entries table_words ms

-- a block: its label stands before it
abbrev pub block_items : ℕ → ℕ → ℕ → List Micro → List Item
block_items entries table_words label ms = Mark label ∷ micro_items entries table_words ms

-- blocks whose labels count up from one
abbrev pub blocks_items : ℕ → ℕ → ℕ → List (List Micro) → List Item
blocks_items entries table_words label [] = []
blocks_items entries table_words label (ms ∷ blocks) =
    block_items entries table_words label ms ++ blocks_items entries table_words (suc label) blocks

-- the far jumps to the entries, with which code begins
abbrev pub entry_items : List ℕ → List Item
entry_items entries = map (λ label. FarTo label) entries

-- whole code
abbrev pub items_of : Code → List Item
items_of code = entry_items code.entries ++ blocks_items (length code.entries) (length code.table) 0 code.blocks
