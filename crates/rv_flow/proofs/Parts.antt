-- What micro-operations are made of: pieces as they are, and items of which the assembler chooses the form.
use Rattle.std.proofs.Common.{◌≡◌, ℕ, suc, ◌*◌, ℤ, pos, Bool, true, false, nat_le, if◌then◌else◌, List, [], ◌∷◌, ◌++◌, length, refl, sym, ap, ◌∙◌, append_assoc, append-nil}
use Rattle.std.specs.Int.{cast_signed, w64}
use Rattle.rv_insn.specs.declared.instructions.RegOp.TheVariants.{Sub}
use Rattle.rv_insn.specs.declared.instructions.ImmOp.TheVariants.{Addi}
use Rattle.rv_insn.specs.declared.instructions.LoadOp.TheVariants.{Ld}
use Rattle.rv_insn.specs.declared.instructions.StoreOp.TheVariants.{Sd}
use Rattle.rv_insn.specs.declared.instructions.BranchOp.{BranchOp}
use Rattle.rv_insn.specs.declared.instructions.BranchOp.TheVariants.{Bltu}
use Rattle.rv_insn.specs.declared.instructions.Insn.{Insn}
use Rattle.rv_insn.specs.declared.instructions.Insn.TheVariants as insn
use Rattle.rv_guard.specs.declared.pieces.Piece.{Piece}
use Rattle.rv_guard.specs.declared.pieces.Piece.TheVariants.{StackCheck, NearCheck, ServiceCall, Single}
use Rattle.rv_guard.specs.Patterns.{instructions_of}
use Rattle.rv_asm.specs.declared.items.Item.{Item}
use Rattle.rv_asm.specs.declared.items.Item.TheVariants.{Mark, BranchTo, JumpTo, FarTo, Constant}
use Rattle.rv_word.specs.declared.micros.Register.{Register}
use Rattle.rv_word.specs.declared.micros.Register.TheVariants as register
use Rattle.rv_word.specs.declared.micros.Micro.{Micro}
use Rattle.rv_word.specs.declared.micros.Micro.TheVariants.{Set, Imm, Shift, Alu, Window, Get, Save, Look, Room, Test, Jump, Enter, Put, Take, End, Exhaust, Fault}
use Rattle.rv_word.specs.Word.{Code}
use Rattle.rv_flow.specs.Lowering.{number_of, upper_part, lower_part, minus, plain, window_piece, look_piece, entry_piece, fault_piece, copy, lowered, micro_items, blocks_items, entry_items, items_of}

-- a part of a micro-operation: a label's mark, a piece as it is, or an item that may become one thing or another
pub data Part : Type 0 where
  mark : (label : ℕ) → Part
  stays : (piece : Piece) → Part
  constant : (rd : ℕ) (value : ℤ) → Part
  branch : (op : BranchOp) (rs1 rs2 label : ℕ) → Part
  jump : (label : ℕ) → Part
  far : (label : ℕ) → Part

abbrev pub part_items : Part → List Item
part_items (mark label) = Mark label ∷ []
part_items (stays piece) = plain (instructions_of piece)
part_items (constant rd value) = Constant rd value ∷ []
part_items (branch op rs1 rs2 label) = BranchTo op rs1 rs2 label ∷ []
part_items (jump label) = JumpTo label ∷ []
part_items (far label) = FarTo label ∷ []

abbrev pub items_in : List Part → List Item
items_in [] = []
items_in (part ∷ parts) = part_items part ++ items_in parts

-- one instruction as it is
abbrev pub single : Insn → Part
single i = stays (Single i)

-- the parts of a demand for room, where the number of bytes is short or isn't
abbrev pub room_parts : Bool → ℕ → List Part
room_parts true k = single (insn.Imm Addi 31 3 (minus (8 * k))) ∷ []
room_parts false k = single (insn.Lui 31 (upper_part (8 * k))) ∷ single (insn.Imm Addi 31 31 (lower_part (8 * k))) ∷ single (insn.Reg Sub 31 3 31) ∷ []

-- the check of a window, near or not
abbrev pub window_by : Bool → Register → ℕ → Piece
window_by b r k = if b then NearCheck (number_of r) (minus (8 * k)) else StackCheck (number_of r) (upper_part (8 * k)) (lower_part (8 * k))

abbrev pub parts_of : ℕ → ℕ → Micro → List Part
parts_of entries table_words (Set r v) = constant (number_of r) (cast_signed w64 v) ∷ []
parts_of entries table_words (Imm op r s imm) = single (insn.Imm op (number_of r) (number_of s) imm) ∷ []
parts_of entries table_words (Shift op r s amount) = single (insn.Shift op (number_of r) (number_of s) amount) ∷ []
parts_of entries table_words (Alu op r s t) = single (insn.Reg op (number_of r) (number_of s) (number_of t)) ∷ []
parts_of entries table_words (Window r k) = stays (window_piece r k) ∷ []
parts_of entries table_words (Get r s k) = single (insn.Load Ld (number_of r) (number_of s) (pos (8 * k))) ∷ []
parts_of entries table_words (Save s k r) = single (insn.Store Sd (number_of r) (number_of s) (pos (8 * k))) ∷ []
parts_of entries table_words (Look r s) = stays (look_piece table_words s) ∷ single (insn.Load Ld (number_of r) (number_of s) (pos 0)) ∷ []
parts_of entries table_words (Room k label) = room_parts (nat_le k 255) k ++ branch Bltu 31 (number_of register.Top) label ∷ []
parts_of entries table_words (Test op r s label) = branch op (number_of r) (number_of s) label ∷ []
parts_of entries table_words (Jump label) = jump label ∷ []
parts_of entries table_words (Enter r) = stays (entry_piece entries r) ∷ []
parts_of entries table_words (Put r) = single (copy 10 (number_of r)) ∷ stays (ServiceCall 1) ∷ []
parts_of entries table_words (Take r) = stays (ServiceCall 2) ∷ single (copy (number_of r) 10) ∷ []
parts_of entries table_words End = stays (ServiceCall 0) ∷ []
parts_of entries table_words Exhaust = stays (ServiceCall 4) ∷ []
parts_of entries table_words (Fault kind place) = stays (fault_piece kind place) ∷ []

-- the parts of a list of micro-operations, of blocks, and of entries, where these stand behind
abbrev pub micros_parts : ℕ → ℕ → List Micro → List Part → List Part
micros_parts entries table_words [] rest = rest
micros_parts entries table_words (m ∷ ms) rest = parts_of entries table_words m ++ micros_parts entries table_words ms rest

abbrev pub blocks_parts : ℕ → ℕ → ℕ → List (List Micro) → List Part
blocks_parts entries table_words label [] = []
blocks_parts entries table_words label (ms ∷ blocks) = mark label ∷ micros_parts entries table_words ms (blocks_parts entries table_words (suc label) blocks)

abbrev pub entry_parts : List ℕ → List Part → List Part
entry_parts [] rest = rest
entry_parts (label ∷ labels) rest = far label ∷ entry_parts labels rest

abbrev pub parts_in : Code → List Part
parts_in code = entry_parts code.entries (blocks_parts (length code.entries) (length code.table) 0 code.blocks)

-- ---- they are made of these

pub items_append : (xs ys : List Part) → items_in (xs ++ ys) ≡ items_in xs ++ items_in ys
items_append [] ys = refl
items_append (x ∷ xs) ys = ap (λ l. part_items x ++ l) (items_append xs ys) ∙ sym (append_assoc (part_items x) (items_in xs) (items_in ys))

room_items : (b : Bool) (k label : ℕ)
    → items_in (room_parts b k ++ branch Bltu 31 (number_of register.Top) label ∷ [])
    ≡ plain (if b then insn.Imm Addi 31 3 (minus (8 * k)) ∷ [] else insn.Lui 31 (upper_part (8 * k)) ∷ insn.Imm Addi 31 31 (lower_part (8 * k)) ∷ insn.Reg Sub 31 3 31 ∷ []) ++ BranchTo Bltu 31 (number_of register.Top) label ∷ []
room_items true k label = refl
room_items false k label = refl

micro_is : (entries table_words : ℕ) (m : Micro) → items_in (parts_of entries table_words m) ≡ lowered entries table_words m
micro_is entries table_words (Room k label) = room_items (nat_le k 255) k label
micro_is entries table_words (Window r k) = append-nil (plain (instructions_of (window_piece r k)))
micro_is entries table_words m = refl

micros_are : (entries table_words : ℕ) (ms : List Micro) (rest : List Part) → items_in (micros_parts entries table_words ms rest) ≡ micro_items entries table_words ms ++ items_in rest
micros_are entries table_words [] rest = refl
micros_are entries table_words (m ∷ ms) rest =
    let behind : List Part = micros_parts entries table_words ms rest in
    items_append (parts_of entries table_words m) behind
    ∙ ap (λ l. l ++ items_in behind) (micro_is entries table_words m)
    ∙ ap (λ l. lowered entries table_words m ++ l) (micros_are entries table_words ms rest)
    ∙ sym (append_assoc (lowered entries table_words m) (micro_items entries table_words ms) (items_in rest))

blocks_are : (entries table_words label : ℕ) (blocks : List (List Micro)) → items_in (blocks_parts entries table_words label blocks) ≡ blocks_items entries table_words label blocks
blocks_are entries table_words label [] = refl
blocks_are entries table_words label (ms ∷ blocks) =
    ap (λ l. Mark label ∷ l) (micros_are entries table_words ms (blocks_parts entries table_words (suc label) blocks)
    ∙ ap (λ l. micro_items entries table_words ms ++ l) (blocks_are entries table_words (suc label) blocks))

entries_are : (labels : List ℕ) (rest : List Part) → items_in (entry_parts labels rest) ≡ entry_items labels ++ items_in rest
entries_are [] rest = refl
entries_are (label ∷ labels) rest = ap (λ l. FarTo label ∷ l) (entries_are labels rest)

pub code_is : (code : Code) → items_in (parts_in code) ≡ items_of code
code_is code =
    entries_are code.entries (blocks_parts (length code.entries) (length code.table) 0 code.blocks)
    ∙ ap (λ l. entry_items code.entries ++ l) (blocks_are (length code.entries) (length code.table) 0 code.blocks)
