-- The form that an item is given: by whether it is near, and by the words before which it and its label stand.
use Rattle.std.specs.Prelude.{ℕ, ◌+◌, ◌-◌, ◌*◌, ◌/◌, ◌%◌, ◌^◌, ℤ, pos, negsuc, Bool, false, not, ◌||◌, nat_lt, nat_le, if◌then◌else◌, List, [], ◌∷◌}
use Rattle.std.specs.Int.{cast_unsigned, w64}
use Rattle.rv_insn.specs.declared.instructions.BranchOp.{BranchOp}
use Rattle.rv_insn.specs.declared.instructions.ImmOp.TheVariants.{Addi, Addiw}
use Rattle.rv_insn.specs.declared.instructions.ShiftOp.TheVariants.{Slli}
use Rattle.rv_insn.specs.declared.instructions.Insn.{Insn}
use Rattle.rv_insn.specs.declared.instructions.Insn.TheVariants.{Imm, Shift, Branch, Lui, Auipc, Jal, Jalr}
use Rattle.rv_insn.specs.Fields.{twos_complement}
use Rattle.rv_asm.specs.declared.items.Item.{Item}
use Rattle.rv_asm.specs.declared.items.Item.TheVariants.{Mark, Plain, BranchTo, JumpTo, FarTo, CallTo, AddressOf, Constant}
use Rattle.rv_asm.specs.Forms.{opposite, has_bits, constant_words}

-- how many bytes the word `to` stands behind the word `here`, with sign
unfoldable pub offset_between : ℕ → ℕ → ℤ
offset_between here to = if nat_lt to here then negsuc (4 * (here - to) - 1) else pos (4 * (to - here))

-- the same without sign, modulo 2 ^ 32
unfoldable pub distance : ℕ → ℕ → ℕ
distance here to = 2 ^ 32 + 4 * to - 4 * here

-- the 20 bits above and the 12 bits with sign that add up to a number, modulo 2 ^ 32
unfoldable pub upper_part : ℕ → ℕ
upper_part n = (n + 2048) / 4096 % 2 ^ 20

unfoldable pub lower_part : ℕ → ℤ
lower_part n = twos_complement 12 (n % 4096)

-- the near form of a jump and of a branch
abbrev pub near_jump : ℕ → ℕ → ℕ → Insn
near_jump rd here to = Jal rd (offset_between here to)

abbrev pub near_branch : BranchOp → ℕ → ℕ → ℕ → ℕ → Insn
near_branch op rs1 rs2 here to = Branch op rs1 rs2 (offset_between here to)

-- the far form of a jump and of a branch
abbrev pub far_jump : ℕ → ℕ → ℕ → List Insn
far_jump rd here to = Auipc 31 (upper_part (distance here to)) ∷ Jalr rd 31 (lower_part (distance here to)) ∷ []

abbrev pub far_branch : BranchOp → ℕ → ℕ → ℕ → ℕ → List Insn
far_branch op rs1 rs2 here to = Branch (opposite op) rs1 rs2 (pos 12) ∷ far_jump 0 (here + 1) to

-- the address of a label
abbrev pub address_form : ℕ → ℕ → ℕ → List Insn
address_form rd here to = Auipc rd (upper_part (distance here to)) ∷ Imm Addi rd rd (lower_part (distance here to)) ∷ []

-- a number of 32 bits, with the sign that it has
abbrev pub word_form : ℕ → ℕ → List Insn
word_form rd n = Lui rd (upper_part n) ∷ Imm Addiw rd rd (lower_part n) ∷ []

-- a number of 64 bits: the upper 32, and then 11, 11 and 10 more
abbrev pub double_form : ℕ → ℕ → List Insn
double_form rd n =
    Lui rd (upper_part (n / 2 ^ 32)) ∷ Imm Addiw rd rd (lower_part (n / 2 ^ 32))
    ∷ Shift Slli rd rd 11 ∷ Imm Addi rd rd (pos (n / 2 ^ 21 % 2 ^ 11))
    ∷ Shift Slli rd rd 11 ∷ Imm Addi rd rd (pos (n / 2 ^ 10 % 2 ^ 11))
    ∷ Shift Slli rd rd 10 ∷ Imm Addi rd rd (pos (n % 2 ^ 10)) ∷ []

-- a constant
abbrev pub constant_form : ℕ → ℤ → List Insn
constant_form rd value =
    if has_bits 12 value then Imm Addi rd 0 value ∷ []
    else (if has_bits 32 value then word_form rd (cast_unsigned w64 value % 2 ^ 32) else double_form rd (cast_unsigned w64 value))

-- the instructions of an item
abbrev pub form_of : Bool → ℕ → ℕ → Item → List Insn
form_of near here to (Mark label) = []
form_of near here to (Plain insn) = insn ∷ []
form_of near here to (BranchTo op rs1 rs2 label) = if near then near_branch op rs1 rs2 here to ∷ [] else far_branch op rs1 rs2 here to
form_of near here to (JumpTo label) = if near then near_jump 0 here to ∷ [] else far_jump 0 here to
form_of near here to (FarTo label) = far_jump 0 here to
form_of near here to (CallTo rd label) = if near then near_jump rd here to ∷ [] else far_jump rd here to
form_of near here to (AddressOf rd label) = address_form rd here to
form_of near here to (Constant rd value) = constant_form rd value

-- how many they are
abbrev pub size_of : Bool → Item → ℕ
size_of near (Mark label) = 0
size_of near (Plain insn) = 1
size_of near (BranchTo op rs1 rs2 label) = if near then 1 else 3
size_of near (JumpTo label) = if near then 1 else 2
size_of near (FarTo label) = 2
size_of near (CallTo rd label) = if near then 1 else 2
size_of near (AddressOf rd label) = 2
size_of near (Constant rd value) = constant_words value

-- whether a word is less than so many behind another, or at most so many before it
abbrev pub is_within : ℕ → ℕ → ℕ → Bool
is_within reach here to = if nat_lt to here then nat_le (here - to) reach else nat_lt (to - here) reach

-- whether an item can be near: a branch reaches 4096 bytes, a jump 2 ^ 20
abbrev pub reaches : Item → ℕ → ℕ → Bool
reaches (BranchTo op rs1 rs2 label) here to = is_within 1024 here to
reaches (JumpTo label) here to = is_within 262144 here to
reaches (CallTo rd label) here to = is_within 262144 here to
reaches _ here to = false

-- whether an item can have its form
abbrev pub is_reached : Bool → Item → ℕ → ℕ → Bool
is_reached near item here to = not near || reaches item here to
