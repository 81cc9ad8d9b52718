-- The code of the process: the image's, in which each service calls its stub, and the stubs. No word of the image moves.
use Rattle.std.specs.Prelude.{◌≡◌, ℕ, ◌+◌, ◌*◌, pos, Bool, true, false, ◌||◌, nat_eq, List, [], ◌∷◌, ◌++◌, length, take, flat_map, slice_get, All, Some}
use Rattle.fy_image.specs.declared.image.Image.{Image}
use Rattle.rv_insn.specs.declared.instructions.Insn.{Insn}
use Rattle.rv_insn.specs.declared.instructions.Insn.TheVariants.{Reg, Imm, Shift, Load, Store, Branch, Lui, Auipc, Jal, Jalr, Fence, Ecall}
use Rattle.rv_insn.specs.Program.{code_start, stack_start}
use Rattle.rv_guard.specs.declared.pieces.Piece.{Piece}
use Rattle.rv_guard.specs.declared.pieces.Piece.TheVariants.{ServiceCall, FaultCall}
use Rattle.rv_guard.specs.Patterns.{instructions_of}
use Rattle.fy_linux.specs.Mnemonics.{lui, addi, li}
use Rattle.fy_linux.specs.Stubs.{call, service_word, fault_word, stubs}
use Rattle.fy_linux.specs.Notes.{notes_start}

-- ---- which registers the stubs need

abbrev pub is_for_stubs : ℕ → Bool
is_for_stubs r = nat_eq r 1 || (nat_eq r 14 || (nat_eq r 15 || nat_eq r 16))

-- whether an instruction names one of them. The other fields of a FENCE name nothing
abbrev pub names_one : Insn → Bool
names_one (Reg op rd rs1 rs2) = is_for_stubs rd || (is_for_stubs rs1 || is_for_stubs rs2)
names_one (Imm op rd rs1 imm) = is_for_stubs rd || is_for_stubs rs1
names_one (Shift op rd rs1 amount) = is_for_stubs rd || is_for_stubs rs1
names_one (Load op rd base imm) = is_for_stubs rd || is_for_stubs base
names_one (Store op rs2 base imm) = is_for_stubs rs2 || is_for_stubs base
names_one (Branch op rs1 rs2 offset) = is_for_stubs rs1 || is_for_stubs rs2
names_one (Lui rd high) = is_for_stubs rd
names_one (Auipc rd high) = is_for_stubs rd
names_one (Jal rd offset) = is_for_stubs rd
names_one (Jalr rd base imm) = is_for_stubs rd || is_for_stubs base
names_one (Fence rd rs1 imm) = false
names_one Ecall = false

-- no instruction of the code names one
abbrev pub AreFree : List Insn → Type 0
AreFree code = All (λ insn. names_one insn ≡ false) code

-- the first instruction that names one has this number
pub record NamesFirstAt (code : List Insn) (k : ℕ) : Type 0 where
  pub insn : Insn
  pub here : slice_get code k ≡ Some insn
  pub names : names_one insn ≡ true
  pub before : AreFree (take k code)

-- ---- the code

-- code is the instructions of these pieces
abbrev pub AreJoined : List Insn → List Piece → Type 0
AreJoined code pieces = code ≡ flat_map instructions_of pieces

-- where the stubs begin: behind the code of the image
abbrev pub stubs_start : Image → ℕ
stubs_start image = code_start + 4 * length image.code

-- where the stack of the image ends, and what the stubs own begins
abbrev pub stack_end : Image → ℕ
stack_end image = stack_start + 8 * image.stack_words

-- a piece where the stubs begin at an address: the last two words of a service call its stub
abbrev pub linux_piece : ℕ → Piece → List Insn
linux_piece start (ServiceCall number) = call (start + 4 * service_word number)
linux_piece start (FaultCall kind high low) = li 10 (pos kind) ∷ lui 11 high ∷ addi 11 11 low ∷ call (start + 4 * fault_word)
linux_piece start piece = instructions_of piece

-- all of it, where the image was cut into these pieces
unfoldable pub linux_code : Image → List Piece → List Insn
linux_code image pieces = flat_map (linux_piece (stubs_start image)) pieces ++ stubs (stack_end image) (notes_start image)
