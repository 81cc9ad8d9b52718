-- The text of an instruction: its mnemonic in small letters and its operands, registers as x0 to x31, numbers in signed decimal.
-- RISC-V Unprivileged ISA, "RV32/64G Instruction Set Listings", for the mnemonics.
use Rattle.std.specs.Prelude.{ℕ, List, ◌++◌, ℤ, codes, decimal}
use Rattle.std.specs.Fmt.{signed_decimal}
use Rattle.rv_insn.specs.declared.instructions.RegOp.{RegOp}
use Rattle.rv_insn.specs.declared.instructions.RegOp.TheVariants.{Add, Sub, Sll, Slt, Sltu, Xor, Srl, Sra, Or, And, Addw, Subw, Sllw, Srlw, Sraw, Mul, Mulh, Mulhsu, Mulhu, Div, Divu, Rem, Remu, Mulw, Divw, Divuw, Remw, Remuw}
use Rattle.rv_insn.specs.declared.instructions.ShiftOp.{ShiftOp}
use Rattle.rv_insn.specs.declared.instructions.ShiftOp.TheVariants.{Slli, Srli, Srai, Slliw, Srliw, Sraiw}
use Rattle.rv_insn.specs.declared.instructions.ImmOp.{ImmOp}
use Rattle.rv_insn.specs.declared.instructions.ImmOp.TheVariants.{Addi, Slti, Sltiu, Xori, Ori, Andi, Addiw}
use Rattle.rv_insn.specs.declared.instructions.LoadOp.{LoadOp}
use Rattle.rv_insn.specs.declared.instructions.LoadOp.TheVariants.{Lb, Lh, Lw, Ld, Lbu, Lhu, Lwu}
use Rattle.rv_insn.specs.declared.instructions.StoreOp.{StoreOp}
use Rattle.rv_insn.specs.declared.instructions.StoreOp.TheVariants.{Sb, Sh, Sw, Sd}
use Rattle.rv_insn.specs.declared.instructions.BranchOp.{BranchOp}
use Rattle.rv_insn.specs.declared.instructions.BranchOp.TheVariants.{Beq, Bne, Blt, Bge, Bltu, Bgeu}
use Rattle.rv_insn.specs.declared.instructions.Insn.{Insn}
use Rattle.rv_insn.specs.declared.instructions.Insn.TheVariants.{Reg, Imm, Shift, Load, Store, Branch, Lui, Auipc, Jal, Jalr, Fence, Ecall}

abbrev pub reg_mnemonic : RegOp → List ℕ
reg_mnemonic Add = codes "add"
reg_mnemonic Sub = codes "sub"
reg_mnemonic Sll = codes "sll"
reg_mnemonic Slt = codes "slt"
reg_mnemonic Sltu = codes "sltu"
reg_mnemonic Xor = codes "xor"
reg_mnemonic Srl = codes "srl"
reg_mnemonic Sra = codes "sra"
reg_mnemonic Or = codes "or"
reg_mnemonic And = codes "and"
reg_mnemonic Addw = codes "addw"
reg_mnemonic Subw = codes "subw"
reg_mnemonic Sllw = codes "sllw"
reg_mnemonic Srlw = codes "srlw"
reg_mnemonic Sraw = codes "sraw"
reg_mnemonic Mul = codes "mul"
reg_mnemonic Mulh = codes "mulh"
reg_mnemonic Mulhsu = codes "mulhsu"
reg_mnemonic Mulhu = codes "mulhu"
reg_mnemonic Div = codes "div"
reg_mnemonic Divu = codes "divu"
reg_mnemonic Rem = codes "rem"
reg_mnemonic Remu = codes "remu"
reg_mnemonic Mulw = codes "mulw"
reg_mnemonic Divw = codes "divw"
reg_mnemonic Divuw = codes "divuw"
reg_mnemonic Remw = codes "remw"
reg_mnemonic Remuw = codes "remuw"

abbrev pub shift_mnemonic : ShiftOp → List ℕ
shift_mnemonic Slli = codes "slli"
shift_mnemonic Srli = codes "srli"
shift_mnemonic Srai = codes "srai"
shift_mnemonic Slliw = codes "slliw"
shift_mnemonic Srliw = codes "srliw"
shift_mnemonic Sraiw = codes "sraiw"

abbrev pub imm_mnemonic : ImmOp → List ℕ
imm_mnemonic Addi = codes "addi"
imm_mnemonic Slti = codes "slti"
imm_mnemonic Sltiu = codes "sltiu"
imm_mnemonic Xori = codes "xori"
imm_mnemonic Ori = codes "ori"
imm_mnemonic Andi = codes "andi"
imm_mnemonic Addiw = codes "addiw"

abbrev pub load_mnemonic : LoadOp → List ℕ
load_mnemonic Lb = codes "lb"
load_mnemonic Lh = codes "lh"
load_mnemonic Lw = codes "lw"
load_mnemonic Ld = codes "ld"
load_mnemonic Lbu = codes "lbu"
load_mnemonic Lhu = codes "lhu"
load_mnemonic Lwu = codes "lwu"

abbrev pub store_mnemonic : StoreOp → List ℕ
store_mnemonic Sb = codes "sb"
store_mnemonic Sh = codes "sh"
store_mnemonic Sw = codes "sw"
store_mnemonic Sd = codes "sd"

abbrev pub branch_mnemonic : BranchOp → List ℕ
branch_mnemonic Beq = codes "beq"
branch_mnemonic Bne = codes "bne"
branch_mnemonic Blt = codes "blt"
branch_mnemonic Bge = codes "bge"
branch_mnemonic Bltu = codes "bltu"
branch_mnemonic Bgeu = codes "bgeu"

-- a mnemonic and a first register: `addi x10`
abbrev pub with_register : List ℕ → ℕ → List ℕ → List ℕ
with_register mnemonic register rest = mnemonic ++ (codes " x" ++ (decimal register ++ rest))

-- a further register: `, x10`
abbrev pub then_register : ℕ → List ℕ → List ℕ
then_register register rest = codes ", x" ++ (decimal register ++ rest)

-- a last number: `, -4`
abbrev pub then_number : ℤ → List ℕ
then_number number = codes ", " ++ signed_decimal number

-- a last address, by an offset and a base register: `, 8(x2)`
abbrev pub then_address : ℤ → ℕ → List ℕ
then_address offset base = codes ", " ++ (signed_decimal offset ++ (codes "(x" ++ (decimal base ++ codes ")")))

-- the print of an instruction
abbrev pub insn_print : Insn → List ℕ
insn_print (Lui rd high) = with_register (codes "lui") rd (codes ", " ++ decimal high)
insn_print (Auipc rd high) = with_register (codes "auipc") rd (codes ", " ++ decimal high)
insn_print (Jal rd offset) = with_register (codes "jal") rd (then_number offset)
insn_print (Jalr rd base imm) = with_register (codes "jalr") rd (then_address imm base)
insn_print (Branch op rs1 rs2 offset) = with_register (branch_mnemonic op) rs1 (then_register rs2 (then_number offset))
insn_print (Load op rd base imm) = with_register (load_mnemonic op) rd (then_address imm base)
insn_print (Store op rs2 base imm) = with_register (store_mnemonic op) rs2 (then_address imm base)
insn_print (Imm op rd rs1 imm) = with_register (imm_mnemonic op) rd (then_register rs1 (then_number imm))
insn_print (Shift op rd rs1 amount) = with_register (shift_mnemonic op) rd (then_register rs1 (codes ", " ++ decimal amount))
insn_print (Reg op rd rs1 rs2) = with_register (reg_mnemonic op) rd (then_register rs1 (codes ", x" ++ decimal rs2))
insn_print (Fence rd rs1 imm) = codes "fence"
insn_print Ecall = codes "ecall"
