-- Instructions by the mnemonics of the RISC-V manual, their operands in its order.
-- RISC-V Unprivileged ISA, chapters "RV32I" and "RV64I Base Integer Instruction Set", and "RISC-V Assembly Programmer's Handbook" (`li`).
use Rattle.std.specs.Prelude.{ℕ, ◌-◌, ℤ, pos, negsuc}
use Rattle.rv_insn.specs.declared.instructions.Insn.{Insn}
use Rattle.rv_insn.specs.declared.instructions.Insn.TheVariants as insn
use Rattle.rv_insn.specs.declared.instructions.RegOp.TheVariants.{Add, Sub}
use Rattle.rv_insn.specs.declared.instructions.ImmOp.TheVariants.{Addi}
use Rattle.rv_insn.specs.declared.instructions.ShiftOp.TheVariants.{Slli}
use Rattle.rv_insn.specs.declared.instructions.LoadOp.TheVariants.{Lbu, Ld}
use Rattle.rv_insn.specs.declared.instructions.StoreOp.TheVariants.{Sb, Sd}
use Rattle.rv_insn.specs.declared.instructions.BranchOp.TheVariants.{Beq, Bne, Blt, Bltu}

-- a number below 0
abbrev pub minus : ℕ → ℤ
minus n = negsuc (n - 1)

-- rd, imm(base)
abbrev pub ld : ℕ → ℤ → ℕ → Insn
ld rd imm base = insn.Load Ld rd base imm

abbrev pub lbu : ℕ → ℤ → ℕ → Insn
lbu rd imm base = insn.Load Lbu rd base imm

-- rs2, imm(base)
abbrev pub sd : ℕ → ℤ → ℕ → Insn
sd rs2 imm base = insn.Store Sd rs2 base imm

abbrev pub sb : ℕ → ℤ → ℕ → Insn
sb rs2 imm base = insn.Store Sb rs2 base imm

-- rd, rs1, rs2
abbrev pub add : ℕ → ℕ → ℕ → Insn
add rd rs1 rs2 = insn.Reg Add rd rs1 rs2

abbrev pub sub : ℕ → ℕ → ℕ → Insn
sub rd rs1 rs2 = insn.Reg Sub rd rs1 rs2

-- rd, rs1, imm
abbrev pub addi : ℕ → ℕ → ℤ → Insn
addi rd rs1 imm = insn.Imm Addi rd rs1 imm

-- rd, imm: `addi rd, x0, imm`
abbrev pub li : ℕ → ℤ → Insn
li rd imm = addi rd 0 imm

-- rd, rs1, amount
abbrev pub slli : ℕ → ℕ → ℕ → Insn
slli rd rs1 amount = insn.Shift Slli rd rs1 amount

-- rd, the upper 20 bits
abbrev pub lui : ℕ → ℕ → Insn
lui rd high = insn.Lui rd high

-- rs1, rs2, offset in bytes
abbrev pub beq : ℕ → ℕ → ℤ → Insn
beq rs1 rs2 offset = insn.Branch Beq rs1 rs2 offset

abbrev pub bne : ℕ → ℕ → ℤ → Insn
bne rs1 rs2 offset = insn.Branch Bne rs1 rs2 offset

abbrev pub blt : ℕ → ℕ → ℤ → Insn
blt rs1 rs2 offset = insn.Branch Blt rs1 rs2 offset

abbrev pub bltu : ℕ → ℕ → ℤ → Insn
bltu rs1 rs2 offset = insn.Branch Bltu rs1 rs2 offset

-- rd, offset in bytes
abbrev pub jal : ℕ → ℤ → Insn
jal rd offset = insn.Jal rd offset

-- rd, imm(base)
abbrev pub jalr : ℕ → ℤ → ℕ → Insn
jalr rd imm base = insn.Jalr rd base imm

abbrev pub ecall : Insn
ecall = insn.Ecall
