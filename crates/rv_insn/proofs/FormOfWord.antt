-- The form of an instruction, as its opcode and funct3 tell it.
use Rattle.std.proofs.Common.{◌≡◌, ℕ, ◌%◌, ◌||◌, if◌then◌else◌, nat_eq, refl, ap, ◌∙◌}
use Rattle.rv_insn.specs.declared.instructions.RegOp.{RegOp}
use Rattle.rv_insn.specs.declared.instructions.RegOp.TheVariants.{Add}
use Rattle.rv_insn.specs.declared.instructions.ShiftOp.{ShiftOp}
use Rattle.rv_insn.specs.declared.instructions.ShiftOp.TheVariants.{Slli}
use Rattle.rv_insn.specs.declared.instructions.ImmOp.{ImmOp}
use Rattle.rv_insn.specs.declared.instructions.ImmOp.TheVariants.{Addi}
use Rattle.rv_insn.specs.declared.instructions.LoadOp.{LoadOp}
use Rattle.rv_insn.specs.declared.instructions.LoadOp.TheVariants.{Lb}
use Rattle.rv_insn.specs.declared.instructions.StoreOp.{StoreOp}
use Rattle.rv_insn.specs.declared.instructions.StoreOp.TheVariants.{Sb}
use Rattle.rv_insn.specs.declared.instructions.BranchOp.{BranchOp}
use Rattle.rv_insn.specs.declared.instructions.BranchOp.TheVariants.{Beq}
use Rattle.rv_insn.specs.declared.instructions.Insn.{Insn}
use Rattle.rv_insn.specs.declared.instructions.Insn.TheVariants.{Reg, Imm, Shift, Load, Store, Branch, Lui, Auipc, Jal, Jalr, Fence, Ecall}
use Rattle.rv_insn.specs.Fields.{opcode_of, funct3_of}
use Rattle.rv_insn.specs.Encoding.{IsWordOf, reg_code, shift_code, imm_code, load_code, store_code, branch_code}

-- a number for each form
abbrev pub form : Insn → ℕ
form (Lui rd high) = 0
form (Auipc rd high) = 1
form (Jal rd offset) = 2
form (Jalr rd base imm) = 3
form (Branch op rs1 rs2 offset) = 4
form (Load op rd base imm) = 5
form (Store op rs2 base imm) = 6
form (Imm op rd rs1 imm) = 7
form (Shift op rd rs1 amount) = 8
form (Reg op rd rs1 rs2) = 9
form (Fence rd rs1 imm) = 10
form Ecall = 11

-- among the operations on immediates a shift is told by its funct3, 1 or 5
abbrev pub form_by : ℕ → ℕ → ℕ
form_by opcode funct3 =
    if nat_eq opcode 0b0110111 then 0 else (if nat_eq opcode 0b0010111 then 1 else (if nat_eq opcode 0b1101111 then 2
    else (if nat_eq opcode 0b1100111 then 3 else (if nat_eq opcode 0b1100011 then 4 else (if nat_eq opcode 0b0000011 then 5
    else (if nat_eq opcode 0b0100011 then 6 else (if nat_eq opcode 0b0010011 || nat_eq opcode 0b0011011 then (if nat_eq (funct3 % 4) 1 then 8 else 7)
    else (if nat_eq opcode 0b0110011 || nat_eq opcode 0b0111011 then 9 else (if nat_eq opcode 0b0001111 then 10 else 11)))))))))

reg_form : (op : RegOp) → form_by (reg_code op).opcode (reg_code op).funct3 ≡ 9
reg_form Add = refl
reg_form op = refl

shift_form : (op : ShiftOp) → form_by (shift_code op).opcode (shift_code op).funct3 ≡ 8
shift_form Slli = refl
shift_form op = refl

imm_form : (op : ImmOp) → form_by (imm_code op).opcode (imm_code op).funct3 ≡ 7
imm_form Addi = refl
imm_form op = refl

load_form : (op : LoadOp) → form_by (load_code op).opcode (load_code op).funct3 ≡ 5
load_form Lb = refl
load_form op = refl

store_form : (op : StoreOp) → form_by (store_code op).opcode (store_code op).funct3 ≡ 6
store_form Sb = refl
store_form op = refl

branch_form : (op : BranchOp) → form_by (branch_code op).opcode (branch_code op).funct3 ≡ 4
branch_form Beq = refl
branch_form op = refl

pub form_is : (i : Insn) (w : ℕ) → IsWordOf i w → form_by (opcode_of w) (funct3_of w) ≡ form i
form_is (Lui rd high) w h = ap (λ o. form_by o (funct3_of w)) h.fields.0
form_is (Auipc rd high) w h = ap (λ o. form_by o (funct3_of w)) h.fields.0
form_is (Jal rd offset) w h = ap (λ o. form_by o (funct3_of w)) h.fields.0
form_is (Jalr rd base imm) w h = ap (λ c. form_by c.opcode c.funct3) h.fields.0
form_is (Branch op rs1 rs2 offset) w h = ap (λ c. form_by c.opcode c.funct3) h.fields.0 ∙ branch_form op
form_is (Load op rd base imm) w h = ap (λ c. form_by c.opcode c.funct3) h.fields.0 ∙ load_form op
form_is (Store op rs2 base imm) w h = ap (λ c. form_by c.opcode c.funct3) h.fields.0 ∙ store_form op
form_is (Imm op rd rs1 imm) w h = ap (λ c. form_by c.opcode c.funct3) h.fields.0 ∙ imm_form op
form_is (Shift op rd rs1 amount) w h = ap (λ c. form_by c.opcode c.funct3) h.fields.0 ∙ shift_form op
form_is (Reg op rd rs1 rs2) w h = ap (λ c. form_by c.opcode c.funct3) h.fields.0 ∙ reg_form op
form_is (Fence rd rs1 imm) w h = ap (λ c. form_by c.opcode c.funct3) h.fields.0
form_is Ecall w h = ap (λ v. form_by (opcode_of v) (funct3_of v)) h.fields
