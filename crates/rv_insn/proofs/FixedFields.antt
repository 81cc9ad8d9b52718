-- No two operations have the same fixed fields.
use Rattle.std.proofs.Common.{◌≡◌, ℕ, Bool, ◌&&◌, if◌then◌else◌, nat_eq, [], ◌∷◌, Option, Some, refl, ap}
use Rattle.std.specs.List.{find}
use Rattle.rv_insn.specs.declared.instructions.RegOp.{RegOp}
use Rattle.rv_insn.specs.declared.instructions.RegOp.TheVariants.{Add, Sub, Sll, Slt, Sltu, Xor, Srl, Sra, Or, And, Addw, Subw, Sllw, Srlw, Sraw, Mul, Mulh, Mulhsu, Mulhu, Div, Divu, Rem, Remu, Mulw, Divw, Divuw, Remw, Remuw}
use Rattle.rv_insn.specs.declared.instructions.ShiftOp.{ShiftOp}
use Rattle.rv_insn.specs.declared.instructions.ShiftOp.TheVariants.{Slli, Srli, Srai, Slliw, Srliw, Sraiw}
use Rattle.rv_insn.specs.declared.instructions.ImmOp.{ImmOp}
use Rattle.rv_insn.specs.declared.instructions.ImmOp.TheVariants.{Addi, Slti, Sltiu, Xori, Ori, Andi, Addiw}
use Rattle.rv_insn.specs.declared.instructions.LoadOp.{LoadOp}
use Rattle.rv_insn.specs.declared.instructions.LoadOp.TheVariants.{Lb, Lh, Lw, Ld, Lbu, Lhu, Lwu}
use Rattle.rv_insn.specs.declared.instructions.StoreOp.{StoreOp}
use Rattle.rv_insn.specs.declared.instructions.StoreOp.TheVariants.{Sb, Sh, Sw, Sd}
use Rattle.rv_insn.specs.declared.instructions.BranchOp.{BranchOp}
use Rattle.rv_insn.specs.declared.instructions.BranchOp.TheVariants.{Beq, Bne, Blt, Bge, Bltu, Bgeu}
use Rattle.rv_insn.specs.Encoding.{Code, ShortCode, reg_code, shift_code, amount_bits, imm_code, load_code, store_code, branch_code}

-- a function is injective where another finds its argument again
injective : {A B : Type 0} (f : A → B) (back : B → Option A) → ((a : A) → back (f a) ≡ Some a) → (a b : A) → f a ≡ f b → a ≡ b
injective f back found a b e =
    let one : back (f a) ≡ Some a = found a in
    let other : back (f b) ≡ Some b = found b in
    let same : back (f a) ≡ back (f b) = ap back e in
    cc

abbrev is_code : Code → Code → Bool
is_code a b = nat_eq a.top b.top && (nat_eq a.funct3 b.funct3 && nat_eq a.opcode b.opcode)

abbrev is_short_code : ShortCode → ShortCode → Bool
is_short_code a b = nat_eq a.funct3 b.funct3 && nat_eq a.opcode b.opcode

abbrev reg_of : Code → Option RegOp
reg_of c = find (λ op. is_code (reg_code op) c) (Add ∷ Sub ∷ Sll ∷ Slt ∷ Sltu ∷ Xor ∷ Srl ∷ Sra ∷ Or ∷ And ∷ Addw ∷ Subw ∷ Sllw ∷ Srlw ∷ Sraw ∷ Mul ∷ Mulh ∷ Mulhsu ∷ Mulhu ∷ Div ∷ Divu ∷ Rem ∷ Remu ∷ Mulw ∷ Divw ∷ Divuw ∷ Remw ∷ Remuw ∷ [])

reg_found : (op : RegOp) → reg_of (reg_code op) ≡ Some op
reg_found Add = refl
reg_found op = refl

pub reg_code_injective : (a b : RegOp) → reg_code a ≡ reg_code b → a ≡ b
reg_code_injective a b e = injective reg_code reg_of reg_found a b e

abbrev shift_of : Code → Option ShiftOp
shift_of c = find (λ op. is_code (shift_code op) c) (Slli ∷ Srli ∷ Srai ∷ Slliw ∷ Srliw ∷ Sraiw ∷ [])

shift_found : (op : ShiftOp) → shift_of (shift_code op) ≡ Some op
shift_found Slli = refl
shift_found op = refl

pub shift_code_injective : (a b : ShiftOp) → shift_code a ≡ shift_code b → a ≡ b
shift_code_injective a b e = injective shift_code shift_of shift_found a b e

abbrev imm_of : ShortCode → Option ImmOp
imm_of c = find (λ op. is_short_code (imm_code op) c) (Addi ∷ Slti ∷ Sltiu ∷ Xori ∷ Ori ∷ Andi ∷ Addiw ∷ [])

imm_found : (op : ImmOp) → imm_of (imm_code op) ≡ Some op
imm_found Addi = refl
imm_found op = refl

pub imm_code_injective : (a b : ImmOp) → imm_code a ≡ imm_code b → a ≡ b
imm_code_injective a b e = injective imm_code imm_of imm_found a b e

abbrev load_of : ShortCode → Option LoadOp
load_of c = find (λ op. is_short_code (load_code op) c) (Lb ∷ Lh ∷ Lw ∷ Ld ∷ Lbu ∷ Lhu ∷ Lwu ∷ [])

load_found : (op : LoadOp) → load_of (load_code op) ≡ Some op
load_found Lb = refl
load_found op = refl

pub load_code_injective : (a b : LoadOp) → load_code a ≡ load_code b → a ≡ b
load_code_injective a b e = injective load_code load_of load_found a b e

abbrev store_of : ShortCode → Option StoreOp
store_of c = find (λ op. is_short_code (store_code op) c) (Sb ∷ Sh ∷ Sw ∷ Sd ∷ [])

store_found : (op : StoreOp) → store_of (store_code op) ≡ Some op
store_found Sb = refl
store_found op = refl

pub store_code_injective : (a b : StoreOp) → store_code a ≡ store_code b → a ≡ b
store_code_injective a b e = injective store_code store_of store_found a b e

abbrev branch_of : ShortCode → Option BranchOp
branch_of c = find (λ op. is_short_code (branch_code op) c) (Beq ∷ Bne ∷ Blt ∷ Bge ∷ Bltu ∷ Bgeu ∷ [])

branch_found : (op : BranchOp) → branch_of (branch_code op) ≡ Some op
branch_found Beq = refl
branch_found op = refl

pub branch_code_injective : (a b : BranchOp) → branch_code a ≡ branch_code b → a ≡ b
branch_code_injective a b e = injective branch_code branch_of branch_found a b e

-- the bits of a shift's amount are told by its opcode
abbrev pub bits_by_opcode : ℕ → ℕ
bits_by_opcode opcode = if nat_eq opcode 0b0010011 then 6 else 5

pub amount_bits_is : (op : ShiftOp) → amount_bits op ≡ bits_by_opcode (shift_code op).opcode
amount_bits_is Slli = refl
amount_bits_is op = refl
