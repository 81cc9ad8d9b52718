-- Each word is at most one instruction's.
use Rattle.std.proofs.Common.{◌≡◌, ℕ, ◌+◌, refl, sym, ap, ◌∙◌}
use Rattle.rv_insn.specs.declared.instructions.Insn.{Insn}
use Rattle.rv_insn.specs.declared.instructions.Insn.TheVariants.{Reg, Imm, Shift, Load, Store, Branch, Lui, Auipc, Jal, Jalr, Fence, Ecall}
use Rattle.rv_insn.specs.declared.instructions.ShiftOp.{ShiftOp}
use Rattle.rv_insn.specs.Fields.{bits}
use Rattle.rv_insn.specs.Encoding.{IsWordOf, amount_bits, shift_code, shift_code_of}
use Rattle.rv_insn.proofs.FixedFields.{reg_code_injective, shift_code_injective, imm_code_injective, load_code_injective, store_code_injective, branch_code_injective, bits_by_opcode, amount_bits_is}
use Rattle.rv_insn.proofs.FormOfWord.{form, form_is}

-- two shifts of a word have amounts of as many bits
same_bits : (a b : ShiftOp) (w : ℕ) → shift_code_of (amount_bits a) w ≡ shift_code a → shift_code_of (amount_bits b) w ≡ shift_code b → amount_bits a ≡ amount_bits b
same_bits a b w e f =
    amount_bits_is a ∙ ap (λ c. bits_by_opcode c.opcode) (sym e) ∙ ap (λ c. bits_by_opcode c.opcode) f ∙ sym (amount_bits_is b)

same_shift : (a b : ShiftOp) (w : ℕ) → amount_bits a ≡ amount_bits b → shift_code_of (amount_bits a) w ≡ shift_code a → shift_code_of (amount_bits b) w ≡ shift_code b → a ≡ b
same_shift a b w n e f = shift_code_injective a b (sym e ∙ ap (λ k. shift_code_of k w) n ∙ f)

pub unique : (i j : Insn) (w : ℕ) → IsWordOf i w → IsWordOf j w → i ≡ j
unique (Lui rd high) (Lui rd' high') w h k = cc
unique (Auipc rd high) (Auipc rd' high') w h k = cc
unique (Jal rd offset) (Jal rd' offset') w h k = cc
unique (Jalr rd base imm) (Jalr rd' base' imm') w h k = cc
unique (Branch op rs1 rs2 offset) (Branch op' rs1' rs2' offset') w h k =
    let same : op ≡ op' = branch_code_injective op op' (sym h.fields.0 ∙ k.fields.0) in cc
unique (Load op rd base imm) (Load op' rd' base' imm') w h k =
    let same : op ≡ op' = load_code_injective op op' (sym h.fields.0 ∙ k.fields.0) in cc
unique (Store op rs2 base imm) (Store op' rs2' base' imm') w h k =
    let same : op ≡ op' = store_code_injective op op' (sym h.fields.0 ∙ k.fields.0) in cc
unique (Imm op rd rs1 imm) (Imm op' rd' rs1' imm') w h k =
    let same : op ≡ op' = imm_code_injective op op' (sym h.fields.0 ∙ k.fields.0) in cc
unique (Shift op rd rs1 amount) (Shift op' rd' rs1' amount') w h k =
    let count : amount_bits op ≡ amount_bits op' = same_bits op op' w h.fields.0 k.fields.0 in
    let same : op ≡ op' = same_shift op op' w count h.fields.0 k.fields.0 in
    let amounts : bits w (19 + amount_bits op) 20 ≡ bits w (19 + amount_bits op') 20 = ap (λ n. bits w (19 + n) 20) count in
    cc
unique (Reg op rd rs1 rs2) (Reg op' rd' rs1' rs2') w h k =
    let same : op ≡ op' = reg_code_injective op op' (sym h.fields.0 ∙ k.fields.0) in cc
unique (Fence rd rs1 imm) (Fence rd' rs1' imm') w h k = cc
unique Ecall Ecall w h k = refl
unique i j w h k =
    let e : form i ≡ form j = sym (form_is i w h) ∙ form_is j w k in
    absurd (cc)
