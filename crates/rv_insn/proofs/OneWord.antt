-- An instruction has at most one word.
use Rattle.std.proofs.Common.{◌≡◌, ℕ, ◌+◌, ◌*◌, ◌/◌, ◌%◌, ◌^◌, ◌<◌, refl, sym, ap, ◌∙◌, arith}
use Rattle.rv_insn.specs.declared.instructions.Insn.{Insn}
use Rattle.rv_insn.specs.declared.instructions.Insn.TheVariants.{Reg, Imm, Shift, Load, Store, Branch, Lui, Auipc, Jal, Jalr, Fence, Ecall}
use Rattle.rv_insn.specs.declared.instructions.ShiftOp.{ShiftOp}
use Rattle.rv_insn.specs.declared.instructions.ShiftOp.TheVariants.{Slli, Srli, Srai}
use Rattle.rv_insn.specs.Fields.{bits, opcode_of, rd_of, funct3_of, rs1_of, rs2_of, funct7_of, i_immediate, s_immediate, b_immediate, j_immediate}
use Rattle.rv_insn.specs.Encoding.{IsWordOf, short_code_of, code_of, amount_bits, shift_code_of}
use Rattle.rv_insn.proofs.WordFields.{same_12, same_13, same_21}

-- two words of format I
same_i : (v w : ℕ) → v < 2 ^ 32 → w < 2 ^ 32 → short_code_of v ≡ short_code_of w → rd_of v ≡ rd_of w → rs1_of v ≡ rs1_of w → i_immediate v ≡ i_immediate w → v ≡ w
same_i v w a b c d s m =
    let funct3 : funct3_of v ≡ funct3_of w = ap (λ x. x.funct3) c in
    let opcode : opcode_of v ≡ opcode_of w = ap (λ x. x.opcode) c in
    let high : bits v 31 20 ≡ bits w 31 20 = same_12 (bits v 31 20) (bits w 31 20) (omega arith) (omega arith) m in
    omega arith

same_s : (v w : ℕ) → v < 2 ^ 32 → w < 2 ^ 32 → short_code_of v ≡ short_code_of w → rs2_of v ≡ rs2_of w → rs1_of v ≡ rs1_of w → s_immediate v ≡ s_immediate w → v ≡ w
same_s v w a b c d s m =
    let funct3 : funct3_of v ≡ funct3_of w = ap (λ x. x.funct3) c in
    let opcode : opcode_of v ≡ opcode_of w = ap (λ x. x.opcode) c in
    let parts : bits v 31 25 * 2 ^ 5 + bits v 11 7 ≡ bits w 31 25 * 2 ^ 5 + bits w 11 7 =
    same_12 (bits v 31 25 * 2 ^ 5 + bits v 11 7) (bits w 31 25 * 2 ^ 5 + bits w 11 7) (omega arith) (omega arith) m in
    omega arith

abbrev raw_b : ℕ → ℕ
raw_b w = bits w 31 31 * 2 ^ 12 + bits w 7 7 * 2 ^ 11 + bits w 30 25 * 2 ^ 5 + bits w 11 8 * 2

-- the parts of a branch's offset are bits, and told by their sum
b_parts : (w : ℕ) → (bits w 7 7 < 2) × (bits w 30 25 < 64) × (bits w 11 8 < 16)
b_parts w = (omega arith, omega arith, omega arith)

same_b_parts : (a b c d a' b' c' d' : ℕ) → b < 2 → c < 64 → d < 16 → b' < 2 → c' < 64 → d' < 16
    → a * 2 ^ 12 + b * 2 ^ 11 + c * 2 ^ 5 + d * 2 ≡ a' * 2 ^ 12 + b' * 2 ^ 11 + c' * 2 ^ 5 + d' * 2
    → (a ≡ a') × (b ≡ b') × (c ≡ c') × (d ≡ d')
same_b_parts a b c d a' b' c' d' h k l h' k' l' e = (omega arith, omega arith, omega arith, omega arith)

low_bit : (w : ℕ) → bits w 7 7 ≡ w / 2 ^ 7 % 2
low_bit w = refl

same_b : (v w : ℕ) → v < 2 ^ 32 → w < 2 ^ 32 → short_code_of v ≡ short_code_of w → rs1_of v ≡ rs1_of w → rs2_of v ≡ rs2_of w → b_immediate v ≡ b_immediate w → v ≡ w
same_b v w a b c d s m =
    let funct3 : funct3_of v ≡ funct3_of w = ap (λ x. x.funct3) c in
    let opcode : opcode_of v ≡ opcode_of w = ap (λ x. x.opcode) c in
    let parts : raw_b v ≡ raw_b w = same_13 (raw_b v) (raw_b w) (omega arith) (omega arith) m in
    let p = b_parts v in
    let q = b_parts w in
    let same = same_b_parts _ _ _ _ _ _ _ _ p.0 p.1 p.2 q.0 q.1 q.2 parts in
    omega (arith, same.0, same.1, same.2, same.3, low_bit v, low_bit w)

abbrev raw_j : ℕ → ℕ
raw_j w = bits w 31 31 * 2 ^ 20 + bits w 19 12 * 2 ^ 12 + bits w 20 20 * 2 ^ 11 + bits w 30 21 * 2

same_j : (v w : ℕ) → v < 2 ^ 32 → w < 2 ^ 32 → opcode_of v ≡ opcode_of w → rd_of v ≡ rd_of w → j_immediate v ≡ j_immediate w → v ≡ w
same_j v w a b c d m =
    let parts : raw_j v ≡ raw_j w = same_21 (raw_j v) (raw_j w) (omega arith) (omega arith) m in
    omega arith

same_r : (v w : ℕ) → v < 2 ^ 32 → w < 2 ^ 32 → code_of v ≡ code_of w → rd_of v ≡ rd_of w → rs1_of v ≡ rs1_of w → rs2_of v ≡ rs2_of w → v ≡ w
same_r v w a b c d s t =
    let funct7 : funct7_of v ≡ funct7_of w = ap (λ x. x.top) c in
    let funct3 : funct3_of v ≡ funct3_of w = ap (λ x. x.funct3) c in
    let opcode : opcode_of v ≡ opcode_of w = ap (λ x. x.opcode) c in
    omega arith

-- two words of a shift whose amount has six bits, or five
same_full : (v w : ℕ) → v < 2 ^ 32 → w < 2 ^ 32 → shift_code_of 6 v ≡ shift_code_of 6 w → rd_of v ≡ rd_of w → rs1_of v ≡ rs1_of w → bits v 25 20 ≡ bits w 25 20 → v ≡ w
same_full v w a b c d s t =
    let top : bits v 31 26 ≡ bits w 31 26 = ap (λ x. x.top) c in
    let funct3 : funct3_of v ≡ funct3_of w = ap (λ x. x.funct3) c in
    let opcode : opcode_of v ≡ opcode_of w = ap (λ x. x.opcode) c in
    omega arith

same_short : (v w : ℕ) → v < 2 ^ 32 → w < 2 ^ 32 → shift_code_of 5 v ≡ shift_code_of 5 w → rd_of v ≡ rd_of w → rs1_of v ≡ rs1_of w → bits v 24 20 ≡ bits w 24 20 → v ≡ w
same_short v w a b c d s t =
    let top : bits v 31 25 ≡ bits w 31 25 = ap (λ x. x.top) c in
    let funct3 : funct3_of v ≡ funct3_of w = ap (λ x. x.funct3) c in
    let opcode : opcode_of v ≡ opcode_of w = ap (λ x. x.opcode) c in
    omega arith

same_shift : (op : ShiftOp) (v w : ℕ) → v < 2 ^ 32 → w < 2 ^ 32 → shift_code_of (amount_bits op) v ≡ shift_code_of (amount_bits op) w → rd_of v ≡ rd_of w → rs1_of v ≡ rs1_of w
    → bits v (19 + amount_bits op) 20 ≡ bits w (19 + amount_bits op) 20 → v ≡ w
same_shift Slli v w a b c d s t = same_full v w a b c d s t
same_shift Srli v w a b c d s t = same_full v w a b c d s t
same_shift Srai v w a b c d s t = same_full v w a b c d s t
same_shift op v w a b c d s t = same_short v w a b c d s t

pub one_word : (i : Insn) (v w : ℕ) → IsWordOf i v → IsWordOf i w → v ≡ w
one_word (Lui rd high) v w h k = omega arith
one_word (Auipc rd high) v w h k = omega arith
one_word (Jal rd offset) v w h k = same_j v w h.fits k.fits (cc) (cc) (cc)
one_word (Jalr rd base imm) v w h k = same_i v w h.fits k.fits (cc) (cc) (cc) (cc)
one_word (Branch op rs1 rs2 offset) v w h k = same_b v w h.fits k.fits (cc) (cc) (cc) (cc)
one_word (Load op rd base imm) v w h k = same_i v w h.fits k.fits (cc) (cc) (cc) (cc)
one_word (Store op rs2 base imm) v w h k = same_s v w h.fits k.fits (cc) (cc) (cc) (cc)
one_word (Imm op rd rs1 imm) v w h k = same_i v w h.fits k.fits (cc) (cc) (cc) (cc)
one_word (Shift op rd rs1 amount) v w h k = same_shift op v w h.fits k.fits (cc) (cc) (cc) (cc)
one_word (Reg op rd rs1 rs2) v w h k = same_r v w h.fits k.fits (cc) (cc) (cc) (cc)
one_word (Fence rd rs1 imm) v w h k = same_i v w h.fits k.fits (cc) (cc) (cc) (cc)
one_word Ecall v w h k = h.fields ∙ sym k.fields
