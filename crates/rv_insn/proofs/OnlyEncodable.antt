-- What has a word is encodable.
use Rattle.std.proofs.Common.{◌≡◌, ℕ, ◌+◌, ◌*◌, ◌%◌, ◌^◌, ◌<◌, ℤ, subst, arith}
use Rattle.rv_insn.specs.declared.instructions.Insn.{Insn}
use Rattle.rv_insn.specs.declared.instructions.Insn.TheVariants.{Reg, Imm, Shift, Load, Store, Branch, Lui, Auipc, Jal, Jalr, Fence, Ecall}
use Rattle.rv_insn.specs.declared.instructions.ShiftOp.{ShiftOp}
use Rattle.rv_insn.specs.declared.instructions.ShiftOp.TheVariants.{Slli}
use Rattle.rv_insn.specs.Fields.{bits, twos_complement}
use Rattle.rv_insn.specs.Encoding.{IsWordOf, IsEncodable, IsWithin, IsEven, amount_bits}

within_12 : (raw : ℕ) (z : ℤ) → raw < 2 ^ 12 → twos_complement 12 raw ≡ z → IsWithin (2 ^ 11) z
within_12 raw z h e = let P : ℤ → Type 0 = λ x. IsWithin (2 ^ 11) x in subst P e (grind arith)

within_13 : (raw : ℕ) (z : ℤ) → raw < 2 ^ 13 → twos_complement 13 raw ≡ z → IsWithin (2 ^ 12) z
within_13 raw z h e = let P : ℤ → Type 0 = λ x. IsWithin (2 ^ 12) x in subst P e (grind arith)

within_21 : (raw : ℕ) (z : ℤ) → raw < 2 ^ 21 → twos_complement 21 raw ≡ z → IsWithin (2 ^ 20) z
within_21 raw z h e = let P : ℤ → Type 0 = λ x. IsWithin (2 ^ 20) x in subst P e (grind arith)

even_13 : (raw : ℕ) (z : ℤ) → raw < 2 ^ 13 → raw % 2 ≡ 0 → twos_complement 13 raw ≡ z → IsEven z
even_13 raw z h t e = let P : ℤ → Type 0 = λ x. IsEven x in subst P e (grind arith)

even_21 : (raw : ℕ) (z : ℤ) → raw < 2 ^ 21 → raw % 2 ≡ 0 → twos_complement 21 raw ≡ z → IsEven z
even_21 raw z h t e = let P : ℤ → Type 0 = λ x. IsEven x in subst P e (grind arith)

amount_fits : (op : ShiftOp) (w amount : ℕ) → bits w (19 + amount_bits op) 20 ≡ amount → amount < 2 ^ amount_bits op
amount_fits Slli w amount e = omega arith
amount_fits op w amount e = omega arith

pub only_encodable : (i : Insn) (w : ℕ) → IsWordOf i w → IsEncodable i
only_encodable (Lui rd high) w h = (omega arith, omega arith)
only_encodable (Auipc rd high) w h = (omega arith, omega arith)
only_encodable (Jal rd offset) w h =
    let raw : ℕ = bits w 31 31 * 2 ^ 20 + bits w 19 12 * 2 ^ 12 + bits w 20 20 * 2 ^ 11 + bits w 30 21 * 2 in
    (omega arith, within_21 raw offset (omega arith) h.fields.2, even_21 raw offset (omega arith) (omega arith) h.fields.2)
only_encodable (Jalr rd base imm) w h = (omega arith, omega arith, within_12 (bits w 31 20) imm (omega arith) h.fields.3)
only_encodable (Branch op rs1 rs2 offset) w h =
    let raw : ℕ = bits w 31 31 * 2 ^ 12 + bits w 7 7 * 2 ^ 11 + bits w 30 25 * 2 ^ 5 + bits w 11 8 * 2 in
    (omega arith, omega arith, within_13 raw offset (omega arith) h.fields.3, even_13 raw offset (omega arith) (omega arith) h.fields.3)
only_encodable (Load op rd base imm) w h = (omega arith, omega arith, within_12 (bits w 31 20) imm (omega arith) h.fields.3)
only_encodable (Store op rs2 base imm) w h = (omega arith, omega arith, within_12 (bits w 31 25 * 2 ^ 5 + bits w 11 7) imm (omega arith) h.fields.3)
only_encodable (Imm op rd rs1 imm) w h = (omega arith, omega arith, within_12 (bits w 31 20) imm (omega arith) h.fields.3)
only_encodable (Shift op rd rs1 amount) w h = (omega arith, omega arith, amount_fits op w amount h.fields.3)
only_encodable (Reg op rd rs1 rs2) w h = (omega arith, omega arith, omega arith)
only_encodable (Fence rd rs1 imm) w h = (omega arith, omega arith, within_12 (bits w 31 20) imm (omega arith) h.fields.3)
only_encodable Ecall w h = tt
