-- A word and its fields: a word of 32 bits is told by them, and each choice of fields has one.
use Rattle.std.proofs.Common.{◌≡◌, ℕ, suc, ◌+◌, ◌-◌, ◌*◌, ◌%◌, ◌^◌, ◌<◌, ℤ, pos, negsuc, arith}
use Rattle.rv_insn.specs.Fields.{twos_complement, opcode_of, rd_of, funct3_of, rs1_of, rs2_of, funct7_of}
use Rattle.rv_insn.specs.Encoding.{IsWithin, IsEven}

-- the word with these fields
abbrev pub word_of : ℕ → ℕ → ℕ → ℕ → ℕ → ℕ → ℕ
word_of funct7 rs2 rs1 funct3 rd opcode = funct7 * 2 ^ 25 + rs2 * 2 ^ 20 + rs1 * 2 ^ 15 + funct3 * 2 ^ 12 + rd * 2 ^ 7 + opcode

pub word_is : (w : ℕ) → w < 2 ^ 32 → w ≡ word_of (funct7_of w) (rs2_of w) (rs1_of w) (funct3_of w) (rd_of w) (opcode_of w)
word_is w h = omega arith

-- the fields of such a word
pub record HasThese (funct7 rs2 rs1 funct3 rd opcode w : ℕ) : Type 0 where
  pub fits : w < 2 ^ 32
  pub funct7_is : funct7_of w ≡ funct7
  pub rs2_is : rs2_of w ≡ rs2
  pub rs1_is : rs1_of w ≡ rs1
  pub funct3_is : funct3_of w ≡ funct3
  pub rd_is : rd_of w ≡ rd
  pub opcode_is : opcode_of w ≡ opcode

pub has_these : (funct7 rs2 rs1 funct3 rd opcode : ℕ) → funct7 < 2 ^ 7 → rs2 < 2 ^ 5 → rs1 < 2 ^ 5 → funct3 < 2 ^ 3 → rd < 2 ^ 5 → opcode < 2 ^ 7
    → HasThese funct7 rs2 rs1 funct3 rd opcode (word_of funct7 rs2 rs1 funct3 rd opcode)
has_these funct7 rs2 rs1 funct3 rd opcode a b c d e f = record {
  fits = omega arith;
  funct7_is = omega arith;
  rs2_is = omega arith;
  rs1_is = omega arith;
  funct3_is = omega arith;
  rd_is = omega arith;
  opcode_is = omega arith;
}

-- the low bits of a number with a sign
abbrev pub low_bits : ℕ → ℤ → ℕ
low_bits count (pos n) = n
low_bits count (negsuc n) = 2 ^ count - suc n

pub low_12 : (z : ℤ) → IsWithin (2 ^ 11) z → (low_bits 12 z < 2 ^ 12) × (twos_complement 12 (low_bits 12 z) ≡ z)
low_12 (pos n) h = (omega arith, grind arith)
low_12 (negsuc n) h = (omega arith, grind arith)

pub low_13 : (z : ℤ) → IsWithin (2 ^ 12) z → IsEven z → (low_bits 13 z < 2 ^ 13) × (low_bits 13 z % 2 ≡ 0) × (twos_complement 13 (low_bits 13 z) ≡ z)
low_13 (pos n) h e = (omega arith, omega arith, grind arith)
low_13 (negsuc n) h e = (omega arith, omega arith, grind arith)

pub low_21 : (z : ℤ) → IsWithin (2 ^ 20) z → IsEven z → (low_bits 21 z < 2 ^ 21) × (low_bits 21 z % 2 ≡ 0) × (twos_complement 21 (low_bits 21 z) ≡ z)
low_21 (pos n) h e = (omega arith, omega arith, grind arith)
low_21 (negsuc n) h e = (omega arith, omega arith, grind arith)

-- a number of so many bits is told by what it is in two's complement
pub same_12 : (a b : ℕ) → a < 2 ^ 12 → b < 2 ^ 12 → twos_complement 12 a ≡ twos_complement 12 b → a ≡ b
same_12 a b h k e = grind arith

pub same_13 : (a b : ℕ) → a < 2 ^ 13 → b < 2 ^ 13 → twos_complement 13 a ≡ twos_complement 13 b → a ≡ b
same_13 a b h k e = grind arith

pub same_21 : (a b : ℕ) → a < 2 ^ 21 → b < 2 ^ 21 → twos_complement 21 a ≡ twos_complement 21 b → a ≡ b
same_21 a b h k e = grind arith
