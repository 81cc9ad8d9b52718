-- What the operations on registers compute where selected code uses them.
use Rattle.std.proofs.Common.{◌≡◌, ◌≢◌, ℕ, ◌+◌, ◌*◌, ◌^◌, ◌<◌, ◌≤◌, true, false, negsuc, arith}
use Rattle.std.proofs.lemmas.Bool.{eqb-true, eqb-false, ltb-true, ltb-false, not-true, not-false}
use Rattle.std.specs.Int.{cast_unsigned, w64}
use Rattle.rv_insn.specs.Operations.{reg_value, imm_value, shift_value, is_taken}
use Rattle.rv_insn.specs.declared.instructions.RegOp.TheVariants.{Add}
use Rattle.rv_insn.specs.declared.instructions.ImmOp.TheVariants.{Addi}
use Rattle.rv_insn.specs.declared.instructions.ShiftOp.TheVariants.{Slli}
use Rattle.rv_insn.specs.declared.instructions.BranchOp.TheVariants.{Beq, Bne, Bgeu}
use Rattle.rv_word.specs.Word.{word_address}

-- ---- moves and sums

pub moves : (a v : ℕ) → a ≡ v → v < 2 ^ 64 → imm_value Addi a 0 ≡ v
unfolding imm_value
moves a v is lt = omega arith

-- the address of a word so many bytes on
pub moves_on : (a j z c : ℕ) → a ≡ word_address j → 8 * z ≡ 8 * j + c → z ≤ 2 ^ 28 → imm_value Addi a c ≡ word_address z
unfolding imm_value
moves_on a j z c is on le = omega arith

-- a number so many more
pub moves_by : (a c z : ℕ) → a + c ≡ z → z < 2 ^ 64 → imm_value Addi a c ≡ z
unfolding imm_value
moves_by a c z is lt = omega arith

-- the address of the word two words before
pub moves_back : (a z : ℕ) → a ≡ word_address (z + 2) → z ≤ 2 ^ 28 → imm_value Addi a (cast_unsigned w64 (negsuc 15)) ≡ word_address z
unfolding imm_value
moves_back a z is le = omega arith

pub adds : (a b c : ℕ) → a + b ≡ c → c < 2 ^ 64 → reg_value Add a b ≡ c
unfolding reg_value
adds a b c is lt = omega arith

pub eightfold : (a : ℕ) → 8 * a < 2 ^ 64 → shift_value Slli a 3 ≡ 8 * a
unfolding shift_value
eightfold a lt = omega arith

-- ---- tests

pub taken_same : (a b : ℕ) → is_taken Beq a b ≡ true → a ≡ b
unfolding is_taken
taken_same a b h = eqb-true a b h

pub untaken_same : (a b : ℕ) → is_taken Beq a b ≡ false → a ≢ b
unfolding is_taken
untaken_same a b h = eqb-false a b h

pub taken_other : (a b : ℕ) → is_taken Bne a b ≡ true → a ≢ b
unfolding is_taken
taken_other a b h = eqb-false a b (not-true _ h)

pub untaken_other : (a b : ℕ) → is_taken Bne a b ≡ false → a ≡ b
unfolding is_taken
untaken_other a b h = eqb-true a b (not-false _ h)

pub taken_above : (a b : ℕ) → is_taken Bgeu a b ≡ true → b ≤ a
unfolding is_taken
taken_above a b h = ltb-false a b (not-true _ h)

pub untaken_above : (a b : ℕ) → is_taken Bgeu a b ≡ false → a < b
unfolding is_taken
untaken_above a b h = ltb-true a b (not-false _ h)
