-- What registers hold stays below 2 ^ 64.
use Rattle.std.proofs.Common.{◌≡◌, ℕ, ◌*◌, ◌/◌, ◌%◌, ◌^◌, ◌<◌, ℤ, pos, negsuc, Bool, true, false, arith, lit<}
use Rattle.std.specs.Int.{cast_unsigned, w64}
use Rattle.std.proofs.lemmas.Nat.{mod_below, shr_below, shr_le, and_le_l, xor_lt, or_lt}
use Rattle.std.proofs.lemmas.Grind.{common_steps}
use Rattle.rv_insn.specs.declared.instructions.RegOp.{RegOp}
use Rattle.rv_insn.specs.declared.instructions.RegOp.TheVariants as r
use Rattle.rv_insn.specs.declared.instructions.ImmOp.{ImmOp}
use Rattle.rv_insn.specs.declared.instructions.ImmOp.TheVariants as i
use Rattle.rv_insn.specs.declared.instructions.ShiftOp.{ShiftOp}
use Rattle.rv_insn.specs.declared.instructions.ShiftOp.TheVariants as s
use Rattle.rv_insn.specs.Operations.{reg_value, imm_value, shift_value, truth, quotient, remainder, unsigned_quotient, unsigned_remainder, upper_half, shifted_arithmetic, sign_extended}
use Rattle.rv_word.specs.Discipline.{is_short}

truth_below : (b : Bool) → truth b < 2 ^ 64
truth_below true = lit< tt
truth_below false = lit< tt

extended_below : (x : ℕ) → sign_extended 32 x < 2 ^ 64
extended_below x = grind arith

wrapped_below : (x : ℕ) → x % 2 ^ 64 < 2 ^ 64
wrapped_below x = mod_below x (2 ^ 64) (lit< tt)

shifted_below : (a n : ℕ) → a < 2 ^ 64 → a / 2 ^ n < 2 ^ 64
shifted_below a n h = omega (arith, shr_le a n)

arithmetic_below : (a n : ℕ) → a < 2 ^ 64 → shifted_arithmetic a n < 2 ^ 64
arithmetic_below a n h = grind (arith, common_steps)

half_below : (a b : ℕ) → upper_half a b < 2 ^ 64
half_below a b = shr_below (a * b % 2 ^ 128) 64 64 (mod_below (a * b) (2 ^ 128) (lit< tt))

quotient_below : (a b : ℕ) → a < 2 ^ 64 → b < 2 ^ 64 → quotient a b < 2 ^ 64
quotient_below a b h k = grind (arith, common_steps)

remainder_below : (a b : ℕ) → a < 2 ^ 64 → b < 2 ^ 64 → remainder a b < 2 ^ 64
remainder_below a b h k = grind (arith, common_steps)

unsigned_quotient_below : (a b : ℕ) → a < 2 ^ 64 → b < 2 ^ 64 → unsigned_quotient a b < 2 ^ 64
unsigned_quotient_below a b h k = grind (arith, common_steps)

unsigned_remainder_below : (a b : ℕ) → a < 2 ^ 64 → b < 2 ^ 64 → unsigned_remainder a b < 2 ^ 64
unsigned_remainder_below a b h k = grind (arith, common_steps)

pub reg_below : (op : RegOp) (a b : ℕ) → a < 2 ^ 64 → b < 2 ^ 64 → reg_value op a b < 2 ^ 64
unfolding reg_value
reg_below r.Add a b h k = wrapped_below _
reg_below r.Sub a b h k = wrapped_below _
reg_below r.Sll a b h k = wrapped_below _
reg_below r.Slt a b h k = truth_below _
reg_below r.Sltu a b h k = truth_below _
reg_below r.Xor a b h k = xor_lt 64 a b h k
reg_below r.Srl a b h k = shifted_below a (b % 64) h
reg_below r.Sra a b h k = arithmetic_below a (b % 64) h
reg_below r.Or a b h k = or_lt 64 a b h k
reg_below r.And a b h k = omega (arith, and_le_l a b)
reg_below r.Mul a b h k = wrapped_below _
reg_below r.Mulh a b h k = half_below _ _
reg_below r.Mulhsu a b h k = half_below _ _
reg_below r.Mulhu a b h k = half_below _ _
reg_below r.Div a b h k = quotient_below a b h k
reg_below r.Divu a b h k = unsigned_quotient_below a b h k
reg_below r.Rem a b h k = remainder_below a b h k
reg_below r.Remu a b h k = unsigned_remainder_below a b h k
reg_below op a b h k = extended_below _

pub imm_below : (op : ImmOp) (a b : ℕ) → a < 2 ^ 64 → b < 2 ^ 64 → imm_value op a b < 2 ^ 64
unfolding imm_value
imm_below i.Addi a b h k = wrapped_below _
imm_below i.Slti a b h k = truth_below _
imm_below i.Sltiu a b h k = truth_below _
imm_below i.Xori a b h k = xor_lt 64 a b h k
imm_below i.Ori a b h k = or_lt 64 a b h k
imm_below i.Andi a b h k = omega (arith, and_le_l a b)
imm_below i.Addiw a b h k = extended_below _

pub shift_below : (op : ShiftOp) (a amount : ℕ) → a < 2 ^ 64 → shift_value op a amount < 2 ^ 64
unfolding shift_value
shift_below s.Slli a amount h = wrapped_below _
shift_below s.Srli a amount h = shifted_below a (amount % 64) h
shift_below s.Srai a amount h = arithmetic_below a (amount % 64) h
shift_below op a amount h = extended_below _

-- a short number, extended with its sign
pub short_below : (imm : ℤ) → is_short imm ≡ true → cast_unsigned w64 imm < 2 ^ 64
short_below (pos n) h = let small : n < 2048 = grind arith in omega arith
short_below (negsuc n) h = omega arith
