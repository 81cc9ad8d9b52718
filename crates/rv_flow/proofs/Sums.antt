-- Numbers that lowered code computes.
use Rattle.std.proofs.Common.{◌≡◌, ℕ, zero, suc, ◌+◌, ◌-◌, ◌*◌, ◌/◌, ◌%◌, ◌^◌, ◌<◌, ◌≤◌, pos, negsuc, Bool, true, false, nat_lt, if◌then◌else◌, refl, ◌∙◌, ap, arith}
use Rattle.std.specs.Int.{cast_signed, cast_unsigned, w64}
use Rattle.std.proofs.lemmas.Int.{of_z-to_z}
use Rattle.std.proofs.lemmas.Nat.{and_mask}
use Rattle.std.proofs.lemmas.Nat.Bits.{and_high}
use Rattle.rv_insn.specs.declared.instructions.ImmOp.TheVariants.{Addi, Andi}
use Rattle.rv_insn.specs.Operations.{imm_value, upper_value, sign_extended}
use Rattle.rv_flow.specs.Lowering.{upper_part, lower_part, minus}

-- nothing is added
pub copy_is : (x : ℕ) → x < 2 ^ 64 → imm_value Addi x (cast_unsigned w64 (pos 0)) ≡ x
unfolding imm_value
copy_is x h = omega arith

pub literal_is : (k : ℕ) → k < 2 ^ 64 → imm_value Addi 0 (cast_unsigned w64 (pos k)) ≡ k
unfolding imm_value
literal_is k h = omega arith

pub constant_is : (v : ℕ) → v < 2 ^ 64 → cast_unsigned w64 (cast_signed w64 v) ≡ v
constant_is v h = of_z-to_z w64 v h

pub minus_is : (x v : ℕ) → v ≤ x → x < 2 ^ 64 → imm_value Addi x (cast_unsigned w64 (minus v)) ≡ x - v
unfolding imm_value
minus_is x zero h small = omega arith
minus_is x (suc v) h small = omega arith

-- ---- a number in two parts

extended : (x : ℕ) → x < 2 ^ 31 → sign_extended 32 x ≡ x
extended x h = grind arith

upper_is : (v : ℕ) → v < 2 ^ 31 - 2048 → upper_value (upper_part v) ≡ (v + 2048) / 4096 * 4096
upper_is v h = extended ((v + 2048) / 4096 * 4096) (omega arith)

sum_is : (v : ℕ) (t : Bool) → nat_lt (v % 4096) 2048 ≡ t → v < 2 ^ 31 - 2048
    → imm_value Addi ((v + 2048) / 4096 * 4096) (cast_unsigned w64 (if t then pos (v % 4096) else negsuc (4095 - v % 4096))) ≡ v
unfolding imm_value
sum_is v true t h = let low : v % 4096 < 2048 = grind arith in omega arith
sum_is v false t h = let high : 2048 ≤ v % 4096 = grind arith in omega arith

pub parts_are : (v : ℕ) → v < 2 ^ 31 - 2048 → imm_value Addi (upper_value (upper_part v)) (cast_unsigned w64 (lower_part v)) ≡ v
parts_are v h = ap (λ x. imm_value Addi x (cast_unsigned w64 (lower_part v))) (upper_is v h) ∙ sum_is v (nat_lt (v % 4096) 2048) refl h

-- ---- masks

pub low_three : (x : ℕ) → imm_value Andi x (cast_unsigned w64 (pos 7)) ≡ x % 8
unfolding imm_value
low_three x = and_mask x 3

pub all_but_three : (x : ℕ) → x < 2 ^ 64 → imm_value Andi x (cast_unsigned w64 (negsuc 7)) ≡ x / 8 * 8
unfolding imm_value
all_but_three x h = and_high x 61 3 ∙ omega arith
