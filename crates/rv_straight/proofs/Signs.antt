-- A quotient overflows where it and both operands are negative, which the sign of their common bits tells.
use Rattle.std.proofs.Common.{◌≡◌, ℕ, suc, ◌-◌, ◌/◌, ◌^◌, ◌<◌, ◌≤◌, ℤ, pos, negsuc, true, false, int_lt, int_div, ap, ap₂, ◌∙◌, arith, le-ltb, div-le_self, bit_and}
use Rattle.std.specs.Int.{cast_unsigned, w64}
use Rattle.std.specs.Int.Bits.{and_self}
use Rattle.std.proofs.lemmas.Nat.{and_le_l, and_le_r, and_shr}
use Rattle.fy_base.specs.Arithmetic.{is_int}
use Rattle.rv_insn.specs.declared.instructions.RegOp.TheVariants.{And}
use Rattle.rv_insn.specs.declared.instructions.BranchOp.TheVariants.{Blt}
use Rattle.rv_insn.specs.Operations.{reg_value, is_taken}
use Rattle.rv_operators.proofs.Numbers.{fits, is_int_false, signed_low, signed_high}
use Rattle.rv_operators.proofs.Products.{negative_outside}

-- ---- the sign of what two words have in common

low_left : (a b : ℕ) → a < 2 ^ 63 → bit_and a b < 2 ^ 63
low_left a b h = let le = and_le_l a b in omega arith

low_right : (a b : ℕ) → b < 2 ^ 63 → bit_and a b < 2 ^ 63
low_right a b h = let le = and_le_r a b in omega arith

high_both : (a b : ℕ) → 2 ^ 63 ≤ a → a < 2 ^ 64 → 2 ^ 63 ≤ b → b < 2 ^ 64 → 2 ^ 63 ≤ bit_and a b
high_both a b ha la hb lb =
    let first : a / 2 ^ 63 ≡ 1 = omega arith in
    let second : b / 2 ^ 63 ≡ 1 = omega arith in
    let both : bit_and a b / 2 ^ 63 ≡ 1 = and_shr a b 63 ∙ ap₂ bit_and first second ∙ and_self 1 in
    omega arith

low_passed : (a : ℕ) → a < 2 ^ 63 → is_taken Blt a 0 ≡ false
unfolding is_taken
low_passed a h = ap (λ (z : ℤ). int_lt z (pos 0)) (signed_low a h) ∙ le-ltb a 0 (omega arith)

high_taken : (a : ℕ) → 2 ^ 63 ≤ a → is_taken Blt a 0 ≡ true
unfolding is_taken
high_taken a h = ap (λ (z : ℤ). int_lt z (pos 0)) (signed_high a h)

-- ---- quotients

-- what operands and quotient have in common
abbrev pub common : ℤ → ℤ → ℕ
common x y = reg_value And (reg_value And (cast_unsigned w64 x) (cast_unsigned w64 y)) (cast_unsigned w64 (int_div x y))

pub quotient_passed : (x y : ℤ) → is_int x ≡ true → is_int y ≡ true → is_int (int_div x y) ≡ true → is_taken Blt (common x y) 0 ≡ false
unfolding reg_value
quotient_passed (pos a) y f g h =
    let w = cast_unsigned w64 y in
    let q = cast_unsigned w64 (int_div (pos a) y) in
    low_passed (bit_and (bit_and a w) q) (low_left (bit_and a w) q (low_left a w (fits (pos a) f).sfits))
quotient_passed (negsuc a) (pos b) f g h =
    let p = 2 ^ 64 - suc a in
    let q = cast_unsigned w64 (int_div (negsuc a) (pos b)) in
    low_passed (bit_and (bit_and p b) q) (low_left (bit_and p b) q (low_right p b (fits (pos b) g).sfits))
quotient_passed (negsuc a) (negsuc b) f g h =
    let p = bit_and (2 ^ 64 - suc a) (2 ^ 64 - suc b) in
    low_passed (bit_and p (suc a / suc b)) (low_right p (suc a / suc b) (fits (pos (suc a / suc b)) h).sfits)

pub quotient_overflows : (x y : ℤ) → is_int x ≡ true → is_int y ≡ true → is_int (int_div x y) ≡ false → is_taken Blt (common x y) 0 ≡ true
unfolding reg_value
quotient_overflows (pos a) (pos b) f g h =
    let small = (fits (pos a) f).sfits in
    let large = is_int_false (pos (a / b)) h in
    let below = div-le_self a b in
    absurd (omega arith)
quotient_overflows (pos a) (negsuc b) f g h =
    let small = (fits (pos a) f).sfits in
    let large = negative_outside (a / suc b) h in
    let below = div-le_self a (suc b) in
    absurd (omega arith)
quotient_overflows (negsuc a) (pos b) f g h =
    let small = (fits (negsuc a) f).sfits in
    let large = negative_outside (suc a / b) h in
    let below = div-le_self (suc a) b in
    absurd (omega arith)
quotient_overflows (negsuc a) (negsuc b) f g h =
    let small = (fits (negsuc a) f).sfits in
    let other = (fits (negsuc b) g).sfits in
    let large = is_int_false (pos (suc a / suc b)) h in
    let below = div-le_self (suc a) (suc b) in
    let p = 2 ^ 64 - suc a in
    let q = 2 ^ 64 - suc b in
    let most = and_le_l p q in
    let first = high_both p q (omega arith) (omega arith) (omega arith) (omega arith) in
    high_taken (bit_and (bit_and p q) (suc a / suc b)) (high_both (bit_and p q) (suc a / suc b) first (omega arith) (omega arith) (omega arith))
