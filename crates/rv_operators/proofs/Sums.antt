-- Sums, differences and negatives of words are those of integers, and the tests behind them see where they overflow.
use Rattle.std.proofs.Common.{◌≡◌, ℕ, zero, suc, ◌+◌, ◌-◌, ◌%◌, ◌^◌, ◌<◌, ◌≤◌, ℤ, pos, negsuc, ◌+ℤ◌, ◌-ℤ◌, Bool, true, false, cond, not, int_lt, refl, sym, ap, ◌∙◌, arith, ltb, lt-ltb, le-ltb, eq-eqb, ne_eqb}
use Rattle.std.specs.Int.{cast_signed, cast_unsigned, w64}
use Rattle.std.proofs.lemmas.Int.{ints}
use Rattle.std.proofs.lemmas.Bool.{cond_both}
use borrow.Author.Differences.{true_is_lt, false_is_lt}
use lib.Signed.{mag}
use Rattle.fy_base.specs.Arithmetic.{is_int}
use Rattle.rv_insn.specs.declared.instructions.RegOp.TheVariants.{Add, Sub, Slt}
use Rattle.rv_insn.specs.declared.instructions.BranchOp.TheVariants.{Beq}
use Rattle.rv_insn.specs.Operations.{truth, reg_value, is_taken}
use Rattle.rv_operators.proofs.Numbers.{fits, is_int_false, signed_low, signed_high, less_words, equal_is}

-- the difference of two numbers that lie near is small
small_difference : (a b : ℕ) → a < 2 ^ 63 + b → b ≤ 2 ^ 63 + a → mag (cond (ltb a b) (negsuc (b - suc a)) (pos (a - b))) < 2 ^ 63
small_difference a b h k =
    cond_both (ltb a b) (negsuc (b - suc a)) (pos (a - b)) (λ (z : ℤ). mag z < 2 ^ 63) (λ e. omega arith) (λ e. omega arith)

-- ---- sums

pub sum_is : (x y : ℤ) → is_int x ≡ true → is_int y ≡ true → is_int (x +ℤ y) ≡ true → reg_value Add (cast_unsigned w64 x) (cast_unsigned w64 y) ≡ cast_unsigned w64 (x +ℤ y)
unfolding reg_value
sum_is x y f g h =
    let a = fits x f in
    let b = fits y g in
    let c = fits (x +ℤ y) h in
    omega (arith, ints)

pub sum_less : (x y : ℤ) → int_lt (x +ℤ y) x ≡ int_lt y (pos 0)
sum_less x y = by (int_lt y (pos 0)) refl
  where
    by : (t : Bool) → int_lt y (pos 0) ≡ t → int_lt (x +ℤ y) x ≡ t
    by true e = sym (true_is_lt (x +ℤ y) x (omega (arith, ints)))
    by false e = sym (false_is_lt (x +ℤ y) x (omega (arith, ints)))

pub sum_overflows : (x y : ℤ) → is_int x ≡ true → is_int y ≡ true → is_int (x +ℤ y) ≡ false
    → reg_value Slt (reg_value Add (cast_unsigned w64 x) (cast_unsigned w64 y)) (cast_unsigned w64 x) ≡ truth (not (int_lt y (pos 0)))
unfolding reg_value
sum_overflows (pos a) (pos b) f g h =
    let small = (fits (pos a) f).sfits in
    let other = (fits (pos b) g).sfits in
    let large = is_int_false (pos (a + b)) h in
    less_words ((a + b) % 2 ^ 64) a (negsuc (2 ^ 64 - suc ((a + b) % 2 ^ 64))) (pos a) (signed_high ((a + b) % 2 ^ 64) (omega arith)) (signed_low a (omega arith))
    ∙ ap (λ (t : Bool). truth (not t)) (sym (le-ltb b 0 (omega arith)))
sum_overflows (pos a) (negsuc b) f g h =
    let small = (fits (pos a) f).sfits in
    let other = (fits (negsuc b) g).sfits in
    let large = is_int_false (pos a +ℤ negsuc b) h in
    let below = small_difference a (suc b) (omega arith) (omega arith) in
    absurd (omega arith)
sum_overflows (negsuc a) (pos b) f g h =
    let small = (fits (negsuc a) f).sfits in
    let other = (fits (pos b) g).sfits in
    let large = is_int_false (negsuc a +ℤ pos b) h in
    let below = small_difference b (suc a) (omega arith) (omega arith) in
    absurd (omega arith)
sum_overflows (negsuc a) (negsuc b) f g h =
    let small = (fits (negsuc a) f).sfits in
    let other = (fits (negsuc b) g).sfits in
    let large = is_int_false (negsuc (suc (a + b))) h in
    let s = (2 ^ 64 - suc a + (2 ^ 64 - suc b)) % 2 ^ 64 in
    let read : cast_signed w64 (2 ^ 64 - suc a) ≡ negsuc (2 ^ 64 - suc (2 ^ 64 - suc a)) = signed_high (2 ^ 64 - suc a) (omega arith) in
    less_words s (2 ^ 64 - suc a) (pos s) (negsuc (2 ^ 64 - suc (2 ^ 64 - suc a))) (signed_low s (omega arith)) read

-- ---- differences

pub difference_is : (x y : ℤ) → is_int x ≡ true → is_int y ≡ true → is_int (x -ℤ y) ≡ true → reg_value Sub (cast_unsigned w64 x) (cast_unsigned w64 y) ≡ cast_unsigned w64 (x -ℤ y)
unfolding reg_value
difference_is x y f g h =
    let a = fits x f in
    let b = fits y g in
    let c = fits (x -ℤ y) h in
    omega (arith, ints)

pub difference_less : (x y : ℤ) → int_lt (x -ℤ y) x ≡ int_lt (pos 0) y
difference_less x y = by (int_lt (pos 0) y) refl
  where
    by : (t : Bool) → int_lt (pos 0) y ≡ t → int_lt (x -ℤ y) x ≡ t
    by true e = sym (true_is_lt (x -ℤ y) x (omega (arith, ints)))
    by false e = sym (false_is_lt (x -ℤ y) x (omega (arith, ints)))

pub difference_overflows : (x y : ℤ) → is_int x ≡ true → is_int y ≡ true → is_int (x -ℤ y) ≡ false
    → reg_value Slt (reg_value Sub (cast_unsigned w64 x) (cast_unsigned w64 y)) (cast_unsigned w64 x) ≡ truth (not (int_lt (pos 0) y))
unfolding reg_value
difference_overflows (pos a) (pos zero) f g h =
    let small = (fits (pos a) f).sfits in
    let large = is_int_false (pos (a + 0)) h in
    absurd (omega arith)
difference_overflows (pos a) (pos (suc b)) f g h =
    let small = (fits (pos a) f).sfits in
    let other = (fits (pos (suc b)) g).sfits in
    let large = is_int_false (pos a +ℤ negsuc b) h in
    let below = small_difference a (suc b) (omega arith) (omega arith) in
    absurd (omega arith)
difference_overflows (pos a) (negsuc b) f g h =
    let small = (fits (pos a) f).sfits in
    let other = (fits (negsuc b) g).sfits in
    let large = is_int_false (pos (a + suc b)) h in
    let s = (a + (2 ^ 64 - (2 ^ 64 - suc b))) % 2 ^ 64 in
    less_words s a (negsuc (2 ^ 64 - suc s)) (pos a) (signed_high s (omega arith)) (signed_low a (omega arith))
difference_overflows (negsuc a) (pos zero) f g h =
    let small = (fits (negsuc a) f).sfits in
    let large = is_int_false (negsuc a +ℤ pos 0) h in
    let below = small_difference 0 (suc a) (omega arith) (omega arith) in
    absurd (omega arith)
difference_overflows (negsuc a) (pos (suc b)) f g h =
    let small = (fits (negsuc a) f).sfits in
    let other = (fits (pos (suc b)) g).sfits in
    let large = is_int_false (negsuc (suc (a + b))) h in
    let s = (2 ^ 64 - suc a + (2 ^ 64 - suc b)) % 2 ^ 64 in
    let read : cast_signed w64 (2 ^ 64 - suc a) ≡ negsuc (2 ^ 64 - suc (2 ^ 64 - suc a)) = signed_high (2 ^ 64 - suc a) (omega arith) in
    less_words s (2 ^ 64 - suc a) (pos s) (negsuc (2 ^ 64 - suc (2 ^ 64 - suc a))) (signed_low s (omega arith)) read
    ∙ ap (λ (t : Bool). truth (not t)) (sym (lt-ltb 0 (suc b) (omega arith)))
difference_overflows (negsuc a) (negsuc b) f g h =
    let small = (fits (negsuc a) f).sfits in
    let other = (fits (negsuc b) g).sfits in
    let large = is_int_false (negsuc a +ℤ pos (suc b)) h in
    let below = small_difference (suc b) (suc a) (omega arith) (omega arith) in
    absurd (omega arith)

-- ---- negatives

pub negative_is_passed : (x : ℤ) → is_int x ≡ true → is_int (pos 0 -ℤ x) ≡ true → is_taken Beq (cast_unsigned w64 x) (2 ^ 63) ≡ false
negative_is_passed (pos n) f h =
    let small = (fits (pos n) f).sfits in
    equal_is n (2 ^ 63) ∙ ne_eqb n (2 ^ 63) (λ e. omega arith)
negative_is_passed (negsuc n) f h =
    let small = (fits (negsuc n) f).sfits in
    let other = (fits (pos (0 + suc n)) h).sfits in
    equal_is (2 ^ 64 - suc n) (2 ^ 63) ∙ ne_eqb (2 ^ 64 - suc n) (2 ^ 63) (λ e. omega arith)

pub negative_is_taken : (x : ℤ) → is_int x ≡ true → is_int (pos 0 -ℤ x) ≡ false → is_taken Beq (cast_unsigned w64 x) (2 ^ 63) ≡ true
negative_is_taken (pos zero) f h = absurd cc
negative_is_taken (pos (suc n)) f h =
    let small = (fits (pos (suc n)) f).sfits in
    let large = is_int_false (pos 0 +ℤ negsuc n) h in
    let below = small_difference 0 (suc n) (omega arith) (omega arith) in
    absurd (omega arith)
negative_is_taken (negsuc n) f h =
    let small = (fits (negsuc n) f).sfits in
    let large = is_int_false (pos (0 + suc n)) h in
    equal_is (2 ^ 64 - suc n) (2 ^ 63) ∙ eq-eqb (2 ^ 64 - suc n) (2 ^ 63) (omega arith)
