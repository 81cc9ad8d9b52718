-- Quotients and remainders of words are those of integers, and the tests before and behind them see where there is none.
use Rattle.std.proofs.Common.{◌≡◌, ℕ, zero, suc, ◌+◌, ◌-◌, ◌/◌, ◌%◌, ◌^◌, ◌≤◌, ℤ, pos, negsuc, neg_ℤ, Bool, true, false, cond, nat_eq, int_div, int_rem, int_eq, refl, sym, ap, ap₂, ◌∙◌, arith, eq-eqb, ne_eqb, eqb-true, div-le_self}
use Rattle.std.specs.Int.{cast_signed, cast_unsigned, w64}
use Rattle.std.proofs.lemmas.Nat.{div_below}
use Rattle.std.proofs.lemmas.Bool.Decides.{Decides-eqb, Decides-int_eq, Decides-like, same_from_decides}
use Rattle.fy_base.specs.Arithmetic.{is_int}
use Rattle.rv_insn.specs.declared.instructions.RegOp.TheVariants.{Div, Rem}
use Rattle.rv_insn.specs.declared.instructions.ImmOp.TheVariants.{Addi}
use Rattle.rv_insn.specs.declared.instructions.BranchOp.TheVariants.{Beq}
use Rattle.rv_insn.specs.Operations.{reg_value, imm_value, is_taken}
use Rattle.rv_operators.proofs.Numbers.{fits, is_int_true, is_int_false, word_below, signed_word, same_word, equal_is}
use Rattle.rv_operators.proofs.Products.{negative_outside}

-- words are equal where integers are
pub equal_ints : (x y : ℤ) → is_int x ≡ true → is_int y ≡ true → nat_eq (cast_unsigned w64 x) (cast_unsigned w64 y) ≡ int_eq x y
equal_ints x y f g =
    same_from_decides (nat_eq (cast_unsigned w64 x) (cast_unsigned w64 y)) (int_eq x y)
    (Decides-like (nat_eq (cast_unsigned w64 x) (cast_unsigned w64 y)) (same_word x y f g) (ap (cast_unsigned w64)) (Decides-eqb (cast_unsigned w64 x) (cast_unsigned w64 y)))
    (Decides-int_eq x y)

pub zero_is : (y : ℤ) (b : Bool) → is_int y ≡ true → int_eq y (pos 0) ≡ b → is_taken Beq (cast_unsigned w64 y) 0 ≡ b
zero_is y b g e = equal_is (cast_unsigned w64 y) 0 ∙ equal_ints y (pos 0) g refl ∙ e

pub quotient_is : (x y : ℤ) → is_int x ≡ true → is_int y ≡ true → int_eq y (pos 0) ≡ false → reg_value Div (cast_unsigned w64 x) (cast_unsigned w64 y) ≡ cast_unsigned w64 (int_div x y)
unfolding reg_value
quotient_is x y f g e =
    ap (λ (t : Bool). cond t (2 ^ 64 - 1) (cast_unsigned w64 (int_div (cast_signed w64 (cast_unsigned w64 x)) (cast_signed w64 (cast_unsigned w64 y))))) (equal_ints y (pos 0) g refl ∙ e)
    ∙ ap₂ (λ (p q : ℤ). cast_unsigned w64 (int_div p q)) (signed_word x f) (signed_word y g)

pub remainder_is : (x y : ℤ) → is_int x ≡ true → is_int y ≡ true → int_eq y (pos 0) ≡ false → reg_value Rem (cast_unsigned w64 x) (cast_unsigned w64 y) ≡ cast_unsigned w64 (int_rem x y)
unfolding reg_value
remainder_is x y f g e =
    ap (λ (t : Bool). cond t (cast_unsigned w64 x) (cast_unsigned w64 (int_rem (cast_signed w64 (cast_unsigned w64 x)) (cast_signed w64 (cast_unsigned w64 y))))) (equal_ints y (pos 0) g refl ∙ e)
    ∙ ap₂ (λ (p q : ℤ). cast_unsigned w64 (int_rem p q)) (signed_word x f) (signed_word y g)

-- ---- by -1

next_word : (a : ℕ) → imm_value Addi a 1 ≡ (a + 1) % 2 ^ 64
unfolding imm_value
next_word a = refl

pub minus_one_taken : (y : ℤ) → is_int y ≡ true → is_taken Beq (imm_value Addi (cast_unsigned w64 y) 1) 0 ≡ true → y ≡ negsuc 0
minus_one_taken y g e =
    let next = next_word (cast_unsigned w64 y) in
    let small = word_below y g in
    let none = eqb-true (imm_value Addi (cast_unsigned w64 y) 1) 0 (sym (equal_is (imm_value Addi (cast_unsigned w64 y) 1) 0) ∙ e) in
    let all : cast_unsigned w64 y ≡ cast_unsigned w64 (negsuc 0) = omega arith in
    same_word y (negsuc 0) g refl all

pub minus_one_is_taken : is_taken Beq (imm_value Addi (cast_unsigned w64 (negsuc 0)) 1) 0 ≡ true
unfolding imm_value is_taken
minus_one_is_taken = refl

-- ---- where a quotient fits

negative_fits : (n : ℕ) → n ≤ 2 ^ 63 → is_int (neg_ℤ (pos n)) ≡ true
negative_fits zero h = refl
negative_fits (suc n) h = is_int_true (negsuc n) (record { sfits = omega arith })

pub quotient_fits : (x y : ℤ) → is_int x ≡ true → is_int y ≡ true → (y ≡ negsuc 0 → ⊥) → is_int (int_div x y) ≡ true
quotient_fits (pos a) (pos b) f g other =
    let small = (fits (pos a) f).sfits in
    let below = div-le_self a b in
    is_int_true (pos (a / b)) (record { sfits = omega arith })
quotient_fits (pos a) (negsuc b) f g other =
    let small = (fits (pos a) f).sfits in
    let below = div-le_self a (suc b) in
    negative_fits (a / suc b) (omega arith)
quotient_fits (negsuc a) (pos b) f g other =
    let small = (fits (negsuc a) f).sfits in
    let below = div-le_self (suc a) b in
    negative_fits (suc a / b) (omega arith)
quotient_fits (negsuc a) (negsuc zero) f g other = absurd (other refl)
quotient_fits (negsuc a) (negsuc (suc b)) f g other =
    let small = (fits (negsuc a) f).sfits in
    is_int_true (pos (suc a / suc (suc b))) (record { sfits = div_below (suc a) (suc (suc b)) (2 ^ 63) (omega arith) (omega arith) })

-- of the least integer by -1 there is none
pub least_is_passed : (x : ℤ) → is_int x ≡ true → is_int (int_div x (negsuc 0)) ≡ true → is_taken Beq (cast_unsigned w64 x) (2 ^ 63) ≡ false
least_is_passed (pos a) f h =
    let small = (fits (pos a) f).sfits in
    equal_is a (2 ^ 63) ∙ ne_eqb a (2 ^ 63) (λ e. omega arith)
least_is_passed (negsuc a) f h =
    let small = (fits (negsuc a) f).sfits in
    let other = (fits (pos (suc a / 1)) h).sfits in
    equal_is (2 ^ 64 - suc a) (2 ^ 63) ∙ ne_eqb (2 ^ 64 - suc a) (2 ^ 63) (λ e. omega arith)

pub least_is_taken : (x : ℤ) → is_int x ≡ true → is_int (int_div x (negsuc 0)) ≡ false → is_taken Beq (cast_unsigned w64 x) (2 ^ 63) ≡ true
least_is_taken (pos a) f h =
    let small = (fits (pos a) f).sfits in
    let large = negative_outside (a / 1) h in
    let below = div-le_self a 1 in
    absurd (omega arith)
least_is_taken (negsuc a) f h =
    let small = (fits (negsuc a) f).sfits in
    let large = is_int_false (pos (suc a / 1)) h in
    let below = div-le_self (suc a) 1 in
    equal_is (2 ^ 64 - suc a) (2 ^ 63) ∙ eq-eqb (2 ^ 64 - suc a) (2 ^ 63) (omega arith)
