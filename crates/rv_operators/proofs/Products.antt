-- The halves of a product of words are those of the product of integers, and the upper one is the sign of the lower one where it fits.
use Rattle.std.proofs.Common.{◌≡◌, ℕ, zero, suc, ◌+◌, ◌-◌, ◌*◌, ◌/◌, ◌%◌, ◌^◌, ◌<◌, ◌≤◌, ℤ, pos, negsuc, neg_ℤ, ◌*ℤ◌, Bool, true, false, cond, not, refl, sym, ap, ap₂, ◌∙◌, arith, lt-ltb, le-ltb, ne_eqb, mul_comm, lit<, inl, inr}
use Rattle.std.specs.Int.{cast_unsigned, int_shr, w64}
use Rattle.std.proofs.lemmas.Nat.{mul-le}
use Rattle.std.proofs.Math.Nat.{add-mul-mod_self_right}
use Rattle.std.proofs.lemmas.Bool.{cases_lt}
use Rattle.fy_base.specs.Arithmetic.{is_int}
use Rattle.rv_insn.specs.declared.instructions.RegOp.TheVariants.{Mul, Mulh}
use Rattle.rv_insn.specs.declared.instructions.ShiftOp.TheVariants.{Srai}
use Rattle.rv_insn.specs.declared.instructions.BranchOp.TheVariants.{Bne}
use Rattle.rv_insn.specs.Operations.{widened, upper_half, reg_value, shift_value, is_taken}
use Rattle.rv_operators.proofs.Numbers.{fits, is_int_false, signed_low, signed_high, unequal_is}

-- ---- halves

-- the halves of a product of two words are those of a number, of 128 bits
pub record HasHalves (a b n : ℕ) : Type 0 where
  pub upper : reg_value Mulh a b ≡ n % 2 ^ 128 / 2 ^ 64
  pub lower : reg_value Mul a b ≡ n % 2 ^ 64

widened_low : (a : ℕ) → a < 2 ^ 63 → widened a ≡ a
widened_low a h = ap (λ (t : Bool). cond t a (a + (2 ^ 128 - 2 ^ 64))) (lt-ltb a (2 ^ 63) h)

widened_high : (a : ℕ) → 0 < a → a ≤ 2 ^ 63 → widened (2 ^ 64 - a) ≡ 2 ^ 128 - a
widened_high a some h =
    let word : ℕ = 2 ^ 64 - a in
    let sum : word + (2 ^ 128 - 2 ^ 64) ≡ 2 ^ 128 - a = omega arith in
    ap (λ (t : Bool). cond t word (word + (2 ^ 128 - 2 ^ 64))) (le-ltb word (2 ^ 63) (omega arith)) ∙ sum

upper_is : (a b p q : ℕ) → widened a ≡ p → widened b ≡ q → reg_value Mulh a b ≡ (p * q) % 2 ^ 128 / 2 ^ 64
unfolding reg_value
upper_is a b p q e f = ap₂ (λ (v w : ℕ). upper_half v w) e f

lower_is : (a b : ℕ) → reg_value Mul a b ≡ (a * b) % 2 ^ 64
unfolding reg_value
lower_is a b = refl

-- products of what is missing to a power
opposite : (p q a b m : ℕ) → p + a ≡ m → q + b ≡ m → (p * q) % m ≡ (a * b) % m
opposite p q a b m e f =
    let first : (p + a) * q ≡ m * q = ap (λ (x : ℕ). x * q) e in
    let second : a * (q + b) ≡ a * m = ap (λ (x : ℕ). a * x) f in
    let same : p * q + a * m ≡ a * b + q * m = omega arith in
    sym (add-mul-mod_self_right (p * q) a m) ∙ ap (λ (n : ℕ). n % m) same ∙ add-mul-mod_self_right (a * b) q m

crossed : (a q b m k : ℕ) → q + b ≡ m → a * b ≤ k * m → (a * q) % m ≡ (k * m - a * b) % m
crossed a q b m k f le =
    let both : a * (q + b) ≡ a * m = ap (λ (x : ℕ). a * x) f in
    let same : a * q + k * m ≡ k * m - a * b + a * m = omega arith in
    sym (add-mul-mod_self_right (a * q) k m) ∙ ap (λ (n : ℕ). n % m) same ∙ add-mul-mod_self_right (k * m - a * b) a m

halves_of_both : (a b : ℕ) → a < 2 ^ 63 → b < 2 ^ 63 → HasHalves a b (a * b)
halves_of_both a b h k = record { upper = upper_is a b a b (widened_low a h) (widened_low b k); lower = lower_is a b }

halves_of_none : (a b : ℕ) → 0 < a → a ≤ 2 ^ 63 → 0 < b → b ≤ 2 ^ 63 → HasHalves (2 ^ 64 - a) (2 ^ 64 - b) (a * b)
halves_of_none a b some h other k =
    record {
      upper =
          upper_is (2 ^ 64 - a) (2 ^ 64 - b) (2 ^ 128 - a) (2 ^ 128 - b) (widened_high a some h) (widened_high b other k)
          ∙ ap (λ (n : ℕ). n / 2 ^ 64) (opposite (2 ^ 128 - a) (2 ^ 128 - b) a b (2 ^ 128) (omega arith) (omega arith));
      lower = lower_is (2 ^ 64 - a) (2 ^ 64 - b) ∙ opposite (2 ^ 64 - a) (2 ^ 64 - b) a b (2 ^ 64) (omega arith) (omega arith);
    }

-- the product of a word and of one of a negative number
few_crossed : (a b : ℕ) → a ≤ 2 ^ 63 → b ≤ 2 ^ 63 → a * b ≤ 2 ^ 126
few_crossed a b h k = mul-le a b (2 ^ 63) (2 ^ 63) h k

halves_of_first : (a b : ℕ) → a < 2 ^ 63 → 0 < b → b ≤ 2 ^ 63 → HasHalves a (2 ^ 64 - b) (2 ^ 128 - a * b)
halves_of_first a b h some k =
    let few = few_crossed a b (omega arith) k in
    record {
      upper =
          upper_is a (2 ^ 64 - b) a (2 ^ 128 - b) (widened_low a h) (widened_high b some k)
          ∙ ap (λ (n : ℕ). n / 2 ^ 64) (crossed a (2 ^ 128 - b) b (2 ^ 128) 1 (omega arith) (omega arith));
      lower = lower_is a (2 ^ 64 - b) ∙ crossed a (2 ^ 64 - b) b (2 ^ 64) (2 ^ 64) (omega arith) (omega arith);
    }

halves_of_second : (a b : ℕ) → 0 < a → a ≤ 2 ^ 63 → b < 2 ^ 63 → HasHalves (2 ^ 64 - a) b (2 ^ 128 - a * b)
halves_of_second a b some h k =
    let few = few_crossed b a (omega arith) h in
    let turned : 2 ^ 128 - b * a ≡ 2 ^ 128 - a * b = ap (λ (n : ℕ). 2 ^ 128 - n) (mul_comm b a) in
    record {
      upper =
          upper_is (2 ^ 64 - a) b (2 ^ 128 - a) b (widened_high a some h) (widened_low b k)
          ∙ ap (λ (n : ℕ). n % 2 ^ 128 / 2 ^ 64) (mul_comm (2 ^ 128 - a) b)
          ∙ ap (λ (n : ℕ). n / 2 ^ 64) (crossed b (2 ^ 128 - a) a (2 ^ 128) 1 (omega arith) (omega arith))
          ∙ ap (λ (n : ℕ). n % 2 ^ 128 / 2 ^ 64) turned;
      lower =
          lower_is (2 ^ 64 - a) b ∙ ap (λ (n : ℕ). n % 2 ^ 64) (mul_comm (2 ^ 64 - a) b)
          ∙ crossed b (2 ^ 64 - a) a (2 ^ 64) (2 ^ 64) (omega arith) (omega arith) ∙ ap (λ (n : ℕ). n % 2 ^ 64) turned;
    }

-- ---- signs

sign_low : (n : ℕ) → n < 2 ^ 63 → shift_value Srai n 63 ≡ 0
unfolding shift_value
sign_low n h = let none : n / 2 ^ 63 ≡ 0 = omega arith in ap (λ (z : ℤ). cast_unsigned w64 (int_shr z 63)) (signed_low n h) ∙ none

sign_high : (n : ℕ) → 2 ^ 63 ≤ n → shift_value Srai n 63 ≡ 2 ^ 64 - 1
unfolding shift_value
sign_high n h =
    let all : 2 ^ 64 - suc ((2 ^ 64 - suc n) / 2 ^ 63) ≡ 2 ^ 64 - 1 = omega arith in
    ap (λ (z : ℤ). cast_unsigned w64 (int_shr z 63)) (signed_high n h) ∙ all

-- what a product's block finds
pub record IsProduct (a b w : ℕ) : Type 0 where
  pub lower : reg_value Mul a b ≡ w
  pub upper : reg_value Mulh a b ≡ shift_value Srai w 63

abbrev pub Overflows : ℕ → ℕ → Type 0
Overflows a b = is_taken Bne (reg_value Mulh a b) (shift_value Srai (reg_value Mul a b) 63) ≡ true

positive_fits : (a b n : ℕ) → HasHalves a b n → n < 2 ^ 63 → IsProduct a b n
positive_fits a b n h small =
    let low : n % 2 ^ 64 ≡ n = omega arith in
    let high : n % 2 ^ 128 / 2 ^ 64 ≡ 0 = omega arith in
    record { lower = h.lower ∙ low; upper = h.upper ∙ high ∙ sym (sign_low n small) }

negative_fits : (a b n : ℕ) → HasHalves a b (2 ^ 128 - n) → n ≤ 2 ^ 63 → IsProduct a b (cast_unsigned w64 (neg_ℤ (pos n)))
negative_fits a b zero h small = record { lower = h.lower; upper = h.upper ∙ sym (sign_low 0 (lit< tt)) }
negative_fits a b (suc n) h small =
    let low : (2 ^ 128 - suc n) % 2 ^ 64 ≡ 2 ^ 64 - suc n = omega arith in
    let high : (2 ^ 128 - suc n) % 2 ^ 128 / 2 ^ 64 ≡ 2 ^ 64 - 1 = omega arith in
    record { lower = h.lower ∙ low; upper = h.upper ∙ high ∙ sym (sign_high (2 ^ 64 - suc n) (omega arith)) }

overflows_where : (a b n : ℕ) → HasHalves a b n → (n % 2 ^ 128 / 2 ^ 64 ≡ shift_value Srai (n % 2 ^ 64) 63 → ⊥) → Overflows a b
overflows_where a b n h apart =
    ap₂ (λ (u l : ℕ). is_taken Bne u (shift_value Srai l 63)) h.upper h.lower
    ∙ unequal_is (n % 2 ^ 128 / 2 ^ 64) (shift_value Srai (n % 2 ^ 64) 63)
    ∙ ap not (ne_eqb (n % 2 ^ 128 / 2 ^ 64) (shift_value Srai (n % 2 ^ 64) 63) apart)

positive_apart : (n : ℕ) → 2 ^ 63 ≤ n → n ≤ 2 ^ 126 → n % 2 ^ 128 / 2 ^ 64 ≡ shift_value Srai (n % 2 ^ 64) 63 → ⊥
positive_apart n large few e = elim (cases_lt (n % 2 ^ 64) (2 ^ 63)) [
  | inl low ↦ let sign = sign_low (n % 2 ^ 64) low in omega arith
  | inr high ↦ let sign = sign_high (n % 2 ^ 64) high in omega arith
]

negative_apart : (n : ℕ) → 2 ^ 63 < n → n ≤ 2 ^ 126 → (2 ^ 128 - n) % 2 ^ 128 / 2 ^ 64 ≡ shift_value Srai ((2 ^ 128 - n) % 2 ^ 64) 63 → ⊥
negative_apart n large few e = elim (cases_lt ((2 ^ 128 - n) % 2 ^ 64) (2 ^ 63)) [
  | inl low ↦ let sign = sign_low ((2 ^ 128 - n) % 2 ^ 64) low in omega arith
  | inr high ↦ let sign = sign_high ((2 ^ 128 - n) % 2 ^ 64) high in omega arith
]

-- ---- products of integers

pub negative_range : (n : ℕ) → is_int (neg_ℤ (pos n)) ≡ true → n ≤ 2 ^ 63
negative_range zero e = omega arith
negative_range (suc n) e = let h = (fits (negsuc n) e).sfits in omega arith

pub negative_outside : (n : ℕ) → is_int (neg_ℤ (pos n)) ≡ false → 2 ^ 63 < n
negative_outside zero e = absurd cc
negative_outside (suc n) e = let h = is_int_false (negsuc n) e in omega arith

pub product_fits : (x y : ℤ) → is_int x ≡ true → is_int y ≡ true → is_int (x *ℤ y) ≡ true → IsProduct (cast_unsigned w64 x) (cast_unsigned w64 y) (cast_unsigned w64 (x *ℤ y))
product_fits (pos a) (pos b) f g h =
    let p = (fits (pos (a * b)) h).sfits in
    positive_fits a b (a * b) (halves_of_both a b (fits (pos a) f).sfits (fits (pos b) g).sfits) p
product_fits (pos a) (negsuc b) f g h =
    let q = (fits (negsuc b) g).sfits in
    negative_fits a (2 ^ 64 - suc b) (a * suc b) (halves_of_first a (suc b) (fits (pos a) f).sfits (omega arith) (omega arith)) (negative_range (a * suc b) h)
product_fits (negsuc a) (pos b) f g h =
    let p = (fits (negsuc a) f).sfits in
    negative_fits (2 ^ 64 - suc a) b (suc a * b) (halves_of_second (suc a) b (omega arith) (omega arith) (fits (pos b) g).sfits) (negative_range (suc a * b) h)
product_fits (negsuc a) (negsuc b) f g h =
    let p = (fits (negsuc a) f).sfits in
    let q = (fits (negsuc b) g).sfits in
    positive_fits (2 ^ 64 - suc a) (2 ^ 64 - suc b) (suc a * suc b) (halves_of_none (suc a) (suc b) (omega arith) (omega arith) (omega arith) (omega arith)) (fits (pos (suc a * suc b)) h).sfits

pub product_overflows : (x y : ℤ) → is_int x ≡ true → is_int y ≡ true → is_int (x *ℤ y) ≡ false → Overflows (cast_unsigned w64 x) (cast_unsigned w64 y)
product_overflows (pos a) (pos b) f g h =
    let p = (fits (pos a) f).sfits in
    let q = (fits (pos b) g).sfits in
    overflows_where a b (a * b) (halves_of_both a b p q) (positive_apart (a * b) (is_int_false (pos (a * b)) h) (few_crossed a b (omega arith) (omega arith)))
product_overflows (pos a) (negsuc b) f g h =
    let p = (fits (pos a) f).sfits in
    let q = (fits (negsuc b) g).sfits in
    overflows_where a (2 ^ 64 - suc b) (2 ^ 128 - a * suc b) (halves_of_first a (suc b) p (omega arith) (omega arith))
    (negative_apart (a * suc b) (negative_outside (a * suc b) h) (few_crossed a (suc b) (omega arith) (omega arith)))
product_overflows (negsuc a) (pos b) f g h =
    let p = (fits (negsuc a) f).sfits in
    let q = (fits (pos b) g).sfits in
    overflows_where (2 ^ 64 - suc a) b (2 ^ 128 - suc a * b) (halves_of_second (suc a) b (omega arith) (omega arith) q)
    (negative_apart (suc a * b) (negative_outside (suc a * b) h) (few_crossed (suc a) b (omega arith) (omega arith)))
product_overflows (negsuc a) (negsuc b) f g h =
    let p = (fits (negsuc a) f).sfits in
    let q = (fits (negsuc b) g).sfits in
    overflows_where (2 ^ 64 - suc a) (2 ^ 64 - suc b) (suc a * suc b) (halves_of_none (suc a) (suc b) (omega arith) (omega arith) (omega arith) (omega arith))
    (positive_apart (suc a * suc b) (is_int_false (pos (suc a * suc b)) h) (few_crossed (suc a) (suc b) (omega arith) (omega arith)))
