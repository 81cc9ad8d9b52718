-- The numbers that offsets, addresses and constants come to.
use Rattle.std.proofs.Common.{◌≡◌, ℕ, suc, ◌+◌, ◌-◌, ◌*◌, ◌/◌, ◌%◌, ◌^◌, ◌<◌, ◌≤◌, ℤ, pos, negsuc, true, false, nat_lt, refl, sym, ap, ◌∙◌, arith, if◌then◌else◌, inl, inr}
use Rattle.std.specs.Int.{cast_unsigned, w64}
use Rattle.std.proofs.lemmas.Bool.{cases_lt}
use Rattle.std.proofs.lemmas.Nat.{shr-shr}
use Rattle.rv_insn.specs.declared.instructions.ImmOp.TheVariants.{Addi, Addiw}
use Rattle.rv_insn.specs.declared.instructions.ShiftOp.TheVariants.{Slli}
use Rattle.rv_insn.specs.Operations.{imm_value, shift_value, sign_extended, upper_value}
use Rattle.rv_insn.specs.Step.{displaced}
use Rattle.rv_asm.specs.Forms.{leads_far, has_bits}
use Rattle.rv_asm.specs.Assembly.{address_of}
use Rattle.rv_asm.specs.Choosing.{offset_between, distance, upper_part, lower_part}

-- ---- near

pub offset_back : (here to : ℕ) → to < here → offset_between here to ≡ negsuc (4 * (here - to) - 1)
unfolding offset_between
offset_back here to h = let e : nat_lt to here ≡ true = grind arith in rw e refl

pub offset_on : (here to : ℕ) → here ≤ to → offset_between here to ≡ pos (4 * (to - here))
unfolding offset_between
offset_on here to h = let e : nat_lt to here ≡ false = grind arith in rw e refl

back_leads : (here to : ℕ) → here ≤ 2 ^ 26 → to < here → displaced (address_of here) (negsuc (4 * (here - to) - 1)) ≡ address_of to
back_leads here to h k = omega arith

on_leads : (here to : ℕ) → to ≤ 2 ^ 26 → here ≤ to → displaced (address_of here) (pos (4 * (to - here))) ≡ address_of to
on_leads here to h k = omega arith

pub near_leads : (here to : ℕ) → here ≤ 2 ^ 26 → to ≤ 2 ^ 26 → displaced (address_of here) (offset_between here to) ≡ address_of to
near_leads here to h k = elim (cases_lt to here) [
  | inl b ↦ ap (displaced (address_of here)) (offset_back here to b) ∙ back_leads here to h b
  | inr b ↦ ap (displaced (address_of here)) (offset_on here to b) ∙ on_leads here to k b
]

-- ---- a number in two parts

pub lower_low : (n : ℕ) → n % 4096 < 2048 → lower_part n ≡ pos (n % 4096)
unfolding lower_part
lower_low n h = let e : nat_lt (n % 4096) 2048 ≡ true = grind arith in rw e refl

pub lower_high : (n : ℕ) → 2048 ≤ n % 4096 → lower_part n ≡ negsuc (4096 - suc (n % 4096))
unfolding lower_part
lower_high n h = let e : nat_lt (n % 4096) 2048 ≡ false = grind arith in rw e refl

extended_low : (n : ℕ) → n % 2 ^ 32 < 2 ^ 31 → sign_extended 32 n ≡ n % 2 ^ 32
extended_low n h = let e : nat_lt (n % 2 ^ 32) (2 ^ 31) ≡ true = grind arith in rw e refl

extended_high : (n : ℕ) → 2 ^ 31 ≤ n % 2 ^ 32 → sign_extended 32 n ≡ n % 2 ^ 32 + (2 ^ 64 - 2 ^ 32)
extended_high n h = let e : nat_lt (n % 2 ^ 32) (2 ^ 31) ≡ false = grind arith in rw e refl

-- the upper part where it has no sign, and where it has one
upper_low : (n : ℕ) → (n + 2048) / 4096 % 2 ^ 20 < 2 ^ 19 → upper_value (upper_part n) ≡ (n + 2048) / 4096 % 2 ^ 20 * 4096
unfolding upper_part
upper_low n h =
    let m : ℕ = (n + 2048) / 4096 % 2 ^ 20 * 4096 in
    let small : m % 2 ^ 32 ≡ m = omega arith in
    extended_low m (omega arith) ∙ small

upper_high : (n : ℕ) → 2 ^ 19 ≤ (n + 2048) / 4096 % 2 ^ 20 → upper_value (upper_part n) ≡ (n + 2048) / 4096 % 2 ^ 20 * 4096 + (2 ^ 64 - 2 ^ 32)
unfolding upper_part
upper_high n h =
    let m : ℕ = (n + 2048) / 4096 % 2 ^ 20 * 4096 in
    let small : m % 2 ^ 32 ≡ m = omega arith in
    extended_high m (omega arith) ∙ ap (λ x. x + (2 ^ 64 - 2 ^ 32)) small

-- ---- far

far_ll : (from to n : ℕ) → from < 2 ^ 30 → to < 2 ^ 30 → n + from ≡ 2 ^ 32 + to → (n + 2048) / 4096 % 2 ^ 20 < 2 ^ 19 → n % 4096 < 2048
    → displaced ((from + (n + 2048) / 4096 % 2 ^ 20 * 4096) % 2 ^ 64) (pos (n % 4096)) ≡ to
far_ll from to n a b e h k = omega arith

far_lh : (from to n : ℕ) → from < 2 ^ 30 → to < 2 ^ 30 → n + from ≡ 2 ^ 32 + to → (n + 2048) / 4096 % 2 ^ 20 < 2 ^ 19 → 2048 ≤ n % 4096
    → displaced ((from + (n + 2048) / 4096 % 2 ^ 20 * 4096) % 2 ^ 64) (negsuc (4096 - suc (n % 4096))) ≡ to
far_lh from to n a b e h k = omega arith

far_hl : (from to n : ℕ) → from < 2 ^ 30 → to < 2 ^ 30 → n + from ≡ 2 ^ 32 + to → 2 ^ 19 ≤ (n + 2048) / 4096 % 2 ^ 20 → n % 4096 < 2048
    → displaced ((from + ((n + 2048) / 4096 % 2 ^ 20 * 4096 + (2 ^ 64 - 2 ^ 32))) % 2 ^ 64) (pos (n % 4096)) ≡ to
far_hl from to n a b e h k = omega arith

far_hh : (from to n : ℕ) → from < 2 ^ 30 → to < 2 ^ 30 → n + from ≡ 2 ^ 32 + to → 2 ^ 19 ≤ (n + 2048) / 4096 % 2 ^ 20 → 2048 ≤ n % 4096
    → displaced ((from + ((n + 2048) / 4096 % 2 ^ 20 * 4096 + (2 ^ 64 - 2 ^ 32))) % 2 ^ 64) (negsuc (4096 - suc (n % 4096))) ≡ to
far_hh from to n a b e h k = omega arith

parts_lead : (from to n : ℕ) → from < 2 ^ 30 → to < 2 ^ 30 → n + from ≡ 2 ^ 32 + to → leads_far from (upper_part n) (lower_part n) ≡ to
parts_lead from to n a b e = elim (cases_lt ((n + 2048) / 4096 % 2 ^ 20) (2 ^ 19)) [
  | inl h ↦ elim (cases_lt (n % 4096) 2048) [
    | inl k ↦ rw (upper_low n h, lower_low n k) (far_ll from to n a b e h k)
    | inr k ↦ rw (upper_low n h, lower_high n k) (far_lh from to n a b e h k)
  ]
  | inr h ↦ elim (cases_lt (n % 4096) 2048) [
    | inl k ↦ rw (upper_high n h, lower_low n k) (far_hl from to n a b e h k)
    | inr k ↦ rw (upper_high n h, lower_high n k) (far_hh from to n a b e h k)
  ]
]

distance_is : (here to : ℕ) → here ≤ 2 ^ 26 → distance here to + address_of here ≡ 2 ^ 32 + address_of to
unfolding distance
distance_is here to h = omega arith

pub far_leads : (here to : ℕ) → here ≤ 2 ^ 26 → to ≤ 2 ^ 26 → leads_far (address_of here) (upper_part (distance here to)) (lower_part (distance here to)) ≡ address_of to
far_leads here to h k = parts_lead (address_of here) (address_of to) (distance here to) (omega arith) (omega arith) (distance_is here to h)

-- ---- constants

-- what is the same modulo 2 ^ 32 is extended to the same
extended_same : (m n : ℕ) → m % 2 ^ 32 ≡ n % 2 ^ 32 → sign_extended 32 m ≡ sign_extended 32 n
extended_same m n e = ap (λ x. if nat_lt x (2 ^ 31) then x else x + (2 ^ 64 - 2 ^ 32)) e

sum_ll : (n : ℕ) → n % 4096 < 2048 → ((n + 2048) / 4096 % 2 ^ 20 * 4096 + n % 4096) % 2 ^ 32 ≡ n % 2 ^ 32
sum_ll n k = omega arith

sum_lh : (n : ℕ) → 2048 ≤ n % 4096 → ((n + 2048) / 4096 % 2 ^ 20 * 4096 + (2 ^ 64 - suc (4096 - suc (n % 4096)))) % 2 ^ 32 ≡ n % 2 ^ 32
sum_lh n k = omega arith

sum_hl : (n : ℕ) → n % 4096 < 2048 → ((n + 2048) / 4096 % 2 ^ 20 * 4096 + (2 ^ 64 - 2 ^ 32) + n % 4096) % 2 ^ 32 ≡ n % 2 ^ 32
sum_hl n k = omega arith

sum_hh : (n : ℕ) → 2048 ≤ n % 4096 → ((n + 2048) / 4096 % 2 ^ 20 * 4096 + (2 ^ 64 - 2 ^ 32) + (2 ^ 64 - suc (4096 - suc (n % 4096)))) % 2 ^ 32 ≡ n % 2 ^ 32
sum_hh n k = omega arith

parts_add : (n : ℕ) → (upper_value (upper_part n) + cast_unsigned w64 (lower_part n)) % 2 ^ 32 ≡ n % 2 ^ 32
parts_add n = elim (cases_lt ((n + 2048) / 4096 % 2 ^ 20) (2 ^ 19)) [
  | inl h ↦ elim (cases_lt (n % 4096) 2048) [
    | inl k ↦ rw (upper_low n h, lower_low n k) (sum_ll n k)
    | inr k ↦ rw (upper_low n h, lower_high n k) (sum_lh n k)
  ]
  | inr h ↦ elim (cases_lt (n % 4096) 2048) [
    | inl k ↦ rw (upper_high n h, lower_low n k) (sum_hl n k)
    | inr k ↦ rw (upper_high n h, lower_high n k) (sum_hh n k)
  ]
]

-- LUI and ADDIW
pub word_is : (n : ℕ) → imm_value Addiw (upper_value (upper_part n)) (cast_unsigned w64 (lower_part n)) ≡ sign_extended 32 n
unfolding imm_value
word_is n = extended_same (upper_value (upper_part n) + cast_unsigned w64 (lower_part n)) n (parts_add n)

-- a constant of 12 bits, and of 32
pub few_bits : (value : ℤ) → has_bits 12 value ≡ true → imm_value Addi 0 (cast_unsigned w64 value) ≡ cast_unsigned w64 value
unfolding imm_value
few_bits (pos n) h = let b : n < 2048 = grind arith in omega arith
few_bits (negsuc n) h = let b : n < 2048 = grind arith in omega arith

positive_bits : (n : ℕ) → n < 2 ^ 31 → sign_extended 32 (n % 2 ^ 32) ≡ n
positive_bits n h = extended_low (n % 2 ^ 32) (omega arith) ∙ omega arith

negative_bits : (n : ℕ) → n < 2 ^ 31 → sign_extended 32 ((2 ^ 64 - suc n) % 2 ^ 32) ≡ 2 ^ 64 - suc n
negative_bits n h = extended_high ((2 ^ 64 - suc n) % 2 ^ 32) (omega arith) ∙ omega arith

pub word_bits : (value : ℤ) → has_bits 32 value ≡ true → sign_extended 32 (cast_unsigned w64 value % 2 ^ 32) ≡ cast_unsigned w64 value
word_bits (pos n) h = let b : n < 2 ^ 31 = grind arith in positive_bits n b
word_bits (negsuc n) h = let b : n < 2 ^ 31 = grind arith in negative_bits n b

-- eleven or ten bits more, behind a number with no sign
low_more : (x : ℕ) → x < 2 ^ 63 → imm_value Addi (shift_value Slli (x / 2 ^ 11) 11) (cast_unsigned w64 (pos (x % 2 ^ 11))) ≡ x
unfolding imm_value shift_value
low_more x h = omega arith

low_last : (x : ℕ) → x < 2 ^ 63 → imm_value Addi (shift_value Slli (x / 2 ^ 10) 10) (cast_unsigned w64 (pos (x % 2 ^ 10))) ≡ x
unfolding imm_value shift_value
low_last x h = omega arith

-- the same behind the sign, which is as many ones as fit
high_first : (x : ℕ) → x < 2 ^ 43 → imm_value Addi (shift_value Slli (x / 2 ^ 11 + (2 ^ 64 - 2 ^ 32)) 11) (cast_unsigned w64 (pos (x % 2 ^ 11))) ≡ x + (2 ^ 64 - 2 ^ 43)
unfolding imm_value shift_value
high_first x h = omega arith

high_more : (x : ℕ) → x < 2 ^ 54 → imm_value Addi (shift_value Slli (x / 2 ^ 11 + (2 ^ 64 - 2 ^ 43)) 11) (cast_unsigned w64 (pos (x % 2 ^ 11))) ≡ x + (2 ^ 64 - 2 ^ 54)
unfolding imm_value shift_value
high_more x h = omega arith

high_last : (x : ℕ) → x < 2 ^ 64 → imm_value Addi (shift_value Slli (x / 2 ^ 10 + (2 ^ 64 - 2 ^ 54)) 10) (cast_unsigned w64 (pos (x % 2 ^ 10))) ≡ x
unfolding imm_value shift_value
high_last x h = omega arith

-- what the register has when the upper 32, 43 or 54 bits are built
abbrev pub built_32 : ℕ → ℕ
built_32 n = sign_extended 32 (n / 2 ^ 32)

abbrev pub built_43 : ℕ → ℕ
built_43 n = if nat_lt n (2 ^ 63) then n / 2 ^ 21 else n / 2 ^ 21 + (2 ^ 64 - 2 ^ 43)

abbrev pub built_54 : ℕ → ℕ
built_54 n = if nat_lt n (2 ^ 63) then n / 2 ^ 10 else n / 2 ^ 10 + (2 ^ 64 - 2 ^ 54)

top_low : (n : ℕ) → n < 2 ^ 63 → built_32 n ≡ n / 2 ^ 21 / 2 ^ 11
top_low n h = extended_low (n / 2 ^ 32) (omega arith) ∙ (let small : n / 2 ^ 32 % 2 ^ 32 ≡ n / 2 ^ 32 = omega arith in small) ∙ sym (shr-shr n 21 11)

top_high : (n : ℕ) → n < 2 ^ 64 → 2 ^ 63 ≤ n → built_32 n ≡ n / 2 ^ 21 / 2 ^ 11 + (2 ^ 64 - 2 ^ 32)
top_high n h k =
    let small : n / 2 ^ 32 % 2 ^ 32 ≡ n / 2 ^ 32 = omega arith in
    extended_high (n / 2 ^ 32) (omega arith) ∙ ap (λ x. x + (2 ^ 64 - 2 ^ 32)) (small ∙ sym (shr-shr n 21 11))

first_low : (n : ℕ) → n < 2 ^ 63 → imm_value Addi (shift_value Slli (built_32 n) 11) (cast_unsigned w64 (pos (n / 2 ^ 21 % 2 ^ 11))) ≡ n / 2 ^ 21
first_low n h = rw (top_low n h) (low_more (n / 2 ^ 21) (omega arith))

first_high : (n : ℕ) → n < 2 ^ 64 → 2 ^ 63 ≤ n → imm_value Addi (shift_value Slli (built_32 n) 11) (cast_unsigned w64 (pos (n / 2 ^ 21 % 2 ^ 11))) ≡ n / 2 ^ 21 + (2 ^ 64 - 2 ^ 43)
first_high n h k = rw (top_high n h k) (high_first (n / 2 ^ 21) (omega arith))

built_43_low : (n : ℕ) → n < 2 ^ 63 → built_43 n ≡ n / 2 ^ 21
built_43_low n h = let e : nat_lt n (2 ^ 63) ≡ true = grind arith in rw e refl

built_43_high : (n : ℕ) → 2 ^ 63 ≤ n → built_43 n ≡ n / 2 ^ 21 + (2 ^ 64 - 2 ^ 43)
built_43_high n h = let e : nat_lt n (2 ^ 63) ≡ false = grind arith in rw e refl

built_54_low : (n : ℕ) → n < 2 ^ 63 → built_54 n ≡ n / 2 ^ 10
built_54_low n h = let e : nat_lt n (2 ^ 63) ≡ true = grind arith in rw e refl

built_54_high : (n : ℕ) → 2 ^ 63 ≤ n → built_54 n ≡ n / 2 ^ 10 + (2 ^ 64 - 2 ^ 54)
built_54_high n h = let e : nat_lt n (2 ^ 63) ≡ false = grind arith in rw e refl

pub first_more : (n : ℕ) → n < 2 ^ 64 → imm_value Addi (shift_value Slli (built_32 n) 11) (cast_unsigned w64 (pos (n / 2 ^ 21 % 2 ^ 11))) ≡ built_43 n
first_more n h = elim (cases_lt n (2 ^ 63)) [
  | inl k ↦ first_low n k ∙ sym (built_43_low n k)
  | inr k ↦ first_high n h k ∙ sym (built_43_high n k)
]

pub second_more : (n : ℕ) → n < 2 ^ 64 → imm_value Addi (shift_value Slli (built_43 n) 11) (cast_unsigned w64 (pos (n / 2 ^ 10 % 2 ^ 11))) ≡ built_54 n
second_more n h = elim (cases_lt n (2 ^ 63)) [
  | inl k ↦ rw (built_43_low n k, built_54_low n k, ← (shr-shr n 10 11)) (low_more (n / 2 ^ 10) (omega arith))
  | inr k ↦ rw (built_43_high n k, built_54_high n k, ← (shr-shr n 10 11)) (high_more (n / 2 ^ 10) (omega arith))
]

pub last_more : (n : ℕ) → n < 2 ^ 64 → imm_value Addi (shift_value Slli (built_54 n) 10) (cast_unsigned w64 (pos (n % 2 ^ 10))) ≡ n
last_more n h = elim (cases_lt n (2 ^ 63)) [
  | inl k ↦ rw (built_54_low n k) (low_last n k)
  | inr k ↦ rw (built_54_high n k) (high_last n h)
]
