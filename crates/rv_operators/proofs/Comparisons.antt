-- Comparisons of words, and what is made of truth values.
use Rattle.std.proofs.Common.{◌≡◌, ℕ, ◌+◌, ◌-◌, ◌%◌, ◌^◌, ◌<◌, ℤ, pos, Bool, true, false, not, ◌&&◌, ◌||◌, nat_eq, nat_lt, int_eq, refl, ap, ◌∙◌, arith, ltb, lt-ltb, le-ltb, eqb, eqb-true}
use Rattle.std.proofs.lemmas.Bool.{eqb-false}
use Rattle.std.specs.Int.{cast_unsigned, w64}
use Rattle.fy_base.specs.Arithmetic.{is_int, same_truth}
use Rattle.rv_insn.specs.declared.instructions.RegOp.TheVariants.{Sub, Slt, Sltu, And, Or}
use Rattle.rv_insn.specs.declared.instructions.ImmOp.TheVariants.{Sltiu}
use Rattle.rv_insn.specs.declared.instructions.BranchOp.TheVariants.{Beq}
use Rattle.rv_insn.specs.Operations.{truth, reg_value, imm_value, is_taken}
use Rattle.rv_operators.proofs.Numbers.{word_below, signed_low, less_words}
use Rattle.rv_operators.proofs.Quotients.{equal_ints}

-- ---- equality

equal_by : (a b : ℕ) → a < 2 ^ 64 → b < 2 ^ 64 → (t : Bool) → eqb a b ≡ t → truth (ltb ((a + (2 ^ 64 - b)) % 2 ^ 64) 1) ≡ truth t
equal_by a b h k true e = let same = eqb-true a b e in ap truth (lt-ltb ((a + (2 ^ 64 - b)) % 2 ^ 64) 1 (omega arith))
equal_by a b h k false e =
    let apart = eqb-false a b e in
    ap truth (le-ltb ((a + (2 ^ 64 - b)) % 2 ^ 64) 1 (omega arith))

unequal_by : (a b : ℕ) → a < 2 ^ 64 → b < 2 ^ 64 → (t : Bool) → eqb a b ≡ t → truth (ltb 0 ((a + (2 ^ 64 - b)) % 2 ^ 64)) ≡ truth (not t)
unequal_by a b h k true e = let same = eqb-true a b e in ap truth (le-ltb 0 ((a + (2 ^ 64 - b)) % 2 ^ 64) (omega arith))
unequal_by a b h k false e =
    let apart = eqb-false a b e in
    ap truth (lt-ltb 0 ((a + (2 ^ 64 - b)) % 2 ^ 64) (omega arith))

pub equal_words : (a b : ℕ) → a < 2 ^ 64 → b < 2 ^ 64 → imm_value Sltiu (reg_value Sub a b) 1 ≡ truth (nat_eq a b)
unfolding imm_value reg_value
equal_words a b h k = equal_by a b h k (nat_eq a b) refl

pub unequal_words : (a b : ℕ) → a < 2 ^ 64 → b < 2 ^ 64 → reg_value Sltu 0 (reg_value Sub a b) ≡ truth (not (nat_eq a b))
unfolding reg_value
unequal_words a b h k = unequal_by a b h k (nat_eq a b) refl

pub equal_int_words : (x y : ℤ) → is_int x ≡ true → is_int y ≡ true → imm_value Sltiu (reg_value Sub (cast_unsigned w64 x) (cast_unsigned w64 y)) 1 ≡ truth (int_eq x y)
equal_int_words x y f g = equal_words (cast_unsigned w64 x) (cast_unsigned w64 y) (word_below x f) (word_below y g) ∙ ap truth (equal_ints x y f g)

pub unequal_int_words : (x y : ℤ) → is_int x ≡ true → is_int y ≡ true → reg_value Sltu 0 (reg_value Sub (cast_unsigned w64 x) (cast_unsigned w64 y)) ≡ truth (not (int_eq x y))
unequal_int_words x y f g =
    unequal_words (cast_unsigned w64 x) (cast_unsigned w64 y) (word_below x f) (word_below y g) ∙ ap (λ (t : Bool). truth (not t)) (equal_ints x y f g)

pub equal_truths : (x y : Bool) → imm_value Sltiu (reg_value Sub (truth x) (truth y)) 1 ≡ truth (same_truth x y)
unfolding imm_value reg_value
equal_truths true true = refl
equal_truths true false = refl
equal_truths false true = refl
equal_truths false false = refl

pub unequal_truths : (x y : Bool) → reg_value Sltu 0 (reg_value Sub (truth x) (truth y)) ≡ truth (not (same_truth x y))
unfolding reg_value
unequal_truths true true = refl
unequal_truths true false = refl
unequal_truths false true = refl
unequal_truths false false = refl

-- ---- order

pub less_chars : (a b : ℕ) → a < 256 → b < 256 → reg_value Slt a b ≡ truth (nat_lt a b)
less_chars a b h k = less_words a b (pos a) (pos b) (signed_low a (omega arith)) (signed_low b (omega arith))

pub below_number : (a n : ℕ) → imm_value Sltiu a n ≡ truth (nat_lt a n)
unfolding imm_value
below_number a n = refl

pub none_is_taken : is_taken Beq (truth false) 0 ≡ true
unfolding is_taken
none_is_taken = refl

pub one_is_passed : is_taken Beq (truth true) 0 ≡ false
unfolding is_taken
one_is_passed = refl

-- ---- truth values

pub both_truths : (x y : Bool) → reg_value And (truth x) (truth y) ≡ truth (x && y)
unfolding reg_value
both_truths true true = refl
both_truths true false = refl
both_truths false true = refl
both_truths false false = refl

pub either_truth : (x y : Bool) → reg_value Or (truth x) (truth y) ≡ truth (x || y)
unfolding reg_value
either_truth true true = refl
either_truth true false = refl
either_truth false true = refl
either_truth false false = refl
