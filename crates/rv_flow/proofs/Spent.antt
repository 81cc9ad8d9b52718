-- How many instructions each micro-operation takes: at least one, and at most its cost.
use Rattle.std.proofs.Common.{◌≡◌, ℕ, ◌*◌, ◌^◌, ◌≤◌, ℤ, Bool, true, false, nat_le, if◌then◌else◌, [], ◌∷◌, inl, inr, ap, arith, lit≤}
use Rattle.std.specs.Int.{cast_signed, w64}
use Rattle.std.proofs.lemmas.Bool.{cases_lt}
use Rattle.std.proofs.lemmas.Int.{to_z_pos}
use Rattle.rv_insn.specs.declared.instructions.RegOp.TheVariants.{Sub}
use Rattle.rv_insn.specs.declared.instructions.ImmOp.TheVariants.{Addi}
use Rattle.rv_asm.specs.Forms.{has_bits, constant_words}
use Rattle.rv_word.specs.declared.micros.Register.{Register}
use Rattle.rv_word.specs.declared.micros.Micro.{Micro}
use Rattle.rv_word.specs.declared.micros.Micro.TheVariants.{Set, Window, Room}
use Rattle.rv_word.specs.Costs.{set_cost, cost}
use Rattle.rv_flow.specs.Lowering.{minus}
use Rattle.rv_flow.proofs.Shown.{X31, R, X3}
use Rattle.rv_flow.proofs.Lines.{Num, Op, number_lines, window_lines, lines_of, last_of, lines_least, lines_most}

words_most : (z : ℤ) → constant_words z ≤ 8
words_most z = two_tests (has_bits 12 z) (has_bits 32 z)
  where
    two_tests : (b c : Bool) → (if b then 1 else (if c then 2 else 8)) ≤ 8
    two_tests true c = lit≤ tt
    two_tests false true = lit≤ tt
    two_tests false false = lit≤ tt

set_most : (v : ℕ) → 2 ^ 63 ≤ v → set_cost v ≡ 8
set_most v h = grind arith

set_fits : (v : ℕ) → constant_words (cast_signed w64 v) ≤ set_cost v
set_fits v = elim (cases_lt v (2 ^ 63)) [
  | inl low ↦ let same : constant_words (cast_signed w64 v) ≡ set_cost v = ap constant_words (to_z_pos w64 v low) in omega arith
  | inr high ↦ let most : set_cost v ≡ 8 = set_most v high in let few : constant_words (cast_signed w64 v) ≤ 8 = words_most (cast_signed w64 v) in omega arith
]

room_most : (k label : ℕ) (t : Bool) → lines_most (if t then Num Addi X31 X3 (minus (8 * k)) ∷ [] else number_lines X31 (8 * k) (Op Sub X31 X3 (R X31) ∷ [])) (last_of (Room k label)) ≤ 6
room_most k label true = lit≤ tt
room_most k label false = lit≤ tt

room_least : (k label : ℕ) (t : Bool) → 1 ≤ lines_least (if t then Num Addi X31 X3 (minus (8 * k)) ∷ [] else number_lines X31 (8 * k) (Op Sub X31 X3 (R X31) ∷ [])) (last_of (Room k label))
room_least k label true = lit≤ tt
room_least k label false = lit≤ tt

window_most : (r : Register) (k : ℕ) (t : Bool) → lines_most (window_lines t r k) (last_of (Window r k)) ≤ (if t then 5 else 8)
window_most r k true = lit≤ tt
window_most r k false = lit≤ tt

window_least : (r : Register) (k : ℕ) (t : Bool) → 1 ≤ lines_least (window_lines t r k) (last_of (Window r k))
window_least r k true = lit≤ tt
window_least r k false = lit≤ tt

pub within_cost : (entries table_words : ℕ) (m : Micro) → lines_most (lines_of entries table_words m) (last_of m) ≤ cost m
within_cost entries table_words (Set r v) = set_fits v
within_cost entries table_words (Room k label) = room_most k label (nat_le k 255)
within_cost entries table_words (Window r k) = window_most r k (nat_le k 255)
within_cost entries table_words m = lit≤ tt

pub at_least_one : (entries table_words : ℕ) (m : Micro) → 1 ≤ lines_least (lines_of entries table_words m) (last_of m)
at_least_one entries table_words (Room k label) = room_least k label (nat_le k 255)
at_least_one entries table_words (Window r k) = window_least r k (nat_le k 255)
at_least_one entries table_words m = lit≤ tt
