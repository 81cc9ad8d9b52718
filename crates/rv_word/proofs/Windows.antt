-- The windows that are counted are there.
use Rattle.std.proofs.Common.{◌≡◌, ℕ, ◌+◌, ◌-◌, ◌*◌, ◌/◌, ◌%◌, ◌^◌, ◌<◌, ◌≤◌, ℤ, pos, negsuc, Bool, true, false, nat_eq, if◌then◌else◌, length, slice_set, refl, arith, length-set}
use Rattle.std.specs.Int.{cast_unsigned, w64}
use Rattle.rv_insn.specs.declared.instructions.ImmOp.{ImmOp}
use Rattle.rv_insn.specs.declared.instructions.ImmOp.TheVariants.{Addi}
use Rattle.rv_insn.specs.Operations.{imm_value}
use Rattle.rv_insn.specs.Program.{stack_start}
use Rattle.rv_word.specs.declared.micros.Register.{Register}
use Rattle.rv_word.specs.Word.{Named, Data, get, set, has_window, zeros}
use Rattle.rv_word.specs.Discipline.{moved_window, imm_window}
use Rattle.rv_word.proofs.Registers.{either_set, zero_is}

-- so many words from an address on lie in the stack, where any are counted
abbrev pub IsThere : Data → ℕ → ℕ → Type 0
IsThere e address k = 0 < k → has_window e address k ≡ true

pub record AreThere (e : Data) (windows : Named) : Type 0 where
  pub each : (r : Register) → IsThere e (get e.named r) (get windows r)

pub none_there : (e : Data) → AreThere e zeros
none_there e = record { each = λ r some. absurd (let none : ⊥ = omega (arith, zero_is r) in none) }

-- a register is written, and its window counted anew
pub written_there : (e : Data) (windows : Named) (r : Register) (x k : ℕ) → IsThere e x k → AreThere e windows → AreThere (record e { named = set e.named r x }) (set windows r k)
written_there e windows r x k h w = record { each = λ q. either_set (λ z a b. IsThere e a b) e.named windows r q x k h (w.each q) }

-- nothing is counted of a register that got any value
pub lost_there : (e : Data) (windows : Named) (r : Register) (x : ℕ) → AreThere e windows → AreThere (record e { named = set e.named r x }) (set windows r 0)
lost_there e windows r x w = written_there e windows r x 0 (λ some. absurd (let none : ⊥ = omega arith in none)) w

-- a window is counted that is there
pub checked_there : (e : Data) (windows : Named) (r : Register) (k : ℕ) → has_window e (get e.named r) k ≡ true → AreThere e windows → AreThere e (set windows r k)
checked_there e windows r k h w = record { each = λ q. either_set (λ z a b. IsThere e (get e.named z) b) e.named windows r q (get e.named r) k (λ some. h) (w.each q) }

-- a window is counted no longer
pub dropped_there : (e : Data) (windows : Named) (r : Register) → AreThere e windows → AreThere e (set windows r 0)
dropped_there e windows r w = record { each = λ q. either_set (λ z a b. IsThere e (get e.named z) b) e.named windows r q (get e.named r) 0 (λ some. absurd (let none : ⊥ = omega arith in none)) (w.each q) }

-- a word is written
pub saved_there : (e : Data) (windows : Named) (i x : ℕ) → AreThere e windows → AreThere (record e { words = slice_set e.words i x }) windows
saved_there e windows i x w = record { each = λ r some. let long : length (slice_set e.words i x) ≡ length e.words = length-set e.words i x in rw long (w.each r some) }

-- ---- windows by numbers

pub record IsWindow (e : Data) (address k : ℕ) : Type 0 where
  pub low : stack_start ≤ address
  pub high : address + 8 * k ≤ stack_start + 8 * length e.words
  pub even : address % 8 ≡ 0

pub window_is : (e : Data) (address k : ℕ) → has_window e address k ≡ true → IsWindow e address k
window_is e address k h = record { low = grind arith; high = grind arith; even = grind arith }

pub is_window : (e : Data) (address k : ℕ) → stack_start ≤ address → address + 8 * k ≤ stack_start + 8 * length e.words → address % 8 ≡ 0 → has_window e address k ≡ true
is_window e address k low high even = grind arith

pub fewer_there : (e : Data) (address k n : ℕ) → k ≤ n → has_window e address n ≡ true → has_window e address k ≡ true
fewer_there e address k n h w = let i : IsWindow e address n = window_is e address n w in is_window e address k i.low (omega (arith, i.high)) i.even

-- seen from so many bytes on
moved_by : (e : Data) (address n k : ℕ) (t : Bool) → nat_eq (n % 8) 0 ≡ t → length e.words ≤ 2 ^ 27 → IsThere e address k → IsThere e ((address + n) % 2 ^ 64) (if t then k - n / 8 else 0)
moved_by e address n k true eight size h = λ some.
    let m : n % 8 ≡ 0 = grind arith in
    let i : IsWindow e address k = window_is e address k (h (omega arith)) in
    let high = i.high in
    let low = i.low in
    let even = i.even in
    let same : (address + n) % 2 ^ 64 ≡ address + n = omega arith in
    rw same (is_window e (address + n) (k - n / 8) (omega arith) (omega arith) (omega arith))
moved_by e address n k false eight size h = λ some. absurd (let none : ⊥ = omega arith in none)

moved_there : (e : Data) (address : ℕ) (imm : ℤ) (k : ℕ) → length e.words ≤ 2 ^ 27 → IsThere e address k → IsThere e ((address + cast_unsigned w64 imm) % 2 ^ 64) (moved_window imm k)
moved_there e address (pos n) k size h = moved_by e address n k (nat_eq (n % 8) 0) refl size h
moved_there e address (negsuc n) k size h = λ some. absurd (let none : ⊥ = omega arith in none)

pub imm_there : (e : Data) (op : ImmOp) (address : ℕ) (imm : ℤ) (k : ℕ) → length e.words ≤ 2 ^ 27 → IsThere e address k → IsThere e (imm_value op address (cast_unsigned w64 imm)) (imm_window op imm k)
unfolding imm_value
imm_there e Addi address imm k size h = moved_there e address imm k size h
imm_there e op address imm k size h = λ some. absurd (let none : ⊥ = omega arith in none)
