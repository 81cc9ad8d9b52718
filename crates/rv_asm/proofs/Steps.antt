-- Steps at instructions that stand one behind the other, and what they write.
use Rattle.std.proofs.Common.{◌≡◌, ◌≢◌, ℕ, zero, suc, ◌+◌, ◌-◌, ◌/◌, ◌%◌, ◌^◌, ◌<◌, ◌≤◌, ℤ, List, [], ◌∷◌, length, set, Some, refl, sym, ap, ◌∙◌, subst, arith, inl, inr, false, nat_eq, if◌then◌else◌}
use Rattle.std.specs.List.{slice_get, slice_index}
use Rattle.std.specs.Int.{cast_unsigned, w64}
use Rattle.std.proofs.lemmas.Bool.{cases_eq, ne_eqb}
use Rattle.std.proofs.lemmas.List.{length-set, get_or-set_same, get_or-set_other}
use Rattle.rv_insn.specs.declared.instructions.ImmOp.{ImmOp}
use Rattle.rv_insn.specs.declared.instructions.ShiftOp.{ShiftOp}
use Rattle.rv_insn.specs.declared.instructions.Insn.{Insn}
use Rattle.rv_insn.specs.declared.instructions.Insn.TheVariants.{Imm, Shift, Lui, Auipc}
use Rattle.rv_insn.specs.Operations.{imm_value, shift_value, upper_value}
use Rattle.rv_insn.specs.Program.{Program, code_start}
use Rattle.rv_insn.specs.Step.{Core, Outcome, reg, set_reg, with_reg, advanced, going, execute, instruction_step}
use Rattle.rv_asm.specs.Meaning.{GoesOn, IsWrittenAt, Writes}

-- an instruction of the code at an address
pub record Holds (p : Program) (a : ℕ) (i : Insn) : Type 0 where
  pub aligned : a % 4 ≡ 0
  pub above : code_start ≤ a
  pub there : slice_get p.instructions ((a - code_start) / 4) ≡ Some (Some i)

-- instructions one behind the other
abbrev pub Stands : Program → ℕ → List Insn → Type 0
Stands p a [] = Unit {0}
Stands p a (i ∷ is) = Holds p a i × Stands p (a + 4) is

-- a step at an instruction executes it
pub step_is : (p : Program) (c : Core) (a : ℕ) (i : Insn) → Holds p a i → c.pc ≡ a → instruction_step p c ≡ execute p i c
unfolding instruction_step
step_is p c a i h e = rw (e, h.aligned, h.there) (grind (arith, h.above))

-- a step that goes on, before others and behind others
pub goes_first : (p : Program) (n a : ℕ) (i : Insn) (c d e : Core) → Holds p a i → c.pc ≡ a → execute p i c ≡ going d → GoesOn p n d e → GoesOn p (suc n) c e
goes_first p n a i c d e h at x g =
    let s : instruction_step p c ≡ going d = step_is p c a i h at ∙ x in
    let Q : Outcome → Type 0 = λ o. GoesOn p n o.core e in
    (ap (λ (o : Outcome). o.event) s, subst Q (sym s) g)

pub goes_last : (p : Program) (n a : ℕ) (i : Insn) (c d e : Core) → GoesOn p n c d → Holds p a i → d.pc ≡ a → execute p i d ≡ going e → GoesOn p (suc n) c e
goes_last p zero a i c d e g h at x =
    let Q : Core → Type 0 = λ b. GoesOn p 1 b e in
    subst Q (sym g) (goes_first p 0 a i d e e h at x refl)
goes_last p (suc n) a i c d e g h at x = (g.0, goes_last p n a i (instruction_step p c).core d e g.1 h at x)

-- ---- registers

set_reg-suc : (regs : List ℕ) (n v : ℕ) → set_reg regs (suc n) v ≡ set regs (suc n) v
set_reg-suc regs n v = let e : nat_eq (suc n) 0 ≡ false = ne_eqb (suc n) 0 (λ q. omega arith) in ap (λ b. if b then regs else set regs (suc n) v) e

pub length-set_reg : (regs : List ℕ) (rd v : ℕ) → length (set_reg regs rd v) ≡ length regs
length-set_reg regs zero v = refl
length-set_reg regs (suc n) v = ap (λ (l : List ℕ). length l) (set_reg-suc regs n v) ∙ length-set regs (suc n) v

-- what was written is read
pub written_is : (regs : List ℕ) (rd v : ℕ) → rd ≢ 0 → rd < length regs → slice_index (set_reg regs rd v) rd ≡ v
written_is regs zero v h k = absurd (h refl)
written_is regs (suc n) v h k = ap (λ (l : List ℕ). slice_index l (suc n)) (set_reg-suc regs n v) ∙ get_or-set_same regs (suc n) v 0 k

-- another register stays
pub others_stay : (regs : List ℕ) (rd v r : ℕ) → r ≢ rd → slice_index (set_reg regs rd v) r ≡ slice_index regs r
others_stay regs zero v r h = refl
others_stay regs (suc n) v r h = ap (λ (l : List ℕ). slice_index l r) (set_reg-suc regs n v) ∙ get_or-set_other regs (suc n) r v 0 h

-- a write hides what an earlier write to the same register changed
pub write_again : (xs ys : List ℕ) (rd x y r : ℕ) → length xs ≡ 32 → length ys ≡ 32 → rd < 32 → slice_index xs r ≡ slice_index (set_reg ys rd x) r → slice_index (set_reg xs rd y) r ≡ slice_index (set_reg ys rd y) r
write_again xs ys zero x y r m n k e = e
write_again xs ys (suc d) x y r m n k e = elim (cases_eq r (suc d)) [
  | inl same ↦
      (let P : ℕ → Type 0 = λ q. slice_index (set_reg xs (suc d) y) q ≡ slice_index (set_reg ys (suc d) y) q in
      let nonzero : suc d ≢ 0 = omega arith in
      subst P (sym same) (written_is xs (suc d) y nonzero (omega arith) ∙ sym (written_is ys (suc d) y nonzero (omega arith))))
  | inr other ↦ others_stay xs (suc d) y r other ∙ e ∙ others_stay ys (suc d) x r other ∙ sym (others_stay ys (suc d) y r other)
]

-- ---- writing

-- after so many steps rd has the value v, and the pc is this
pub record Has (p : Program) (n : ℕ) (before : Core) (rd v pc : ℕ) : Type 0 where
  pub after : Core
  pub goes : GoesOn p n before after
  pub written : IsWrittenAt rd v pc before after

pub writes : (p : Program) (n most rd v pc next : ℕ) (before : Core) → 1 ≤ n → n ≤ most → pc ≡ next → Has p n before rd v pc → Writes p most rd v next before
writes p n most rd v pc next before h k e has =
    let Q : ℕ → Type 0 = λ a. IsWrittenAt rd v a before has.after in
    record { count = n; least = h; below = k; after = has.after; goes = has.goes; written = subst Q e has.written }

-- the first instruction that writes
pub has_first : (p : Program) (a rd v : ℕ) (i : Insn) (c : Core) → Holds p a i → c.pc ≡ a → execute p i c ≡ going (advanced (with_reg rd v c)) → Has p 1 c rd v (a + 4)
has_first p a rd v i c h at x = record {
  after = advanced (with_reg rd v c);
  goes = goes_first p 0 a i c (advanced (with_reg rd v c)) (advanced (with_reg rd v c)) h at x refl;
  written = record { pc_is = ap (λ n. n + 4) at; count = length-set_reg c.regs rd v; regs = λ r k. refl; stack = refl; status = refl };
}

-- one more, which reads what rd has
pub has_more : (p : Program) (n a rd x y : ℕ) (i : Insn) (c : Core) → rd < 32 → length c.regs ≡ 32 → Has p n c rd x a → Holds p a i
    → ((d : Core) → (rd ≢ 0 → reg d rd ≡ x) → execute p i d ≡ going (advanced (with_reg rd y d))) → Has p (suc n) c rd y (a + 4)
has_more p n a rd x y i c small long has h f =
    let d : Core = has.after in
    let w : IsWrittenAt rd x a c d = has.written in
    let e : Core = advanced (with_reg rd y d) in
    let read : rd ≢ 0 → reg d rd ≡ x = (λ nonzero. w.regs rd (inr refl) ∙ written_is c.regs rd x nonzero (omega arith)) in
    record {
      after = e;
      goes = goes_last p n a i c d e has.goes h w.pc_is (f d read);
      written = record {
        pc_is = ap (λ m. m + 4) w.pc_is;
        count = length-set_reg d.regs rd y ∙ w.count;
        regs = λ r k. write_again d.regs c.regs rd x y r (w.count ∙ long) long small (w.regs r k);
        stack = w.stack;
        status = w.status;
      };
    }

-- x0 keeps what it has, whatever is written
read_or_none : (rd x : ℕ) (f : ℕ → ℕ) (c : Core) → (rd ≢ 0 → reg c rd ≡ x) → with_reg rd (f (reg c rd)) c ≡ with_reg rd (f x) c
read_or_none zero x f c h = refl
read_or_none (suc r) x f c h = ap (λ v. with_reg (suc r) (f v) c) (h (λ e. omega arith))

-- ---- the instructions that write

pub lui_does : (p : Program) (rd high : ℕ) (c : Core) → execute p (Lui rd high) c ≡ going (advanced (with_reg rd (upper_value high) c))
unfolding execute
lui_does p rd high c = refl

pub auipc_does : (p : Program) (rd high a : ℕ) (c : Core) → c.pc ≡ a → execute p (Auipc rd high) c ≡ going (advanced (with_reg rd ((a + upper_value high) % 2 ^ 64) c))
unfolding execute
auipc_does p rd high a c e = ap (λ pc. going (advanced (with_reg rd ((pc + upper_value high) % 2 ^ 64) c))) e

pub imm_does : (p : Program) (op : ImmOp) (rd x y : ℕ) (imm : ℤ) → imm_value op x (cast_unsigned w64 imm) ≡ y → (c : Core) → (rd ≢ 0 → reg c rd ≡ x) → execute p (Imm op rd rd imm) c ≡ going (advanced (with_reg rd y c))
unfolding execute
imm_does p op rd x y imm e c h = ap (λ d. going (advanced d)) (read_or_none rd x (λ v. imm_value op v (cast_unsigned w64 imm)) c h ∙ ap (λ v. with_reg rd v c) e)

pub shift_does : (p : Program) (op : ShiftOp) (rd x y amount : ℕ) → shift_value op x amount ≡ y → (c : Core) → (rd ≢ 0 → reg c rd ≡ x) → execute p (Shift op rd rd amount) c ≡ going (advanced (with_reg rd y c))
unfolding execute
shift_does p op rd x y amount e c h = ap (λ d. going (advanced d)) (read_or_none rd x (λ v. shift_value op v amount) c h ∙ ap (λ v. with_reg rd v c) e)
