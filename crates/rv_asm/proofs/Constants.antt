-- The forms of constants write them.
use Rattle.std.proofs.Common.{◌≡◌, ℕ, suc, ◌+◌, ◌*◌, ◌/◌, ◌%◌, ◌^◌, ◌<◌, ℤ, pos, [], ◌∷◌, length, Bool, true, false, refl, ap, ◌∙◌, subst, arith, lit≤, if◌then◌else◌}
use Rattle.std.specs.Int.{cast_unsigned, w64}
use Rattle.rv_insn.specs.declared.instructions.ImmOp.TheVariants.{Addi, Addiw}
use Rattle.rv_insn.specs.declared.instructions.ShiftOp.TheVariants.{Slli}
use Rattle.rv_insn.specs.declared.instructions.Insn.TheVariants.{Imm, Shift, Lui}
use Rattle.rv_insn.specs.Operations.{imm_value, shift_value, sign_extended, upper_value}
use Rattle.rv_insn.specs.Program.{Program}
use Rattle.rv_insn.specs.Step.{Core, reg, with_reg, advanced, going, execute}
use Rattle.rv_asm.specs.Meaning.{Writes}
use Rattle.rv_asm.specs.Forms.{has_bits, constant_words}
use Rattle.rv_asm.specs.Choosing.{upper_part, lower_part, word_form, double_form, constant_form}
use Rattle.rv_asm.proofs.Numbers.{word_is, few_bits, word_bits, built_32, built_43, built_54, first_more, second_more, last_more}
use Rattle.rv_asm.proofs.Steps.{Holds, Stands, Has, writes, has_first, has_more, lui_does, imm_does, shift_does}

-- 12 bits from x0
few_does : (p : Program) (rd v : ℕ) (imm : ℤ) (c : Core) → reg c 0 ≡ 0 → imm_value Addi 0 (cast_unsigned w64 imm) ≡ v → execute p (Imm Addi rd 0 imm) c ≡ going (advanced (with_reg rd v c))
unfolding execute
few_does p rd v imm c z e = ap (λ x. going (advanced (with_reg rd (imm_value Addi x (cast_unsigned w64 imm)) c))) z ∙ ap (λ y. going (advanced (with_reg rd y c))) e

few_has : (p : Program) (rd a : ℕ) (value : ℤ) (c : Core) → reg c 0 ≡ 0 → Stands p a (Imm Addi rd 0 value ∷ []) → c.pc ≡ a → has_bits 12 value ≡ true → Has p 1 c rd (cast_unsigned w64 value) (a + 4)
few_has p rd a value c z s at h = has_first p a rd (cast_unsigned w64 value) (Imm Addi rd 0 value) c s.0 at (few_does p rd (cast_unsigned w64 value) value c z (few_bits value h))

-- 32 bits
word_has : (p : Program) (rd a n : ℕ) (c : Core) → rd < 32 → length c.regs ≡ 32 → Holds p a (Lui rd (upper_part n)) → Holds p (a + 4) (Imm Addiw rd rd (lower_part n)) → c.pc ≡ a → Has p 2 c rd (sign_extended 32 n) (a + 4 + 4)
word_has p rd a n c small count h1 h2 at =
    let x : ℕ = upper_value (upper_part n) in
    let first : Has p 1 c rd x (a + 4) = has_first p a rd x (Lui rd (upper_part n)) c h1 at (lui_does p rd (upper_part n) c) in
    has_more p 1 (a + 4) rd x (sign_extended 32 n) (Imm Addiw rd rd (lower_part n)) c small count first h2 (imm_does p Addiw rd x (sign_extended 32 n) (lower_part n) (word_is n))

-- more bits behind those that the register has
digit_has : (p : Program) (n rd a x y amount v : ℕ) (c : Core) → rd < 32 → length c.regs ≡ 32 → Has p n c rd x a → Holds p a (Shift Slli rd rd amount) → Holds p (a + 4) (Imm Addi rd rd (pos v))
    → imm_value Addi (shift_value Slli x amount) (cast_unsigned w64 (pos v)) ≡ y → Has p (suc (suc n)) c rd y (a + 4 + 4)
digit_has p n rd a x y amount v c small count has h1 h2 e =
    let moved : ℕ = shift_value Slli x amount in
    let one : Has p (suc n) c rd moved (a + 4) = has_more p n a rd x moved (Shift Slli rd rd amount) c small count has h1 (shift_does p Slli rd x moved amount refl) in
    has_more p (suc n) (a + 4) rd moved y (Imm Addi rd rd (pos v)) c small count one h2 (imm_does p Addi rd moved y (pos v) e)

double_has : (p : Program) (rd a n : ℕ) (c : Core) → rd < 32 → length c.regs ≡ 32 → n < 2 ^ 64 → Stands p a (double_form rd n) → c.pc ≡ a → Has p 8 c rd n (a + 4 + 4 + 4 + 4 + 4 + 4 + 4 + 4)
double_has p rd a n c small count fits s at =
    let h2 : Has p 2 c rd (built_32 n) (a + 4 + 4) = word_has p rd a (n / 2 ^ 32) c small count s.0 s.1.0 at in
    let h4 : Has p 4 c rd (built_43 n) (a + 4 + 4 + 4 + 4) = digit_has p 2 rd _ (built_32 n) (built_43 n) 11 (n / 2 ^ 21 % 2 ^ 11) c small count h2 s.1.1.0 s.1.1.1.0 (first_more n fits) in
    let h6 : Has p 6 c rd (built_54 n) (a + 4 + 4 + 4 + 4 + 4 + 4) = digit_has p 4 rd _ (built_43 n) (built_54 n) 11 (n / 2 ^ 10 % 2 ^ 11) c small count h4 s.1.1.1.1.0 s.1.1.1.1.1.0 (second_more n fits) in
    digit_has p 6 rd _ (built_54 n) n 10 (n % 2 ^ 10) c small count h6 s.1.1.1.1.1.1.0 s.1.1.1.1.1.1.1.0 (last_more n fits)

-- ---- any constant

word_writes : (p : Program) (rd a next : ℕ) (value : ℤ) (c : Core) → rd < 32 → length c.regs ≡ 32 → Stands p a (word_form rd (cast_unsigned w64 value % 2 ^ 32)) → c.pc ≡ a → a + 8 ≡ next → has_bits 32 value ≡ true
    → Writes p 2 rd (cast_unsigned w64 value) next c
word_writes p rd a next value c small count s at e h =
    let n : ℕ = cast_unsigned w64 value % 2 ^ 32 in
    let Q : ℕ → Type 0 = λ v. Has p 2 c rd v (a + 4 + 4) in
    writes p 2 2 rd (cast_unsigned w64 value) (a + 4 + 4) next c (lit≤ tt) (lit≤ tt) (omega arith) (subst Q (word_bits value h) (word_has p rd a n c small count s.0 s.1.0 at))

many_by : (p : Program) (rd a next : ℕ) (value : ℤ) (word : Bool) (c : Core) → rd < 32 → length c.regs ≡ 32 → cast_unsigned w64 value < 2 ^ 64 → has_bits 32 value ≡ word
    → Stands p a (if word then word_form rd (cast_unsigned w64 value % 2 ^ 32) else double_form rd (cast_unsigned w64 value)) → c.pc ≡ a
    → a + 4 * length (if word then word_form rd (cast_unsigned w64 value % 2 ^ 32) else double_form rd (cast_unsigned w64 value)) ≡ next → Writes p (if word then 2 else 8) rd (cast_unsigned w64 value) next c
many_by p rd a next value true c small count fits h s at e = word_writes p rd a next value c small count s at e h
many_by p rd a next value false c small count fits h s at e =
    writes p 8 8 rd (cast_unsigned w64 value) _ next c (lit≤ tt) (lit≤ tt) (omega arith) (double_has p rd a (cast_unsigned w64 value) c small count fits s at)

constant_by : (p : Program) (rd a next : ℕ) (value : ℤ) (few : Bool) (c : Core) → rd < 32 → length c.regs ≡ 32 → reg c 0 ≡ 0 → cast_unsigned w64 value < 2 ^ 64 → has_bits 12 value ≡ few
    → Stands p a (if few then Imm Addi rd 0 value ∷ [] else (if has_bits 32 value then word_form rd (cast_unsigned w64 value % 2 ^ 32) else double_form rd (cast_unsigned w64 value))) → c.pc ≡ a
    → a + 4 * length (if few then Imm Addi rd 0 value ∷ [] else (if has_bits 32 value then word_form rd (cast_unsigned w64 value % 2 ^ 32) else double_form rd (cast_unsigned w64 value))) ≡ next
    → Writes p (if few then 1 else (if has_bits 32 value then 2 else 8)) rd (cast_unsigned w64 value) next c
constant_by p rd a next value true c small count z fits h s at e =
    writes p 1 1 rd (cast_unsigned w64 value) (a + 4) next c (lit≤ tt) (lit≤ tt) (omega arith) (few_has p rd a value c z s at h)
constant_by p rd a next value false c small count z fits h s at e = many_by p rd a next value (has_bits 32 value) c small count fits refl s at e

pub constant_does : (p : Program) (rd a next : ℕ) (value : ℤ) (c : Core) → rd < 32 → length c.regs ≡ 32 → reg c 0 ≡ 0 → cast_unsigned w64 value < 2 ^ 64 → Stands p a (constant_form rd value) → c.pc ≡ a
    → a + 4 * length (constant_form rd value) ≡ next → Writes p (constant_words value) rd (cast_unsigned w64 value) next c
constant_does p rd a next value c small count z fits s at e = constant_by p rd a next value (has_bits 12 value) c small count z fits refl s at e
