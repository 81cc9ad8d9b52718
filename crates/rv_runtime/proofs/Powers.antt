-- The search for the greatest power of ten that isn't above a number, and the number's digits.
use Rattle.std.proofs.Common.{◌≡◌, ℕ, zero, suc, ◌+◌, ◌*◌, ◌/◌, ◌^◌, ◌<◌, ◌≤◌, ◌⊎◌, inl, inr, true, false, List, [], ◌∷◌, ◌++◌, refl, sym, ap, ◌∙◌, subst, append-nil, arith, lit<, lt-ltb}
use Rattle.std.proofs.lemmas.Bool.{cases_lt, lt-leb}
use Rattle.std.proofs.Math.Nat.{pow-suc}
use Rattle.std.specs.Fmt.{decimal}
use Rattle.rv_insn.specs.declared.instructions.RegOp.TheVariants.{Mul, Divu}
use Rattle.rv_insn.specs.declared.instructions.BranchOp.TheVariants.{Bltu}
use Rattle.rv_insn.specs.Operations.{reg_value, is_taken}
use Rattle.rv_word.specs.declared.micros.Register.TheVariants.{Datum, First, Second, Third}
use Rattle.rv_word.specs.declared.micros.Micro.{Micro}
use Rattle.rv_word.specs.declared.micros.Micro.TheVariants.{Set, Alu, Jump}
use Rattle.rv_word.specs.Word.{Data, Code}
use Rattle.rv_runtime.specs.Routines.{put_magnitude, find_power, put_digits}
use Rattle.rv_runtime.specs.Laws.{HoldsRoutines, KeepsAll, at_block}
use Rattle.rv_runtime.proofs.Runs.{Comes, at, from, join, wider}
use Rattle.rv_runtime.proofs.Straight.{behind_all, straight, jumps, branches, passes}
use Rattle.rv_runtime.proofs.Held.{put_magnitude-is, find_power-is}
use Rattle.rv_runtime.proofs.Decimal.{digits_from, digits_from-decimal, tens}
use Rattle.rv_runtime.proofs.Digits.{Writes, writes-first, writes_digits, divu-some}

bltu-less : (x y : ℕ) → x < y → is_taken Bltu x y ≡ true
unfolding is_taken
bltu-less x y h = lt-ltb x y h

bltu-more : (x y : ℕ) → y ≤ x → is_taken Bltu x y ≡ false
unfolding is_taken
bltu-more x y h = lt-leb (suc x) y (omega arith)

mul-small : (x y : ℕ) → x * y < 2 ^ 64 → reg_value Mul x y ≡ x * y
unfolding reg_value
mul-small x y h = omega arith

-- First is a power of ten that isn't above the number in Datum, unless it is 1, and Second is a tenth of that number
pub record IsSought (x j : ℕ) (e : Data) : Type 0 where
  pub datum : e.named.datum ≡ x
  pub fits : x < 2 ^ 64
  pub first : e.named.first ≡ 10 ^ j
  pub second : e.named.second ≡ x / 10
  pub third : e.named.third ≡ 10
  pub above : (j ≡ 0) ⊎ (10 ^ j ≤ x)

abbrev raise_micros : List Micro
raise_micros = Alu Mul First First Third ∷ []

abbrev begin_micros : List Micro
begin_micros = Set First 1 ∷ Set Third 10 ∷ Alu Divu Second Datum Third ∷ []

kept : (e f : Data) → f.named.frame ≡ e.named.frame → f.named.context ≡ e.named.context → f.named.top ≡ e.named.top → f.words ≡ e.words → f.input ≡ e.input → KeepsAll e f
kept e f a b c d i = record { frame = a; context = b; top = c; words = d; input = i }

module _ (code : Code) (h : HoldsRoutines code) where
  -- the power is found
  found : (m j x : ℕ) (e : Data) → IsSought x j e → x / 10 < 10 ^ j → j + m ≤ 19 → Writes code find_power (6 * m + 205) (decimal x) e
  found m j x e s less few =
      let comes : Comes code (at_block code find_power e) (at_block code put_digits e) 1 3 = from (find_power-is code h) (branches code Bltu Second First put_digits (Alu Mul First First Third ∷ Jump find_power ∷ []) e (rw (s.second, s.first) (bltu-less (x / 10) (10 ^ j) less))) in
      let below : x < 10 * 10 ^ j = omega arith in
      let digits : Writes code put_digits (10 * suc j + 2) (digits_from j x) e = writes_digits code h j x e (record { datum = s.datum; first = s.first; third = s.third; some = tens j; below = below }) in
      subst (λ text. Writes code find_power (6 * m + 205) text e) (digits_from-decimal j x s.fits below s.above)
      (writes-first code find_power put_digits 3 (10 * suc j + 2) (6 * m + 205) [] (digits_from j x) e e comes (sym (append-nil e.output)) (kept e e refl refl refl refl refl) (omega arith) digits)

  -- a power that isn't above a tenth of the number is raised
  raised : (m j x : ℕ) (e : Data) → IsSought x j e → 10 ^ j ≤ x / 10 → ((f : Data) → IsSought x (suc j) f → Writes code find_power (6 * m + 205) (decimal x) f) → Writes code find_power (6 * suc m + 205) (decimal x) e
  raised m j x e s more on =
      let f : Data = behind_all raise_micros e in
      let pass : Comes code (at_block code find_power e) (at (raise_micros ++ Jump find_power ∷ []) e) 1 3 = from (find_power-is code h) (passes code Bltu Second First put_digits (Alu Mul First First Third ∷ Jump find_power ∷ []) e (rw (s.second, s.first) (bltu-more (x / 10) (10 ^ j) more))) in
      let raise : Comes code (at (raise_micros ++ Jump find_power ∷ []) e) (at (Jump find_power ∷ []) f) 1 1 = straight code raise_micros (Jump find_power ∷ []) e refl in
      let weight : 10 ^ suc j ≡ 10 ^ j * 10 = pow-suc 10 j in
      let fits = s.fits in
      let first : f.named.first ≡ 10 ^ suc j = rw (s.first, s.third) (mul-small (10 ^ j) 10 (omega arith)) ∙ sym weight in
      let sought : IsSought x (suc j) f = record { datum = s.datum; fits = s.fits; first = first; second = s.second; third = s.third; above = inr (omega (arith, weight)) } in
      writes-first code find_power find_power 6 (6 * m + 205) (6 * suc m + 205) [] (decimal x) e f (wider 1 6 (omega arith) (omega arith) (join pass (join raise (jumps code find_power [] f))))
      (sym (append-nil e.output)) (kept e f refl refl refl refl refl) (omega arith) (on f sought)

  pub writes_power : (m j x : ℕ) (e : Data) → IsSought x j e → x / 10 < 10 ^ (j + m) → j + m ≤ 19 → Writes code find_power (6 * m + 205) (decimal x) e
  writes_power zero j x e s near few =
      let same : 10 ^ (j + zero) ≡ 10 ^ j = (let z : j + zero ≡ j = omega arith in ap (λ k. 10 ^ k) z) in
      found zero j x e s (omega (arith, same)) few
  writes_power (suc m) j x e s near few =
      let same : 10 ^ (j + suc m) ≡ 10 ^ (suc j + m) = (let z : j + suc m ≡ suc j + m = omega arith in ap (λ k. 10 ^ k) z) in
      elim (cases_lt (x / 10) (10 ^ j)) [
        | inl less ↦ found (suc m) j x e s less few
        | inr more ↦ raised m j x e s more (λ f t. writes_power m (suc j) x f t (omega (arith, same)) (omega arith))
      ]

  -- a number without sign
  pub writes_magnitude : (x : ℕ) (e : Data) → e.named.datum ≡ x → x < 2 ^ 64 → Writes code put_magnitude 324 (decimal x) e
  writes_magnitude x e datum fits =
      let f : Data = behind_all begin_micros e in
      let begin : Comes code (at_block code put_magnitude e) (at (Jump find_power ∷ []) f) 3 3 = from (put_magnitude-is code h) (straight code begin_micros (Jump find_power ∷ []) e refl) in
      let second : f.named.second ≡ x / 10 = rw datum (divu-some x 10 (lit< tt)) in
      let sought : IsSought x 0 f = record { datum = datum; fits = fits; first = refl; second = second; third = refl; above = inl refl } in
      writes-first code put_magnitude find_power 5 319 324 [] (decimal x) e f (wider 1 5 (omega arith) (omega arith) (join begin (jumps code find_power [] f))) (sym (append-nil e.output)) (kept e f refl refl refl refl refl) (omega arith)
      (writes_power 19 0 x f sought (omega arith) (omega arith))
