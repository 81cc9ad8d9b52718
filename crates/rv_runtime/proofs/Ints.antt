-- Integers are put as their decimal text.
use Rattle.std.proofs.Common.{◌≡◌, ℕ, suc, ◌-◌, ◌^◌, ◌<◌, ◌≤◌, ℤ, pos, negsuc, int_le, int_lt, true, not, List, [], ◌∷◌, ◌++◌, refl, sym, ap, ◌∙◌, subst, append-nil, arith, leb-true, w64, SFits}
use Rattle.std.proofs.lemmas.Bool.{lt-leb}
use Rattle.std.proofs.lemmas.Int.{to_z-of_z}
use Rattle.std.specs.Int.{cast_signed, cast_unsigned}
use Rattle.std.specs.Fmt.{decimal, signed_decimal}
use Rattle.fy_base.specs.Arithmetic.{is_int}
use Rattle.rv_insn.specs.declared.instructions.RegOp.TheVariants.{Sub}
use Rattle.rv_insn.specs.declared.instructions.BranchOp.TheVariants.{Bge}
use Rattle.rv_insn.specs.Operations.{reg_value, is_taken}
use Rattle.rv_word.specs.declared.micros.Register.TheVariants.{Zero, Datum, Second}
use Rattle.rv_word.specs.declared.micros.Micro.{Micro}
use Rattle.rv_word.specs.declared.micros.Micro.TheVariants.{Set, Alu, Jump, Put}
use Rattle.rv_word.specs.Word.{Data, Code}
use Rattle.rv_runtime.specs.Routines.{put_int, put_magnitude}
use Rattle.rv_runtime.specs.Laws.{HoldsRoutines, Puts, IntsArePut, at_block}
use Rattle.rv_runtime.proofs.Runs.{Comes, at, from, join, wider}
use Rattle.rv_runtime.proofs.Straight.{both, behind_all, straight, jumps, branches, passes}
use Rattle.rv_runtime.proofs.Held.{put_int-is}
use Rattle.rv_runtime.proofs.Digits.{Writes, writes-first}
use Rattle.rv_runtime.proofs.Powers.{writes_magnitude}

-- ---- the range

fits : (z : ℤ) → is_int z ≡ true → SFits w64 z
fits (pos n) h = let le : n ≤ 2 ^ 63 - 1 = leb-true n (2 ^ 63 - 1) h in record { sfits = omega arith }
fits (negsuc n) h =
    let le : n ≤ 2 ^ 63 - 1 = leb-true n (2 ^ 63 - 1) (both (int_le (negsuc (2 ^ 63 - 1)) (negsuc n)) (int_le (negsuc n) (pos (2 ^ 63 - 1))) h).0 in
    record { sfits = omega arith }

-- ---- the sign

bge-zero : (z : ℤ) (x : ℕ) → SFits w64 z → x ≡ cast_unsigned w64 z → is_taken Bge x 0 ≡ not (int_lt z (pos 0))
unfolding is_taken
bge-zero z x f e = ap (λ y. not (int_lt (cast_signed w64 y) (pos 0))) e ∙ ap (λ y. not (int_lt y (pos 0))) (to_z-of_z w64 z f)

negated : (n x : ℕ) → n < 2 ^ 63 → x ≡ cast_unsigned w64 (negsuc n) → reg_value Sub 0 x ≡ suc n
unfolding reg_value
negated n x small e = omega arith

abbrev sign_micros : List Micro
sign_micros = Set Second 45 ∷ Put Second ∷ Alu Sub Datum Zero Datum ∷ []

abbrev rest_micros : List Micro
rest_micros = sign_micros ++ Jump put_magnitude ∷ []

module _ (code : Code) (h : HoldsRoutines code) where
  writes_int : (z : ℤ) (e : Data) → SFits w64 z → e.named.datum ≡ cast_unsigned w64 z → Writes code put_int 600 (signed_decimal z) e
  writes_int (pos n) e f datum =
      let small : n < 2 ^ 63 = f.sfits in
      let comes : Comes code (at_block code put_int e) (at_block code put_magnitude e) 1 3 = from (put_int-is code h) (branches code Bge Datum Zero put_magnitude rest_micros e (bge-zero (pos n) e.named.datum f datum ∙ ap not (lt-leb (suc n) 0 (omega arith)))) in
      writes-first code put_int put_magnitude 3 324 600 [] (decimal n) e e comes (sym (append-nil e.output)) (record { frame = refl; context = refl; top = refl; words = refl; input = refl }) (omega arith) (writes_magnitude code h n e datum (omega arith))
  writes_int (negsuc n) e f datum =
      let small : n < 2 ^ 63 = f.sfits in
      let g : Data = behind_all sign_micros e in
      let pass : Comes code (at_block code put_int e) (at rest_micros e) 1 3 = from (put_int-is code h) (passes code Bge Datum Zero put_magnitude rest_micros e (bge-zero (negsuc n) e.named.datum f datum)) in
      let sign : Comes code (at rest_micros e) (at (Jump put_magnitude ∷ []) g) 3 5 = straight code sign_micros (Jump put_magnitude ∷ []) e refl in
      writes-first code put_int put_magnitude 10 324 600 (45 ∷ []) (decimal (suc n)) e g (wider 1 10 (omega arith) (omega arith) (join pass (join sign (jumps code put_magnitude [] g))))
      refl (record { frame = refl; context = refl; top = refl; words = refl; input = refl }) (omega arith) (writes_magnitude code h (suc n) g (negated n e.named.datum small datum) (omega arith))

-- ---- the law

pub puts : {code : Code} {label most : ℕ} {text : List ℕ} {e : Data} → Writes code label most text e → Puts code label most text e
puts w =
    record {
      after = w.after;
      leads = record { steps = w.comes.steps; some = w.comes.least_is; leads = w.comes.leads; cost = w.comes.cost };
      output = w.output;
      keeps = w.keeps;
    }

pub ints_are_put : IntsArePut
ints_are_put code z text e h range datum is =
    let same : signed_decimal z ≡ text = (cc) in
    subst (λ t. Puts code put_int 600 t e) same (puts (writes_int code h z e (fits z range) datum))
