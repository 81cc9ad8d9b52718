-- The loop that puts digits.
use Rattle.std.proofs.Common.{◌≡◌, ◌≢◌, ℕ, zero, suc, ◌+◌, ◌*◌, ◌/◌, ◌%◌, ◌^◌, ◌<◌, ◌≤◌, pos, true, false, not, List, [], ◌∷◌, ◌++◌, refl, ap, ◌∙◌, append_assoc, arith, lit<, eq-eqb, ne_eqb}
use Rattle.std.proofs.Math.Nat.{pow-suc}
use Rattle.std.proofs.lemmas.Nat.{div_below, mod_below}
use Rattle.rv_insn.specs.declared.instructions.RegOp.TheVariants.{Divu, Remu}
use Rattle.rv_insn.specs.declared.instructions.ImmOp.TheVariants.{Addi}
use Rattle.rv_insn.specs.declared.instructions.BranchOp.TheVariants.{Bne}
use Rattle.rv_insn.specs.Operations.{reg_value, imm_value, is_taken}
use Rattle.rv_word.specs.declared.micros.Register.TheVariants.{Zero, Datum, First, Second, Third}
use Rattle.rv_word.specs.declared.micros.Micro.{Micro}
use Rattle.rv_word.specs.declared.micros.Micro.TheVariants.{Imm, Alu, Test, Jump, Put}
use Rattle.rv_word.specs.Word.{Data, Code}
use Rattle.rv_runtime.specs.Routines.{meet, put_digits}
use Rattle.rv_runtime.specs.Laws.{HoldsRoutines, KeepsAll, at_block}
use Rattle.rv_runtime.proofs.Runs.{Comes, at, from, join, wider}
use Rattle.rv_runtime.proofs.Straight.{behind_all, straight, jumps, branches, passes}
use Rattle.rv_runtime.proofs.Held.{put_digits-is}
use Rattle.rv_runtime.proofs.Decimal.{digits_from, tens}

-- ---- a text is put

pub record Writes (code : Code) (label most : ℕ) (text : List ℕ) (before : Data) : Type 0 where
  pub after : Data
  pub comes : Comes code (at_block code label before) (at_block code meet after) 1 most
  pub output : after.output ≡ before.output ++ text
  pub keeps : KeepsAll before after

pub keeps-also : {d e f : Data} → KeepsAll d e → KeepsAll e f → KeepsAll d f
keeps-also p q =
    record { frame = q.frame ∙ p.frame; context = q.context ∙ p.context; top = q.top ∙ p.top; words = q.words ∙ p.words; input = q.input ∙ p.input }

-- a part of the text is put on the way to another block, which puts the rest
pub writes-first : (code : Code) (label next cost most bound : ℕ) (part text : List ℕ) (e f : Data) → Comes code (at_block code label e) (at_block code next f) 1 cost → f.output ≡ e.output ++ part → KeepsAll e f → cost + most ≤ bound
    → Writes code next most text f → Writes code label bound (part ++ text) e
writes-first code label next cost most bound part text e f comes output keeps high w =
    record {
      after = w.after;
      comes = wider 1 bound (omega arith) high (join comes w.comes);
      output = w.output ∙ ap (λ l. l ++ text) output ∙ append_assoc e.output part text;
      keeps = keeps-also keeps w.keeps;
    }

-- ---- operations

pub divu-some : (x y : ℕ) → 0 < y → reg_value Divu x y ≡ x / y
unfolding reg_value
divu-some x y some = grind arith

remu-some : (x y : ℕ) → 0 < y → reg_value Remu x y ≡ x % y
unfolding reg_value
remu-some x y some = grind arith

ascii : (d : ℕ) → d < 10 → imm_value Addi d 48 % 256 ≡ d + 48
unfolding imm_value
ascii d small = omega arith

pub bne-same : (x y : ℕ) → x ≡ y → is_taken Bne x y ≡ false
unfolding is_taken
bne-same x y e = ap not (eq-eqb x y e)

pub bne-other : (x y : ℕ) → x ≢ y → is_taken Bne x y ≡ true
unfolding is_taken
bne-other x y e = ap not (ne_eqb x y e)

-- ---- one digit

abbrev turn_micros : List Micro
turn_micros = Alu Divu Second Datum First ∷ Imm Addi Second Second (pos 48) ∷ Put Second ∷ Alu Remu Datum Datum First ∷ Alu Divu First First Third ∷ []

abbrev end_micros : List Micro
end_micros = Test Bne First Zero put_digits ∷ Jump meet ∷ []

-- x is left, and y is the weight of its highest digit
pub record IsLeft (x y : ℕ) (e : Data) : Type 0 where
  pub datum : e.named.datum ≡ x
  pub first : e.named.first ≡ y
  pub third : e.named.third ≡ 10
  pub some : 0 < y
  pub below : x < 10 * y

record IsTurned (x y : ℕ) (e f : Data) : Type 0 where
  datum : f.named.datum ≡ x % y
  first : f.named.first ≡ y / 10
  third : f.named.third ≡ 10
  output : f.output ≡ e.output ++ (x / y + 48) ∷ []
  keeps : KeepsAll e f

turned : (x y : ℕ) (e : Data) → IsLeft x y e → IsTurned x y e (behind_all turn_micros e)
turned x y e l =
    let digit : x / y < 10 = div_below x y 10 l.some l.below in
    record {
      datum = rw (l.datum, l.first) (remu-some x y l.some);
      first = rw (l.first, l.third) (divu-some y 10 (lit< tt));
      third = l.third;
      output = rw (l.datum, l.first, divu-some x y l.some) (ap (λ d. e.output ++ d ∷ []) (ascii (x / y) digit));
      keeps = record { frame = refl; context = refl; top = refl; words = refl; input = refl };
    }

-- ---- the loop

lower_weight : (k : ℕ) → 10 ^ suc k / 10 ≡ 10 ^ k
lower_weight k = let e : 10 ^ suc k ≡ 10 ^ k * 10 = pow-suc 10 k in omega (arith, e)

module _ (code : Code) (h : HoldsRoutines code) where
  pub writes_digits : (k x : ℕ) (e : Data) → IsLeft x (10 ^ k) e → Writes code put_digits (10 * suc k + 2) (digits_from k x) e
  writes_digits zero x e l =
      let f : Data = behind_all turn_micros e in
      let t : IsTurned x 1 e f = turned x 1 e l in
      let turn : Comes code (at_block code put_digits e) (at end_micros f) 5 7 = from (put_digits-is code h) (straight code turn_micros end_micros e refl) in
      let last : Comes code (at end_micros f) (at_block code meet f) 2 5 = join (passes code Bne First Zero put_digits (Jump meet ∷ []) f (bne-same f.named.first 0 t.first)) (jumps code meet [] f) in
      let one : x / 1 + 48 ≡ x + 48 = omega arith in
      record {
        after = f;
        comes = wider 1 12 (omega arith) (omega arith) (join turn last);
        output = t.output ∙ ap (λ d. e.output ++ d ∷ []) one;
        keeps = t.keeps;
      }
  writes_digits (suc k) x e l =
      let f : Data = behind_all turn_micros e in
      let t : IsTurned x (10 ^ suc k) e f = turned x (10 ^ suc k) e l in
      let turn : Comes code (at_block code put_digits e) (at end_micros f) 5 7 = from (put_digits-is code h) (straight code turn_micros end_micros e refl) in
      let first : f.named.first ≡ 10 ^ k = t.first ∙ lower_weight k in
      let one : 1 ≤ 10 ^ k = tens k in
      let weight : 10 ^ suc k ≡ 10 ^ k * 10 = pow-suc 10 k in
      let small : x % 10 ^ suc k < 10 ^ suc k = mod_below x (10 ^ suc k) (tens (suc k)) in
      let again : Comes code (at end_micros f) (at_block code put_digits f) 1 3 = branches code Bne First Zero put_digits (Jump meet ∷ []) f (bne-other f.named.first 0 (λ z. omega (arith, z))) in
      let left : IsLeft (x % 10 ^ suc k) (10 ^ k) f = record { datum = t.datum; first = first; third = t.third; some = one; below = omega (arith, weight, small) } in
      writes-first code put_digits put_digits 10 (10 * suc k + 2) (10 * suc (suc k) + 2) ((x / 10 ^ suc k + 48) ∷ []) (digits_from k (x % 10 ^ suc k)) e f
      (wider 1 10 (omega arith) (omega arith) (join turn again)) t.output t.keeps (omega arith) (writes_digits k (x % 10 ^ suc k) f left)
