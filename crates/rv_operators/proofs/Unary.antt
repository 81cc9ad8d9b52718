-- The unary operators.
use Rattle.std.proofs.Common.{◌≡◌, ℕ, suc, ◌+◌, ◌-◌, ◌^◌, ℤ, pos, negsuc, ◌-ℤ◌, Bool, true, false, not, nat_lt, refl, ap, ◌∙◌, slice_index, arith, lit<, lit≤, le-ltb}
use Rattle.std.specs.Int.{cast_unsigned, w64}
use Rattle.std.proofs.lemmas.Bool.{cond_both}
use Rattle.fy_base.specs.declared.data.Datum.{Datum}
use Rattle.fy_base.specs.declared.data.Datum.TheVariants as datum
use Rattle.fy_base.specs.declared.data.UnOp.{UnOp}
use Rattle.fy_base.specs.declared.data.UnOp.TheVariants.{Neg, Not, Ord, Chr}
use Rattle.fy_base.specs.declared.data.FaultKind.TheVariants.{Overflow, Range}
use Rattle.fy_base.specs.declared.arithmetic.Applied.TheVariants.{Gives, Faults}
use Rattle.fy_base.specs.Arithmetic.{is_int, unary_result}
use Rattle.rv_insn.specs.Operations.{truth}
use Rattle.rv_word.specs.Word.{Data, Code}
use Rattle.rv_operators.specs.Operators.{unary_label, unary_work, unary_block}
use Rattle.rv_operators.specs.Laws.{HoldsOperators, at_block, IsMeeting, KeepsAll, MakesDatum, ComesTo}
use Rattle.rv_operators.proofs.Blocks.{Comes, block_comes, leads_from}
use Rattle.rv_operators.proofs.Numbers.{fits, turned}
use Rattle.rv_operators.proofs.Sums.{difference_is, negative_is_passed, negative_is_taken}
use Rattle.rv_operators.proofs.Comparisons.{below_number, none_is_taken, one_is_passed}
use Rattle.rv_operators.proofs.Contexts.{one_is, least_is, operand, operand_or_fault, made, faults_next}

module _ (code : Code) (first meet : ℕ) (held : HoldsOperators code first meet) (e : Data) (c entry outside : ℕ) where
  abbrev Makes : Datum → ℕ → Data → Type 0
  Makes w label f = Comes code 0 0 (at_block code label f) meet (MakesDatum c outside w e)

  abbrev FaultsAt : ℕ → ℕ → Data → Type 0
  FaultsAt j label f = Comes code 0 10 (at_block code label f) (slice_index code.entries (j + 1)) (KeepsAll e)

  abbrev Result : UnOp → Datum → Type 0
  Result op v = ComesTo code (unary_label first op) meet c entry outside (λ kind. 1) e (unary_result op v)

  negated : (x : ℤ) → IsMeeting e c 2 entry outside (datum.Int x) → Result Neg (datum.Int x)
  negated x h =
      cond_both (is_int (pos 0 -ℤ x)) (Gives (datum.Int (pos 0 -ℤ x))) (Faults Overflow) (ComesTo code (first + 2) meet c entry outside (λ kind. 1) e)
      (λ is.
      let z = pos 0 -ℤ x in
      leads_from code (first + 2) meet e (MakesDatum c outside (datum.Int z) e)
      (block_comes code meet (MakesDatum c outside (datum.Int z) e) 0 60 (first + 2) (unary_block first meet Neg) e (held.blocks 2 (lit< tt)) (lit≤ tt)
      (operand_or_fault code (Makes (datum.Int z)) (unary_work first meet Neg) e c entry outside (datum.Int x) h (
        1,
        one_is,
        (
          2 ^ 63,
          least_is,
          (
            false,
            negative_is_passed x h.fits is,
            (cast_unsigned w64 z, difference_is (pos 0) x refl h.fits is, made code 0 meet e c outside (2 ^ 63) e.named.second entry (datum.Int z)),
          ),
        ),
      ))))
      (λ is j here within.
      leads_from code (first + 2) (slice_index code.entries (j + 1)) e (KeepsAll e)
      (block_comes code (slice_index code.entries (j + 1)) (KeepsAll e) 10 60 (first + 2) (unary_block first meet Neg) e (held.blocks 2 (lit< tt)) (lit≤ tt)
      (operand_or_fault code (FaultsAt j) (unary_work first meet Neg) e c entry outside (datum.Int x) h (
        1,
        one_is,
        (
          2 ^ 63,
          least_is,
          (
            true,
            negative_is_taken x h.fits is,
            faults_next code first meet e c outside entry j (cast_unsigned w64 x) (2 ^ 63) e.named.second held here within,
          ),
        ),
      ))))

  turned_truth : (b : Bool) → IsMeeting e c 2 entry outside (datum.Bool b) → Result Not (datum.Bool b)
  turned_truth b h =
      leads_from code (first + 3) meet e (MakesDatum c outside (datum.Bool (not b)) e)
      (block_comes code meet (MakesDatum c outside (datum.Bool (not b)) e) 0 60 (first + 3) (unary_block first meet Not) e (held.blocks 3 (lit< tt)) (lit≤ tt)
      (operand code (Makes (datum.Bool (not b))) (unary_work first meet Not) e c entry outside (datum.Bool b) h
      (truth (not b), turned b, made code 0 meet e c outside e.named.first e.named.second e.named.third (datum.Bool (not b)))))

  numbered : (n : ℕ) → IsMeeting e c 2 entry outside (datum.Char n) → Result Ord (datum.Char n)
  numbered n h =
      leads_from code (first + 4) meet e (MakesDatum c outside (datum.Int (pos n)) e)
      (block_comes code meet (MakesDatum c outside (datum.Int (pos n)) e) 0 60 (first + 4) (unary_block first meet Ord) e (held.blocks 4 (lit< tt)) (lit≤ tt)
      (operand code (Makes (datum.Int (pos n))) (unary_work first meet Ord) e c entry outside (datum.Char n) h
      (made code 0 meet e c outside e.named.first e.named.second e.named.third (datum.Int (pos n)))))

  -- the number is no character's
  outside_chars : (x : ℤ) → IsMeeting e c 2 entry outside (datum.Int x) → nat_lt (cast_unsigned w64 x) 256 ≡ false
      → ComesTo code (first + 5) meet c entry outside (λ kind. 1) e (Faults Range)
  outside_chars x h is j here within =
      leads_from code (first + 5) (slice_index code.entries (j + 1)) e (KeepsAll e)
      (block_comes code (slice_index code.entries (j + 1)) (KeepsAll e) 10 60 (first + 5) (unary_block first meet Chr) e (held.blocks 5 (lit< tt)) (lit≤ tt)
      (operand_or_fault code (FaultsAt j) (unary_work first meet Chr) e c entry outside (datum.Int x) h (
        truth false,
        below_number (cast_unsigned w64 x) 256 ∙ ap truth is,
        (
          true,
          none_is_taken,
          faults_next code first meet e c outside entry j (cast_unsigned w64 x) (truth false) e.named.second held here within,
        ),
      )))

  made_char : (x : ℤ) → IsMeeting e c 2 entry outside (datum.Int x) → Result Chr (datum.Int x)
  made_char (pos n) h =
      cond_both (nat_lt n 256) (Gives (datum.Char n)) (Faults Range) (ComesTo code (first + 5) meet c entry outside (λ kind. 1) e)
      (λ is.
      leads_from code (first + 5) meet e (MakesDatum c outside (datum.Char n) e)
      (block_comes code meet (MakesDatum c outside (datum.Char n) e) 0 60 (first + 5) (unary_block first meet Chr) e (held.blocks 5 (lit< tt)) (lit≤ tt)
      (operand_or_fault code (Makes (datum.Char n)) (unary_work first meet Chr) e c entry outside (datum.Int (pos n)) h
      (truth true, below_number n 256 ∙ ap truth is, (false, one_is_passed, made code 0 meet e c outside (truth true) e.named.second entry (datum.Char n))))))
      (λ is. outside_chars (pos n) h is)
  made_char (negsuc n) h = let small = (fits (negsuc n) h.fits).sfits in outside_chars (negsuc n) h (le-ltb (2 ^ 64 - suc n) 256 (omega arith))

  pub unary_works : (op : UnOp) (v : Datum) → IsMeeting e c 2 entry outside v → Result op v
  unary_works Neg (datum.Int x) h = negated x h
  unary_works Not (datum.Bool b) h = turned_truth b h
  unary_works Ord (datum.Char n) h = numbered n h
  unary_works Chr (datum.Int x) h = made_char x h
  unary_works op v h = tt
