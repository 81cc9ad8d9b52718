-- The binary operators.
use Rattle.std.proofs.Common.{◌≡◌, ℕ, ◌+◌, ◌*◌, ◌^◌, ◌<◌, ◌≤◌, ℤ, pos, negsuc, ◌+ℤ◌, ◌-ℤ◌, ◌*ℤ◌, Bool, true, false, not, ◌&&◌, ◌||◌, ◌==◌, nat_lt, nat_le, int_lt, int_le, int_div, int_rem, int_eq, List, refl, sym, ap, ◌∙◌, subst, length, slice_index, arith, lit<, lit≤, eq-eqb}
use Rattle.std.specs.Int.{cast_unsigned, w64}
use Rattle.std.proofs.lemmas.Bool.{cond_both, both_ways}
use Rattle.fy_base.specs.declared.data.Datum.{Datum}
use Rattle.fy_base.specs.declared.data.Datum.TheVariants as datum
use Rattle.fy_base.specs.declared.data.BinOp.{BinOp}
use Rattle.fy_base.specs.declared.data.BinOp.TheVariants.{Add, Sub, Mul, Div, Rem, Eq, Ne, Lt, Le, Gt, Ge, And, Or}
use Rattle.fy_base.specs.declared.data.FaultKind.TheVariants.{Overflow, Zero}
use Rattle.fy_base.specs.declared.arithmetic.Applied.{Applied}
use Rattle.fy_base.specs.declared.arithmetic.Applied.TheVariants.{Gives, Faults}
use Rattle.fy_base.specs.Arithmetic.{is_int, int_or_overflow, int_result, char_result, bool_result, binary_result, same_truth}
use Rattle.rv_insn.specs.declared.instructions.RegOp.TheVariants as reg
use Rattle.rv_insn.specs.declared.instructions.ImmOp.TheVariants.{Addi, Sltiu}
use Rattle.rv_insn.specs.declared.instructions.ShiftOp.TheVariants.{Srai}
use Rattle.rv_insn.specs.declared.instructions.BranchOp.TheVariants.{Beq}
use Rattle.rv_insn.specs.Operations.{truth, reg_value, imm_value, shift_value, is_taken}
use Rattle.rv_word.specs.declared.micros.Micro.{Micro}
use Rattle.rv_word.specs.Word.{Data, Code, block}
use Rattle.rv_word.specs.Costs.{block_cost}
use Rattle.rv_operators.specs.Operators.{word_of, binary_label, binary_work, binary_block, by_minus_one_block, fault_number}
use Rattle.rv_operators.specs.Laws.{HoldsOperators, at_block, IsMeetingTwo, Leads, KeepsAll, MakesDatum, ComesTo}
use Rattle.rv_operators.proofs.Blocks.{Comes, Needs, block_comes, from_zero, leads_from}
use Rattle.rv_operators.proofs.Numbers.{word_below, signed_word, less_words, negative_word, not_ltb, not_less, turned, same_is_passed, other_is_taken, unequal_is}
use Rattle.rv_operators.proofs.Sums.{sum_is, sum_less, sum_overflows, difference_is, difference_less, difference_overflows}
use Rattle.rv_operators.proofs.Products.{product_fits, product_overflows}
use Rattle.rv_operators.proofs.Quotients.{zero_is, quotient_is, remainder_is, minus_one_taken, minus_one_is_taken, quotient_fits, least_is_passed, least_is_taken}
use Rattle.rv_operators.proofs.Comparisons.{equal_words, unequal_words, equal_int_words, unequal_int_words, equal_truths, unequal_truths, less_chars, both_truths, either_truth}
use Rattle.rv_operators.proofs.Contexts.{moved, one_is, least_is, left, operands, operands_or_fault, made, faults_next, faults_after}

module _ (code : Code) (first meet : ℕ) (held : HoldsOperators code first meet) (e : Data) (c entry outside : ℕ) where
  abbrev Makes : ℕ → Datum → ℕ → Data → Type 0
  Makes most w label f = Comes code 0 most (at_block code label f) meet (MakesDatum c outside w e)

  abbrev FaultsAt : ℕ → ℕ → ℕ → Data → Type 0
  FaultsAt most k label f = Comes code 0 most (at_block code label f) (slice_index code.entries k) (KeepsAll e)

  abbrev Outcome : BinOp → Applied → Type 0
  Outcome op = ComesTo code (binary_label first op) meet c entry outside (fault_number op) e

  -- a block that makes a datum, and one that faults
  makes : (k most : ℕ) (micros : List Micro) (w : Datum) → block code (first + k) ≡ micros → block_cost micros + most ≤ 60 → Needs code (Makes most w) micros e
      → Leads code (first + k) meet e (MakesDatum c outside w e)
  makes k most micros w is le n =
      leads_from code (first + k) meet e (MakesDatum c outside w e)
      (block_comes code meet (MakesDatum c outside w e) most 60 (first + k) micros e is le n)

  faults : (k most j : ℕ) (micros : List Micro) → block code (first + k) ≡ micros → block_cost micros + most ≤ 60 → Needs code (FaultsAt most j) micros e
      → Leads code (first + k) (slice_index code.entries j) e (KeepsAll e)
  faults k most j micros is le n =
      leads_from code (first + k) (slice_index code.entries j) e (KeepsAll e)
      (block_comes code (slice_index code.entries j) (KeepsAll e) most 60 (first + k) micros e is le n)

  -- ---- sums, differences and products

  added : (x y : ℤ) → IsMeetingTwo e c entry outside (datum.Int x) (datum.Int y) → Outcome Add (int_result Add x y)
  added x y two =
      let z = x +ℤ y in
      let f = two.left_fits in
      let g = two.right.fits in
      let p = cast_unsigned w64 x in
      let q = cast_unsigned w64 y in
      let negative = int_lt y (pos 0) in
      cond_both (is_int z) (Gives (datum.Int z)) (Faults Overflow) (Outcome Add)
      (λ is. makes 6 0 (binary_block first meet Add) (datum.Int z) (held.blocks 6 (lit< tt)) (lit≤ tt)
      (operands_or_fault code (Makes 0 (datum.Int z)) (binary_work first meet Add) e c entry outside (datum.Int x) (datum.Int y) two (
        cast_unsigned w64 z,
        sum_is x y f g is,
        (
          truth negative,
          less_words (cast_unsigned w64 z) p z x (signed_word z is) (signed_word x f) ∙ ap truth (sum_less x y),
          (
            truth negative,
            negative_word q y (signed_word y g),
            (
              false,
              same_is_passed negative,
              (cast_unsigned w64 z, moved (cast_unsigned w64 z) (cast_unsigned w64 z) refl (word_below z is), made code 0 meet e c outside (truth negative) (cast_unsigned w64 z) entry (datum.Int z)),
            ),
          ),
        ),
      )))
      (λ is j here within. faults 6 10 (j + 1) (binary_block first meet Add) (held.blocks 6 (lit< tt)) (lit≤ tt)
      (operands_or_fault code (FaultsAt 10 (j + 1)) (binary_work first meet Add) e c entry outside (datum.Int x) (datum.Int y) two (
        reg_value reg.Add p q,
        refl,
        (
          truth (not negative),
          sum_overflows x y f g is,
          (
            truth negative,
            negative_word q y (signed_word y g),
            (true, other_is_taken negative, faults_next code first meet e c outside entry j (truth negative) (truth (not negative)) (reg_value reg.Add p q) held here within),
          ),
        ),
      )))

  subtracted : (x y : ℤ) → IsMeetingTwo e c entry outside (datum.Int x) (datum.Int y) → Outcome Sub (int_result Sub x y)
  subtracted x y two =
      let z = x -ℤ y in
      let f = two.left_fits in
      let g = two.right.fits in
      let p = cast_unsigned w64 x in
      let q = cast_unsigned w64 y in
      let positive = int_lt (pos 0) y in
      cond_both (is_int z) (Gives (datum.Int z)) (Faults Overflow) (Outcome Sub)
      (λ is. makes 7 0 (binary_block first meet Sub) (datum.Int z) (held.blocks 7 (lit< tt)) (lit≤ tt)
      (operands_or_fault code (Makes 0 (datum.Int z)) (binary_work first meet Sub) e c entry outside (datum.Int x) (datum.Int y) two (
        cast_unsigned w64 z,
        difference_is x y f g is,
        (
          truth positive,
          less_words (cast_unsigned w64 z) p z x (signed_word z is) (signed_word x f) ∙ ap truth (difference_less x y),
          (
            truth positive,
            less_words 0 q (pos 0) y refl (signed_word y g),
            (
              false,
              same_is_passed positive,
              (cast_unsigned w64 z, moved (cast_unsigned w64 z) (cast_unsigned w64 z) refl (word_below z is), made code 0 meet e c outside (truth positive) (cast_unsigned w64 z) entry (datum.Int z)),
            ),
          ),
        ),
      )))
      (λ is j here within. faults 7 10 (j + 1) (binary_block first meet Sub) (held.blocks 7 (lit< tt)) (lit≤ tt)
      (operands_or_fault code (FaultsAt 10 (j + 1)) (binary_work first meet Sub) e c entry outside (datum.Int x) (datum.Int y) two (
        reg_value reg.Sub p q,
        refl,
        (
          truth (not positive),
          difference_overflows x y f g is,
          (
            truth positive,
            less_words 0 q (pos 0) y refl (signed_word y g),
            (true, other_is_taken positive, faults_next code first meet e c outside entry j (truth positive) (truth (not positive)) (reg_value reg.Sub p q) held here within),
          ),
        ),
      )))

  multiplied : (x y : ℤ) → IsMeetingTwo e c entry outside (datum.Int x) (datum.Int y) → Outcome Mul (int_result Mul x y)
  multiplied x y two =
      let z = x *ℤ y in
      let f = two.left_fits in
      let g = two.right.fits in
      let p = cast_unsigned w64 x in
      let q = cast_unsigned w64 y in
      cond_both (is_int z) (Gives (datum.Int z)) (Faults Overflow) (Outcome Mul)
      (λ is.
      let product = product_fits x y f g is in
      let sign = shift_value Srai (cast_unsigned w64 z) 63 in
      makes 8 0 (binary_block first meet Mul) (datum.Int z) (held.blocks 8 (lit< tt)) (lit≤ tt)
      (operands_or_fault code (Makes 0 (datum.Int z)) (binary_work first meet Mul) e c entry outside (datum.Int x) (datum.Int y) two (
        sign,
        product.upper,
        (
          cast_unsigned w64 z,
          product.lower,
          (
            sign,
            refl,
            (false, unequal_is sign sign ∙ ap not (eq-eqb sign sign refl), made code 0 meet e c outside sign sign entry (datum.Int z)),
          ),
        ),
      )))
      (λ is j here within.
      let upper = reg_value reg.Mulh p q in
      let lower = reg_value reg.Mul p q in
      let sign = shift_value Srai lower 63 in
      faults 8 10 (j + 1) (binary_block first meet Mul) (held.blocks 8 (lit< tt)) (lit≤ tt)
      (operands_or_fault code (FaultsAt 10 (j + 1)) (binary_work first meet Mul) e c entry outside (datum.Int x) (datum.Int y) two
      (upper, refl, (lower, refl, (sign, refl, (true, product_overflows x y f g is, faults_next code first meet e c outside entry j lower sign upper held here within))))))

  -- ---- quotients and remainders

  -- the second block of a quotient, with the quotient by -1 in Second and the dividend in First
  minus_one_makes : (x : ℤ) (d : ℕ) → is_int x ≡ true → is_int (int_div x (negsuc 0)) ≡ true
      → Makes 8 (datum.Int (int_div x (negsuc 0))) (first + 10) (left e c outside d (cast_unsigned w64 x) (cast_unsigned w64 (int_div x (negsuc 0))) entry)
  minus_one_makes x d f is =
      let z = int_div x (negsuc 0) in
      let p = cast_unsigned w64 x in
      let r = cast_unsigned w64 z in
      from_zero code 8 (at_block code (first + 10) (left e c outside d p r entry)) meet (MakesDatum c outside (datum.Int z) e)
      (block_comes code meet (MakesDatum c outside (datum.Int z) e) 0 8 (first + 10) (by_minus_one_block first meet) (left e c outside d p r entry) (held.blocks 10 (lit< tt)) (lit≤ tt)
      (1, one_is, (2 ^ 63, least_is, (false, least_is_passed x f is, (r, moved r r refl (word_below z is), made code 0 meet e c outside p r entry (datum.Int z))))))

  minus_one_faults : (x : ℤ) (d r j : ℕ) → is_int x ≡ true → is_int (int_div x (negsuc 0)) ≡ false → entry ≡ 8 * j → j + 2 < length code.entries
      → FaultsAt 18 (j + 2) (first + 10) (left e c outside d (cast_unsigned w64 x) r entry)
  minus_one_faults x d r j f is here within =
      let p = cast_unsigned w64 x in
      from_zero code 18 (at_block code (first + 10) (left e c outside d p r entry)) (slice_index code.entries (j + 2)) (KeepsAll e)
      (block_comes code (slice_index code.entries (j + 2)) (KeepsAll e) 10 18 (first + 10) (by_minus_one_block first meet) (left e c outside d p r entry) (held.blocks 10 (lit< tt)) (lit≤ tt)
      (1, one_is, (2 ^ 63, least_is, (true, least_is_taken x f is, faults_after code first meet e c outside entry j (2 ^ 63) p r held here within))))

  by_minus_one : (x y : ℤ) → y ≡ negsuc 0 → is_taken Beq (imm_value Addi (cast_unsigned w64 y) 1) 0 ≡ true → int_eq y (pos 0) ≡ false
      → IsMeetingTwo e c entry outside (datum.Int x) (datum.Int y) → Outcome Div (int_or_overflow (int_div x (negsuc 0)))
  by_minus_one x y one minus some two =
      let z = int_div x (negsuc 0) in
      let f = two.left_fits in
      let g = two.right.fits in
      let p = cast_unsigned w64 x in
      let r = cast_unsigned w64 z in
      let next = imm_value Addi (cast_unsigned w64 y) 1 in
      let quotient : reg_value reg.Div p (cast_unsigned w64 y) ≡ r = quotient_is x y f g some ∙ ap (λ (v : ℤ). cast_unsigned w64 (int_div x v)) one in
      cond_both (is_int z) (Gives (datum.Int z)) (Faults Overflow) (Outcome Div)
      (λ is. makes 9 8 (binary_block first meet Div) (datum.Int z) (held.blocks 9 (lit< tt)) (lit≤ tt)
      (operands_or_fault code (Makes 8 (datum.Int z)) (binary_work first meet Div) e c entry outside (datum.Int x) (datum.Int y) two
      (false, zero_is y false g some, (r, quotient, (next, refl, (true, minus, minus_one_makes x next f is))))))
      (λ is j here within. faults 9 18 (j + 2) (binary_block first meet Div) (held.blocks 9 (lit< tt)) (lit≤ tt)
      (operands_or_fault code (FaultsAt 18 (j + 2)) (binary_work first meet Div) e c entry outside (datum.Int x) (datum.Int y) two
      (false, zero_is y false g some, (r, quotient, (next, refl, (true, minus, minus_one_faults x next r j f is here within))))))

  -- by -1, and by any other divisor but zero
  divided_by : (x y : ℤ) → IsMeetingTwo e c entry outside (datum.Int x) (datum.Int y) → int_eq y (pos 0) ≡ false → (t : Bool) → is_taken Beq (imm_value Addi (cast_unsigned w64 y) 1) 0 ≡ t
      → Outcome Div (int_or_overflow (int_div x y))
  divided_by x y two some true minus =
      let one = minus_one_taken y two.right.fits minus in
      subst (λ (v : ℤ). Outcome Div (int_or_overflow (int_div x v))) (sym one) (by_minus_one x y one minus some two)
  divided_by x y two some false minus =
      let z = int_div x y in
      let f = two.left_fits in
      let g = two.right.fits in
      let r = cast_unsigned w64 z in
      let next = imm_value Addi (cast_unsigned w64 y) 1 in
      let other : y ≡ negsuc 0 → ⊥ = λ same. both_ways (is_taken Beq next 0) minus (subst (λ (v : ℤ). is_taken Beq (imm_value Addi (cast_unsigned w64 v) 1) 0 ≡ true) (sym same) minus_one_is_taken) in
      let fit = quotient_fits x y f g other in
      cond_both (is_int z) (Gives (datum.Int z)) (Faults Overflow) (Outcome Div)
      (λ is. makes 9 0 (binary_block first meet Div) (datum.Int z) (held.blocks 9 (lit< tt)) (lit≤ tt)
      (operands_or_fault code (Makes 0 (datum.Int z)) (binary_work first meet Div) e c entry outside (datum.Int x) (datum.Int y) two (
        false,
        zero_is y false g some,
        (
          r,
          quotient_is x y f g some,
          (
            next,
            refl,
            (
              false,
              minus,
              (r, moved r r refl (word_below z is), made code 0 meet e c outside (cast_unsigned w64 x) r entry (datum.Int z)),
            ),
          ),
        ),
      )))
      (λ is. absurd (both_ways (is_int z) is fit))

  divided : (x y : ℤ) → IsMeetingTwo e c entry outside (datum.Int x) (datum.Int y) → Outcome Div (int_result Div x y)
  divided x y two =
      let p = cast_unsigned w64 x in
      let q = cast_unsigned w64 y in
      cond_both (int_eq y (pos 0)) (Faults Zero) (int_or_overflow (int_div x y)) (Outcome Div)
      (λ none j here within. faults 9 10 (j + 1) (binary_block first meet Div) (held.blocks 9 (lit< tt)) (lit≤ tt)
      (operands_or_fault code (FaultsAt 10 (j + 1)) (binary_work first meet Div) e c entry outside (datum.Int x) (datum.Int y) two
      (true, zero_is y true two.right.fits none, faults_next code first meet e c outside entry j q p e.named.second held here within)))
      (λ some. divided_by x y two some (is_taken Beq (imm_value Addi q 1) 0) refl)

  remaining : (x y : ℤ) → IsMeetingTwo e c entry outside (datum.Int x) (datum.Int y) → Outcome Rem (int_result Rem x y)
  remaining x y two =
      let z = int_rem x y in
      let f = two.left_fits in
      let g = two.right.fits in
      let p = cast_unsigned w64 x in
      let q = cast_unsigned w64 y in
      cond_both (int_eq y (pos 0)) (Faults Zero) (Gives (datum.Int z)) (Outcome Rem)
      (λ none j here within. faults 11 10 (j + 1) (binary_block first meet Rem) (held.blocks 11 (lit< tt)) (lit≤ tt)
      (operands_or_fault code (FaultsAt 10 (j + 1)) (binary_work first meet Rem) e c entry outside (datum.Int x) (datum.Int y) two
      (true, zero_is y true g none, faults_next code first meet e c outside entry j q p e.named.second held here within)))
      (λ some. makes 11 0 (binary_block first meet Rem) (datum.Int z) (held.blocks 11 (lit< tt)) (lit≤ tt)
      (operands_or_fault code (Makes 0 (datum.Int z)) (binary_work first meet Rem) e c entry outside (datum.Int x) (datum.Int y) two
      (false, zero_is y false g some, (cast_unsigned w64 z, remainder_is x y f g some, made code 0 meet e c outside p e.named.second entry (datum.Int z)))))

  -- ---- comparisons and truth values

  equal : (u v : Datum) (b : Bool) → IsMeetingTwo e c entry outside u v → imm_value Sltiu (reg_value reg.Sub (word_of u) (word_of v)) 1 ≡ truth b → Outcome Eq (Gives (datum.Bool b))
  equal u v b two is =
      makes 12 0 (binary_block first meet Eq) (datum.Bool b) (held.blocks 12 (lit< tt)) (lit≤ tt)
      (operands code (Makes 0 (datum.Bool b)) (binary_work first meet Eq) e c entry outside u v two
      (reg_value reg.Sub (word_of u) (word_of v), refl, (truth b, is, made code 0 meet e c outside (word_of u) (reg_value reg.Sub (word_of u) (word_of v)) e.named.third (datum.Bool b))))

  unequal : (u v : Datum) (b : Bool) → IsMeetingTwo e c entry outside u v → reg_value reg.Sltu 0 (reg_value reg.Sub (word_of u) (word_of v)) ≡ truth b → Outcome Ne (Gives (datum.Bool b))
  unequal u v b two is =
      makes 13 0 (binary_block first meet Ne) (datum.Bool b) (held.blocks 13 (lit< tt)) (lit≤ tt)
      (operands code (Makes 0 (datum.Bool b)) (binary_work first meet Ne) e c entry outside u v two
      (reg_value reg.Sub (word_of u) (word_of v), refl, (truth b, is, made code 0 meet e c outside (word_of u) (reg_value reg.Sub (word_of u) (word_of v)) e.named.third (datum.Bool b))))

  less : (u v : Datum) (b : Bool) → IsMeetingTwo e c entry outside u v → reg_value reg.Slt (word_of u) (word_of v) ≡ truth b → Outcome Lt (Gives (datum.Bool b))
  less u v b two is =
      makes 14 0 (binary_block first meet Lt) (datum.Bool b) (held.blocks 14 (lit< tt)) (lit≤ tt)
      (operands code (Makes 0 (datum.Bool b)) (binary_work first meet Lt) e c entry outside u v two
      (truth b, is, made code 0 meet e c outside (word_of u) e.named.second e.named.third (datum.Bool b)))

  at_most : (u v : Datum) (b t : Bool) → IsMeetingTwo e c entry outside u v → reg_value reg.Slt (word_of v) (word_of u) ≡ truth b → not b ≡ t → Outcome Le (Gives (datum.Bool t))
  at_most u v b t two is other =
      makes 15 0 (binary_block first meet Le) (datum.Bool t) (held.blocks 15 (lit< tt)) (lit≤ tt)
      (operands code (Makes 0 (datum.Bool t)) (binary_work first meet Le) e c entry outside u v two
      (truth b, is, (truth t, turned b ∙ ap truth other, made code 0 meet e c outside (word_of u) e.named.second e.named.third (datum.Bool t))))

  greater : (u v : Datum) (b : Bool) → IsMeetingTwo e c entry outside u v → reg_value reg.Slt (word_of v) (word_of u) ≡ truth b → Outcome Gt (Gives (datum.Bool b))
  greater u v b two is =
      makes 16 0 (binary_block first meet Gt) (datum.Bool b) (held.blocks 16 (lit< tt)) (lit≤ tt)
      (operands code (Makes 0 (datum.Bool b)) (binary_work first meet Gt) e c entry outside u v two
      (truth b, is, made code 0 meet e c outside (word_of u) e.named.second e.named.third (datum.Bool b)))

  at_least : (u v : Datum) (b t : Bool) → IsMeetingTwo e c entry outside u v → reg_value reg.Slt (word_of u) (word_of v) ≡ truth b → not b ≡ t → Outcome Ge (Gives (datum.Bool t))
  at_least u v b t two is other =
      makes 17 0 (binary_block first meet Ge) (datum.Bool t) (held.blocks 17 (lit< tt)) (lit≤ tt)
      (operands code (Makes 0 (datum.Bool t)) (binary_work first meet Ge) e c entry outside u v two
      (truth b, is, (truth t, turned b ∙ ap truth other, made code 0 meet e c outside (word_of u) e.named.second e.named.third (datum.Bool t))))

  both : (x y : Bool) → IsMeetingTwo e c entry outside (datum.Bool x) (datum.Bool y) → Outcome And (Gives (datum.Bool (x && y)))
  both x y two =
      makes 18 0 (binary_block first meet And) (datum.Bool (x && y)) (held.blocks 18 (lit< tt)) (lit≤ tt)
      (operands code (Makes 0 (datum.Bool (x && y))) (binary_work first meet And) e c entry outside (datum.Bool x) (datum.Bool y) two
      (truth (x && y), both_truths x y, made code 0 meet e c outside (truth x) e.named.second e.named.third (datum.Bool (x && y))))

  either : (x y : Bool) → IsMeetingTwo e c entry outside (datum.Bool x) (datum.Bool y) → Outcome Or (Gives (datum.Bool (x || y)))
  either x y two =
      makes 19 0 (binary_block first meet Or) (datum.Bool (x || y)) (held.blocks 19 (lit< tt)) (lit≤ tt)
      (operands code (Makes 0 (datum.Bool (x || y))) (binary_work first meet Or) e c entry outside (datum.Bool x) (datum.Bool y) two
      (truth (x || y), either_truth x y, made code 0 meet e c outside (truth x) e.named.second e.named.third (datum.Bool (x || y))))

  -- ---- data of each type

  less_ints : (x y : ℤ) → is_int x ≡ true → is_int y ≡ true → reg_value reg.Slt (cast_unsigned w64 x) (cast_unsigned w64 y) ≡ truth (int_lt x y)
  less_ints x y f g = less_words (cast_unsigned w64 x) (cast_unsigned w64 y) x y (signed_word x f) (signed_word y g)

  ints_work : (op : BinOp) (x y : ℤ) → IsMeetingTwo e c entry outside (datum.Int x) (datum.Int y) → Outcome op (int_result op x y)
  ints_work Add x y two = added x y two
  ints_work Sub x y two = subtracted x y two
  ints_work Mul x y two = multiplied x y two
  ints_work Div x y two = divided x y two
  ints_work Rem x y two = remaining x y two
  ints_work Eq x y two = equal (datum.Int x) (datum.Int y) (int_eq x y) two (equal_int_words x y two.left_fits two.right.fits)
  ints_work Ne x y two = unequal (datum.Int x) (datum.Int y) (not (int_eq x y)) two (unequal_int_words x y two.left_fits two.right.fits)
  ints_work Lt x y two = less (datum.Int x) (datum.Int y) (int_lt x y) two (less_ints x y two.left_fits two.right.fits)
  ints_work Le x y two = at_most (datum.Int x) (datum.Int y) (int_lt y x) (int_le x y) two (less_ints y x two.right.fits two.left_fits) (not_less y x)
  ints_work Gt x y two = greater (datum.Int x) (datum.Int y) (int_lt y x) two (less_ints y x two.right.fits two.left_fits)
  ints_work Ge x y two = at_least (datum.Int x) (datum.Int y) (int_lt x y) (int_le y x) two (less_ints x y two.left_fits two.right.fits) (not_less x y)
  ints_work And x y two = tt
  ints_work Or x y two = tt

  chars_work : (op : BinOp) (x y : ℕ) → IsMeetingTwo e c entry outside (datum.Char x) (datum.Char y) → Outcome op (char_result op x y)
  chars_work Eq x y two =
      let f = two.left_fits in
      let g = two.right.fits in
      equal (datum.Char x) (datum.Char y) (x == y) two (equal_words x y (omega arith) (omega arith))
  chars_work Ne x y two =
      let f = two.left_fits in
      let g = two.right.fits in
      unequal (datum.Char x) (datum.Char y) (not (x == y)) two (unequal_words x y (omega arith) (omega arith))
  chars_work Lt x y two = less (datum.Char x) (datum.Char y) (nat_lt x y) two (less_chars x y two.left_fits two.right.fits)
  chars_work Le x y two = at_most (datum.Char x) (datum.Char y) (nat_lt y x) (nat_le x y) two (less_chars y x two.right.fits two.left_fits) (not_ltb y x)
  chars_work Gt x y two = greater (datum.Char x) (datum.Char y) (nat_lt y x) two (less_chars y x two.right.fits two.left_fits)
  chars_work Ge x y two = at_least (datum.Char x) (datum.Char y) (nat_lt x y) (nat_le y x) two (less_chars x y two.left_fits two.right.fits) (not_ltb x y)
  chars_work op x y two = tt

  truths_work : (op : BinOp) (x y : Bool) → IsMeetingTwo e c entry outside (datum.Bool x) (datum.Bool y) → Outcome op (bool_result op x y)
  truths_work Eq x y two = equal (datum.Bool x) (datum.Bool y) (same_truth x y) two (equal_truths x y)
  truths_work Ne x y two = unequal (datum.Bool x) (datum.Bool y) (not (same_truth x y)) two (unequal_truths x y)
  truths_work And x y two = both x y two
  truths_work Or x y two = either x y two
  truths_work op x y two = tt

  pub binary_works : (op : BinOp) (u v : Datum) → IsMeetingTwo e c entry outside u v → Outcome op (binary_result op u v)
  binary_works op (datum.Int x) (datum.Int y) two = ints_work op x y two
  binary_works op (datum.Char x) (datum.Char y) two = chars_work op x y two
  binary_works op (datum.Bool x) (datum.Bool y) two = truths_work op x y two
  binary_works op u v two = tt
