-- Binary operators on two registers.
use Rattle.std.proofs.Common.{◌≡◌, ℕ, suc, ◌+◌, ◌^◌, ◌<◌, ℤ, pos, ◌+ℤ◌, ◌-ℤ◌, ◌*ℤ◌, Bool, true, false, cond, not, ◌&&◌, ◌||◌, ◌==◌, nat_lt, nat_le, int_lt, int_le, int_div, int_rem, int_eq, [], ◌∷◌, refl, ap, ap₂, ◌∙◌, arith, lit<, eq-eqb}
use Rattle.std.specs.Int.{cast_unsigned, w64}
use Rattle.std.proofs.lemmas.Bool.{cond_both}
use Rattle.fy_base.specs.declared.data.Datum.{Datum}
use Rattle.fy_base.specs.declared.data.Datum.TheVariants as datum
use Rattle.fy_base.specs.declared.data.BinOp.{BinOp}
use Rattle.fy_base.specs.declared.data.BinOp.TheVariants.{Add, Sub, Mul, Div, Rem, Eq, Ne, Lt, Le, Gt, Ge, And, Or}
use Rattle.fy_base.specs.declared.data.FaultKind.TheVariants.{Overflow, Zero}
use Rattle.fy_base.specs.declared.arithmetic.Applied.{Applied}
use Rattle.fy_base.specs.declared.arithmetic.Applied.TheVariants.{Gives, Faults}
use Rattle.fy_base.specs.Arithmetic.{is_int, int_or_overflow, int_result, char_result, bool_result, binary_result, same_truth}
use Rattle.rv_insn.specs.declared.instructions.RegOp.TheVariants as reg
use Rattle.rv_insn.specs.declared.instructions.ImmOp.TheVariants.{Addi, Slti, Sltiu, Xori}
use Rattle.rv_insn.specs.declared.instructions.ShiftOp.TheVariants.{Srai}
use Rattle.rv_insn.specs.declared.instructions.BranchOp.TheVariants.{Beq, Bne}
use Rattle.rv_insn.specs.Operations.{truth, reg_value, imm_value, shift_value, is_taken}
use Rattle.rv_word.specs.Word.{Data, Code, get}
use Rattle.rv_operators.specs.Operators.{word_of}
use Rattle.rv_operators.specs.Laws.{IsDatum}
use Rattle.rv_operators.proofs.Numbers.{word_below, signed_word, less_words, negative_word, not_ltb, not_less, turned, same_is_passed, other_is_taken, unequal_is}
use Rattle.rv_operators.proofs.Sums.{sum_is, sum_less, sum_overflows, difference_is, difference_less, difference_overflows}
use Rattle.rv_operators.proofs.Products.{product_fits, product_overflows}
use Rattle.rv_operators.proofs.Quotients.{zero_is, quotient_is, remainder_is}
use Rattle.rv_operators.proofs.Comparisons.{equal_words, unequal_words, equal_int_words, unequal_int_words, equal_truths, unequal_truths, less_chars, both_truths, either_truth}
use Rattle.rv_operators.proofs.Contexts.{moved}
use Rattle.rv_straight.specs.Straight.{slot, binary_code, binary_kinds}
use Rattle.rv_straight.proofs.Signs.{common, quotient_passed, quotient_overflows}
use Rattle.rv_straight.proofs.Registers.{same_itself, keeps_itself, Two, two_left, two_right, two_third}
use Rattle.rv_straight.proofs.Needs.{Needs}
use Rattle.rv_straight.proofs.Unary.{Held, first_held, Behind}

module _ (code : Code) (F : ℕ → Data → Type 0) (a : ℕ) (e : Data) (Q : Data → Type 0) (i label : ℕ) (lt : i < 2) where
  abbrev Result : BinOp → Applied → Type 0
  Result op r = Held code label a (binary_kinds op) → Behind code F a e Q i r → Needs F (binary_code op (slot i) (slot (suc i)) label) e Q

  -- the operands are in their places
  abbrev Operands : ℕ → ℕ → Type 0
  Operands p q = Two i e p q e.named.third e

  abbrev Ints : ℤ → ℤ → Type 0
  Ints x y = Operands (cast_unsigned w64 x) (cast_unsigned w64 y)

  -- ---- sums, differences and products

  added : (x y : ℤ) → is_int x ≡ true → is_int y ≡ true → Ints x y → Result Add (int_result Add x y)
  added x y f g h held =
      let z = x +ℤ y in
      let p = cast_unsigned w64 x in
      let q = cast_unsigned w64 y in
      let n = int_lt y (pos 0) in
      cond_both (is_int z) (Gives (datum.Int z)) (Faults Overflow) (λ r. Behind code F a e Q i r → Needs F (binary_code Add (slot i) (slot (suc i)) label) e Q)
      (λ good k.
      let w = cast_unsigned w64 z in
      let h1 = two_third w h in
      let h2 = two_left (truth n) lt h1 in
      let h3 = two_right (truth n) lt h2 in
      let h4 = two_left w lt h3 in (
        w,
        ap₂ (λ u v. reg_value reg.Add u v) h.left h.right ∙ sum_is x y f g good,
        (
          truth n,
          ap (λ v. reg_value reg.Slt w v) h1.left ∙ (less_words w p z x (signed_word z good) (signed_word x f) ∙ ap truth (sum_less x y)),
          (
            truth n,
            ap (λ v. imm_value Slti v 0) h2.right ∙ negative_word q y (signed_word y g),
            (
              false,
              ap₂ (λ u v. is_taken Bne u v) h3.left h3.right ∙ same_is_passed n,
              (w, ap (λ v. imm_value Addi v 0) h3.third ∙ moved w w refl (word_below z good), k _ h4.same h4.left),
            ),
          ),
        ),
      ))
      (λ bad k.
      let s = reg_value reg.Add p q in
      let h1 = two_third s h in
      let h2 = two_left (truth (not n)) lt h1 in
      let h3 = two_right (truth n) lt h2 in (
        s,
        ap₂ (λ u v. reg_value reg.Add u v) h.left h.right,
        (
          truth (not n),
          ap (λ v. reg_value reg.Slt s v) h1.left ∙ sum_overflows x y f g bad,
          (
            truth n,
            ap (λ v. imm_value Slti v 0) h2.right ∙ negative_word q y (signed_word y g),
            (true, ap₂ (λ u v. is_taken Bne u v) h3.left h3.right ∙ other_is_taken n, k _ h3.same.keeps label (first_held code label _ (held 0 (lit< tt)))),
          ),
        ),
      ))

  subtracted : (x y : ℤ) → is_int x ≡ true → is_int y ≡ true → Ints x y → Result Sub (int_result Sub x y)
  subtracted x y f g h held =
      let z = x -ℤ y in
      let p = cast_unsigned w64 x in
      let q = cast_unsigned w64 y in
      let n = int_lt (pos 0) y in
      cond_both (is_int z) (Gives (datum.Int z)) (Faults Overflow) (λ r. Behind code F a e Q i r → Needs F (binary_code Sub (slot i) (slot (suc i)) label) e Q)
      (λ good k.
      let w = cast_unsigned w64 z in
      let h1 = two_third w h in
      let h2 = two_left (truth n) lt h1 in
      let h3 = two_right (truth n) lt h2 in
      let h4 = two_left w lt h3 in (
        w,
        ap₂ (λ u v. reg_value reg.Sub u v) h.left h.right ∙ difference_is x y f g good,
        (
          truth n,
          ap (λ v. reg_value reg.Slt w v) h1.left ∙ (less_words w p z x (signed_word z good) (signed_word x f) ∙ ap truth (difference_less x y)),
          (
            truth n,
            ap (λ v. reg_value reg.Slt 0 v) h2.right ∙ less_words 0 q (pos 0) y refl (signed_word y g),
            (
              false,
              ap₂ (λ u v. is_taken Bne u v) h3.left h3.right ∙ same_is_passed n,
              (w, ap (λ v. imm_value Addi v 0) h3.third ∙ moved w w refl (word_below z good), k _ h4.same h4.left),
            ),
          ),
        ),
      ))
      (λ bad k.
      let s = reg_value reg.Sub p q in
      let h1 = two_third s h in
      let h2 = two_left (truth (not n)) lt h1 in
      let h3 = two_right (truth n) lt h2 in (
        s,
        ap₂ (λ u v. reg_value reg.Sub u v) h.left h.right,
        (
          truth (not n),
          ap (λ v. reg_value reg.Slt s v) h1.left ∙ difference_overflows x y f g bad,
          (
            truth n,
            ap (λ v. reg_value reg.Slt 0 v) h2.right ∙ less_words 0 q (pos 0) y refl (signed_word y g),
            (true, ap₂ (λ u v. is_taken Bne u v) h3.left h3.right ∙ other_is_taken n, k _ h3.same.keeps label (first_held code label _ (held 0 (lit< tt)))),
          ),
        ),
      ))

  multiplied : (x y : ℤ) → is_int x ≡ true → is_int y ≡ true → Ints x y → Result Mul (int_result Mul x y)
  multiplied x y f g h held =
      let z = x *ℤ y in
      let p = cast_unsigned w64 x in
      let q = cast_unsigned w64 y in
      cond_both (is_int z) (Gives (datum.Int z)) (Faults Overflow) (λ r. Behind code F a e Q i r → Needs F (binary_code Mul (slot i) (slot (suc i)) label) e Q)
      (λ good k.
      let w = cast_unsigned w64 z in
      let product = product_fits x y f g good in
      let sign = shift_value Srai w 63 in
      let h1 = two_third sign h in
      let h2 = two_left w lt h1 in
      let h3 = two_right sign lt h2 in (
        sign,
        ap₂ (λ u v. reg_value reg.Mulh u v) h.left h.right ∙ product.upper,
        (
          w,
          ap₂ (λ u v. reg_value reg.Mul u v) h1.left h1.right ∙ product.lower,
          (
            sign,
            ap (λ v. shift_value Srai v 63) h2.left,
            (false, ap₂ (λ u v. is_taken Bne u v) h3.third h3.right ∙ (unequal_is sign sign ∙ ap not (eq-eqb sign sign refl)), k _ h3.same h3.left),
          ),
        ),
      ))
      (λ bad k.
      let upper = reg_value reg.Mulh p q in
      let lower = reg_value reg.Mul p q in
      let sign = shift_value Srai lower 63 in
      let h1 = two_third upper h in
      let h2 = two_left lower lt h1 in
      let h3 = two_right sign lt h2 in (
        upper,
        ap₂ (λ u v. reg_value reg.Mulh u v) h.left h.right,
        (
          lower,
          ap₂ (λ u v. reg_value reg.Mul u v) h1.left h1.right,
          (
            sign,
            ap (λ v. shift_value Srai v 63) h2.left,
            (true, ap₂ (λ u v. is_taken Bne u v) h3.third h3.right ∙ product_overflows x y f g bad, k _ h3.same.keeps label (first_held code label _ (held 0 (lit< tt)))),
          ),
        ),
      ))

  -- ---- quotients and remainders

  divided_by : (x y : ℤ) → is_int x ≡ true → is_int y ≡ true → int_eq y (pos 0) ≡ false → Ints x y → Result Div (int_or_overflow (int_div x y))
  divided_by x y f g some h held =
      let z = int_div x y in
      let p = cast_unsigned w64 x in
      let q = cast_unsigned w64 y in
      let w = cast_unsigned w64 z in
      let shared = reg_value reg.And p q in
      let h1 = two_third shared h in
      let h2 = two_left w lt h1 in
      let h3 = two_third (common x y) h2 in
      let none : is_taken Beq (get e.named (slot (suc i))) 0 ≡ false = ap (λ v. is_taken Beq v 0) h.right ∙ zero_is y false g some in
      let first : reg_value reg.And (get e.named (slot i)) (get e.named (slot (suc i))) ≡ shared = ap₂ (λ u v. reg_value reg.And u v) h.left h.right in
      let quotient = ap₂ (λ u v. reg_value reg.Div u v) h1.left h1.right ∙ quotient_is x y f g some in
      let second = ap₂ (λ u v. reg_value reg.And u v) h2.third h2.left in
      cond_both (is_int z) (Gives (datum.Int z)) (Faults Overflow) (λ r. Behind code F a e Q i r → Needs F (binary_code Div (slot i) (slot (suc i)) label) e Q)
      (λ good k. (false, none, (shared, first, (w, quotient, (common x y, second, (false, quotient_passed x y f g good, k _ h3.same h3.left))))))
      (λ bad k. (false, none, (shared, first, (w, quotient, (common x y, second, (true, quotient_overflows x y f g bad, k _ h3.same.keeps (label + 1) (held 1 (lit< tt))))))))

  divided : (x y : ℤ) → is_int x ≡ true → is_int y ≡ true → Ints x y → Result Div (int_result Div x y)
  divided x y f g h held =
      cond_both (int_eq y (pos 0)) (Faults Zero) (int_or_overflow (int_div x y)) (λ r. Behind code F a e Q i r → Needs F (binary_code Div (slot i) (slot (suc i)) label) e Q)
      (λ none k. (true, ap (λ v. is_taken Beq v 0) h.right ∙ zero_is y true g none, k e (keeps_itself e) label (first_held code label _ (held 0 (lit< tt)))))
      (λ some. divided_by x y f g some h held)

  remaining : (x y : ℤ) → is_int x ≡ true → is_int y ≡ true → Ints x y → Result Rem (int_result Rem x y)
  remaining x y f g h held =
      let z = int_rem x y in
      let w = cast_unsigned w64 z in
      cond_both (int_eq y (pos 0)) (Faults Zero) (Gives (datum.Int z)) (λ r. Behind code F a e Q i r → Needs F (binary_code Rem (slot i) (slot (suc i)) label) e Q)
      (λ none k. (true, ap (λ v. is_taken Beq v 0) h.right ∙ zero_is y true g none, k e (keeps_itself e) label (first_held code label _ (held 0 (lit< tt)))))
      (λ some k.
      let h1 = two_left w lt h in
      (false, ap (λ v. is_taken Beq v 0) h.right ∙ zero_is y false g some, (w, ap₂ (λ u v. reg_value reg.Rem u v) h.left h.right ∙ remainder_is x y f g some, k _ h1.same h1.left)))

  -- ---- comparisons and truth values

  equal : (p q : ℕ) (b : Bool) → Operands p q → imm_value Sltiu (reg_value reg.Sub p q) 1 ≡ truth b → Result Eq (Gives (datum.Bool b))
  equal p q b h is held k =
      let h1 = two_left (reg_value reg.Sub p q) lt h in
      let h2 = two_left (truth b) lt h1 in
      (reg_value reg.Sub p q, ap₂ (λ u v. reg_value reg.Sub u v) h.left h.right, (truth b, ap (λ v. imm_value Sltiu v 1) h1.left ∙ is, k _ h2.same h2.left))

  unequal : (p q : ℕ) (b : Bool) → Operands p q → reg_value reg.Sltu 0 (reg_value reg.Sub p q) ≡ truth b → Result Ne (Gives (datum.Bool b))
  unequal p q b h is held k =
      let h1 = two_left (reg_value reg.Sub p q) lt h in
      let h2 = two_left (truth b) lt h1 in
      (reg_value reg.Sub p q, ap₂ (λ u v. reg_value reg.Sub u v) h.left h.right, (truth b, ap (λ v. reg_value reg.Sltu 0 v) h1.left ∙ is, k _ h2.same h2.left))

  less : (p q : ℕ) (b : Bool) → Operands p q → reg_value reg.Slt p q ≡ truth b → Result Lt (Gives (datum.Bool b))
  less p q b h is held k =
      let h1 = two_left (truth b) lt h in
      (truth b, ap₂ (λ u v. reg_value reg.Slt u v) h.left h.right ∙ is, k _ h1.same h1.left)

  at_most : (p q : ℕ) (b t : Bool) → Operands p q → reg_value reg.Slt q p ≡ truth b → not b ≡ t → Result Le (Gives (datum.Bool t))
  at_most p q b t h is other held k =
      let h1 = two_left (truth b) lt h in
      let h2 = two_left (truth t) lt h1 in
      (truth b, ap₂ (λ u v. reg_value reg.Slt u v) h.right h.left ∙ is, (truth t, ap (λ v. imm_value Xori v 1) h1.left ∙ (turned b ∙ ap truth other), k _ h2.same h2.left))

  greater : (p q : ℕ) (b : Bool) → Operands p q → reg_value reg.Slt q p ≡ truth b → Result Gt (Gives (datum.Bool b))
  greater p q b h is held k =
      let h1 = two_left (truth b) lt h in
      (truth b, ap₂ (λ u v. reg_value reg.Slt u v) h.right h.left ∙ is, k _ h1.same h1.left)

  at_least : (p q : ℕ) (b t : Bool) → Operands p q → reg_value reg.Slt p q ≡ truth b → not b ≡ t → Result Ge (Gives (datum.Bool t))
  at_least p q b t h is other held k =
      let h1 = two_left (truth b) lt h in
      let h2 = two_left (truth t) lt h1 in
      (truth b, ap₂ (λ u v. reg_value reg.Slt u v) h.left h.right ∙ is, (truth t, ap (λ v. imm_value Xori v 1) h1.left ∙ (turned b ∙ ap truth other), k _ h2.same h2.left))

  both : (x y : Bool) → Operands (truth x) (truth y) → Result And (Gives (datum.Bool (x && y)))
  both x y h held k =
      let h1 = two_left (truth (x && y)) lt h in
      (truth (x && y), ap₂ (λ u v. reg_value reg.And u v) h.left h.right ∙ both_truths x y, k _ h1.same h1.left)

  either : (x y : Bool) → Operands (truth x) (truth y) → Result Or (Gives (datum.Bool (x || y)))
  either x y h held k =
      let h1 = two_left (truth (x || y)) lt h in
      (truth (x || y), ap₂ (λ u v. reg_value reg.Or u v) h.left h.right ∙ either_truth x y, k _ h1.same h1.left)

  -- ---- data of each type

  less_ints : (x y : ℤ) → is_int x ≡ true → is_int y ≡ true → reg_value reg.Slt (cast_unsigned w64 x) (cast_unsigned w64 y) ≡ truth (int_lt x y)
  less_ints x y f g = less_words (cast_unsigned w64 x) (cast_unsigned w64 y) x y (signed_word x f) (signed_word y g)

  ints_work : (op : BinOp) (x y : ℤ) → is_int x ≡ true → is_int y ≡ true → Ints x y → Result op (int_result op x y)
  ints_work Add x y f g h = added x y f g h
  ints_work Sub x y f g h = subtracted x y f g h
  ints_work Mul x y f g h = multiplied x y f g h
  ints_work Div x y f g h = divided x y f g h
  ints_work Rem x y f g h = remaining x y f g h
  ints_work Eq x y f g h = equal (cast_unsigned w64 x) (cast_unsigned w64 y) (int_eq x y) h (equal_int_words x y f g)
  ints_work Ne x y f g h = unequal (cast_unsigned w64 x) (cast_unsigned w64 y) (not (int_eq x y)) h (unequal_int_words x y f g)
  ints_work Lt x y f g h = less (cast_unsigned w64 x) (cast_unsigned w64 y) (int_lt x y) h (less_ints x y f g)
  ints_work Le x y f g h = at_most (cast_unsigned w64 x) (cast_unsigned w64 y) (int_lt y x) (int_le x y) h (less_ints y x g f) (not_less y x)
  ints_work Gt x y f g h = greater (cast_unsigned w64 x) (cast_unsigned w64 y) (int_lt y x) h (less_ints y x g f)
  ints_work Ge x y f g h = at_least (cast_unsigned w64 x) (cast_unsigned w64 y) (int_lt x y) (int_le y x) h (less_ints x y f g) (not_less x y)
  ints_work And x y f g h = λ held k. absurd k
  ints_work Or x y f g h = λ held k. absurd k

  chars_work : (op : BinOp) (x y : ℕ) → x < 256 → y < 256 → Operands x y → Result op (char_result op x y)
  chars_work Eq x y f g h = equal x y (x == y) h (equal_words x y (omega arith) (omega arith))
  chars_work Ne x y f g h = unequal x y (not (x == y)) h (unequal_words x y (omega arith) (omega arith))
  chars_work Lt x y f g h = less x y (nat_lt x y) h (less_chars x y f g)
  chars_work Le x y f g h = at_most x y (nat_lt y x) (nat_le x y) h (less_chars y x g f) (not_ltb y x)
  chars_work Gt x y f g h = greater x y (nat_lt y x) h (less_chars y x g f)
  chars_work Ge x y f g h = at_least x y (nat_lt x y) (nat_le y x) h (less_chars x y f g) (not_ltb x y)
  chars_work op x y f g h = λ held k. absurd k

  truths_work : (op : BinOp) (x y : Bool) → Operands (truth x) (truth y) → Result op (bool_result op x y)
  truths_work Eq x y h = equal (truth x) (truth y) (same_truth x y) h (equal_truths x y)
  truths_work Ne x y h = unequal (truth x) (truth y) (not (same_truth x y)) h (unequal_truths x y)
  truths_work And x y h = both x y h
  truths_work Or x y h = either x y h
  truths_work op x y h = λ held k. absurd k

  operands_work : (op : BinOp) (u v : Datum) → IsDatum u → IsDatum v → Operands (word_of u) (word_of v) → Result op (binary_result op u v)
  operands_work op (datum.Int x) (datum.Int y) f g h = ints_work op x y f g h
  operands_work op (datum.Char x) (datum.Char y) f g h = chars_work op x y f g h
  operands_work op (datum.Bool x) (datum.Bool y) f g h = truths_work op x y h
  operands_work op u v f g h = λ held k. absurd k

  pub binary_works : (op : BinOp) (u v : Datum) → IsDatum u → IsDatum v → get e.named (slot i) ≡ word_of u → get e.named (slot (suc i)) ≡ word_of v → Result op (binary_result op u v)
  binary_works op u v f g left right = operands_work op u v f g (record { same = same_itself i e; left = left; right = right; third = refl })
