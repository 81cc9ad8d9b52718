-- Unary operators on a register.
use Rattle.std.proofs.Common.{◌≡◌, ℕ, suc, ◌+◌, ◌-◌, ◌^◌, ◌<◌, ℤ, pos, negsuc, ◌-ℤ◌, Bool, true, false, cond, not, nat_lt, [], ◌∷◌, length, refl, ap, ◌∙◌, arith, lit<, le-ltb, add-zero, sym}
use Rattle.std.specs.Prelude.{slice_index_or, List}
use Rattle.std.specs.Int.{cast_unsigned, w64}
use Rattle.std.proofs.lemmas.Bool.{cond_both}
use Rattle.fy_base.specs.declared.data.Datum.{Datum}
use Rattle.fy_base.specs.declared.data.Datum.TheVariants as datum
use Rattle.fy_base.specs.declared.data.UnOp.{UnOp}
use Rattle.fy_base.specs.declared.data.UnOp.TheVariants.{Neg, Not, Ord, Chr}
use Rattle.fy_base.specs.declared.data.FaultKind.{FaultKind}
use Rattle.fy_base.specs.declared.data.FaultKind.TheVariants.{Overflow, Range}
use Rattle.fy_base.specs.declared.arithmetic.Applied.{Applied}
use Rattle.fy_base.specs.declared.arithmetic.Applied.TheVariants.{Gives, Faults, NoSense}
use Rattle.fy_base.specs.Arithmetic.{is_int, unary_result}
use Rattle.rv_insn.specs.declared.instructions.RegOp.TheVariants as reg
use Rattle.rv_insn.specs.declared.instructions.ImmOp.TheVariants.{Sltiu, Xori}
use Rattle.rv_insn.specs.declared.instructions.BranchOp.TheVariants.{Beq}
use Rattle.rv_insn.specs.Operations.{truth, reg_value, imm_value, is_taken}
use Rattle.rv_word.specs.declared.micros.Micro.{Micro}
use Rattle.rv_word.specs.declared.micros.Micro.TheVariants.{Fault}
use Rattle.rv_word.specs.Word.{Data, Code, get, block}
use Rattle.rv_operators.specs.Operators.{word_of}
use Rattle.rv_operators.specs.Laws.{IsDatum}
use Rattle.rv_operators.proofs.Numbers.{fits, turned}
use Rattle.rv_operators.proofs.Sums.{difference_is, negative_is_passed, negative_is_taken}
use Rattle.rv_operators.proofs.Comparisons.{below_number, none_is_taken, one_is_passed}
use Rattle.rv_operators.proofs.Contexts.{one_is, least_is}
use Rattle.rv_straight.specs.Straight.{slot, unary_code, unary_kinds, blocks_for}
use Rattle.rv_straight.specs.Laws.{Keeps}
use Rattle.rv_straight.proofs.Registers.{Same, same_itself, keeps_itself, One, one_here, one_third}
use Rattle.rv_straight.proofs.Needs.{Needs}

-- the blocks of its faults, at the place of item a, are those of the labels from one on
abbrev pub Held : Code → ℕ → ℕ → List FaultKind → Type 0
Held code label a kinds = (j : ℕ) → j < length kinds → block code (label + j) ≡ slice_index_or (blocks_for kinds a) j []

-- the first of them
pub first_held : (code : Code) (label : ℕ) (ms : List Micro) → block code (label + 0) ≡ ms → block code label ≡ ms
first_held code label ms h = ap (block code) (sym (add-zero label)) ∙ h

module _ (code : Code) (F : ℕ → Data → Type 0) (a : ℕ) (e : Data) (Q : Data → Type 0) where
  -- what has to be shown of the data behind an operator with its result in a place, and of those at its fault
  abbrev pub Behind : ℕ → Applied → Type 0
  Behind i (Gives w) = (f : Data) → Same i e f → get f.named (slot i) ≡ word_of w → Q f
  Behind i (Faults kind) = (f : Data) → Keeps e f → (l : ℕ) → block code l ≡ Fault kind a ∷ [] → F l f
  Behind i NoSense = ⊥

  module _ (i label : ℕ) (lt : i < 3) where
    abbrev Result : UnOp → Applied → Type 0
    Result op r = Held code label a (unary_kinds op) → Behind i r → Needs F (unary_code op (slot i) label) e Q

    -- the operand is in its place
    start : (p : ℕ) → get e.named (slot i) ≡ p → One i e p e.named.third e
    start p is = record { same = same_itself i e; here = is; third = refl }

    negated : (x : ℤ) → is_int x ≡ true → get e.named (slot i) ≡ cast_unsigned w64 x → Result Neg (unary_result Neg (datum.Int x))
    negated x f is held =
        let z = pos 0 -ℤ x in
        let p = cast_unsigned w64 x in
        let w = cast_unsigned w64 z in
        let least : ℕ = 2 ^ 63 in
        let h = one_third least (one_third 1 (start p is)) in
        cond_both (is_int z) (Gives (datum.Int z)) (Faults Overflow) (λ r. Behind i r → Needs F (unary_code Neg (slot i) label) e Q)
        (λ good k.
        let h' = one_here w lt h in
        (1, one_is, (least, least_is, (false, ap (λ v. is_taken Beq v least) h.here ∙ negative_is_passed x f good, (w, ap (λ v. reg_value reg.Sub 0 v) h.here ∙ difference_is (pos 0) x refl f good, k _ h'.same h'.here)))))
        (λ bad k.
        (1, one_is, (least, least_is, (true, ap (λ v. is_taken Beq v least) h.here ∙ negative_is_taken x f bad, k _ h.same.keeps label (first_held code label _ (held 0 (lit< tt)))))))

    turned_truth : (b : Bool) → get e.named (slot i) ≡ truth b → Result Not (unary_result Not (datum.Bool b))
    turned_truth b is held k =
        let h = one_here (truth (not b)) lt (start (truth b) is) in
        (truth (not b), ap (λ v. imm_value Xori v 1) is ∙ turned b, k _ h.same h.here)

    numbered : (n : ℕ) → get e.named (slot i) ≡ n → Result Ord (unary_result Ord (datum.Char n))
    numbered n is held k = k e (same_itself i e) is

    -- the number is no character's
    outside_chars : (p : ℕ) → get e.named (slot i) ≡ p → nat_lt p 256 ≡ false → Result Chr (Faults Range)
    outside_chars p is none held k =
        let h = one_third (truth false) (start p is) in
        (truth false, ap (λ v. imm_value Sltiu v 256) is ∙ (below_number p 256 ∙ ap truth none), (true, none_is_taken, k _ h.same.keeps label (first_held code label _ (held 0 (lit< tt)))))

    made_char : (x : ℤ) → is_int x ≡ true → get e.named (slot i) ≡ cast_unsigned w64 x → Result Chr (unary_result Chr (datum.Int x))
    made_char (pos n) f is held =
        cond_both (nat_lt n 256) (Gives (datum.Char n)) (Faults Range) (λ r. Behind i r → Needs F (unary_code Chr (slot i) label) e Q)
        (λ small k.
        let h = one_third (truth true) (start n is) in
        (truth true, ap (λ v. imm_value Sltiu v 256) is ∙ (below_number n 256 ∙ ap truth small), (false, one_is_passed, k _ h.same h.here)))
        (λ none. outside_chars n is none held)
    made_char (negsuc n) f is held =
        let small = (fits (negsuc n) f).sfits in
        outside_chars (2 ^ 64 - suc n) is (le-ltb (2 ^ 64 - suc n) 256 (omega arith)) held

    pub unary_works : (op : UnOp) (v : Datum) → IsDatum v → get e.named (slot i) ≡ word_of v → Result op (unary_result op v)
    unary_works Neg (datum.Int x) f is = negated x f is
    unary_works Not (datum.Bool b) f is = turned_truth b is
    unary_works Ord (datum.Char n) f is = numbered n is
    unary_works Chr (datum.Int x) f is = made_char x f is
    unary_works op v f is = λ held k. absurd k
