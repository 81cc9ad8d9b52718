-- The instructions of the forms are encodable.
use Rattle.std.proofs.Common.{◌≡◌, ℕ, ◌+◌, ◌-◌, ◌*◌, ◌/◌, ◌%◌, ◌^◌, ◌<◌, ◌≤◌, ℤ, List, [], ◌∷◌, Bool, true, false, not, ◌||◌, refl, sym, subst, arith, lit<, inl, inr}
use Rattle.std.specs.List.{All}
use Rattle.std.specs.Prelude.{FitsSigned}
use Rattle.std.specs.Int.{w16}
use Rattle.std.proofs.lemmas.Bool.{cases_lt, true≢false}
use Rattle.std.proofs.lemmas.List.Elements.{All-from_recursion}
use Rattle.std.proofs.lemmas.Nat.{mod_below}
use Rattle.rv_insn.specs.declared.instructions.BranchOp.{BranchOp}
use Rattle.rv_insn.specs.declared.instructions.Insn.{Insn}
use Rattle.rv_insn.specs.Encoding.{IsEncodable, IsWithin, IsEven}
use Rattle.rv_asm.specs.Choosing.{offset_between, upper_part, lower_part, near_jump, near_branch, far_jump, far_branch, address_form, word_form, double_form, is_within}
use Rattle.rv_asm.proofs.Numbers.{offset_back, offset_on, lower_low, lower_high}

upper_below : (n : ℕ) → upper_part n < 2 ^ 20
unfolding upper_part
upper_below n = mod_below ((n + 2048) / 4096) (2 ^ 20) (lit< tt)

lower_within : (n : ℕ) → IsWithin (2 ^ 11) (lower_part n)
lower_within n =
    let P : ℤ → Type 0 = λ z. IsWithin (2 ^ 11) z in
    elim (cases_lt (n % 4096) 2048) [
      | inl h ↦ subst P (sym (lower_low n h)) h
      | inr h ↦ subst P (sym (lower_high n h)) (omega arith)
    ]

-- ---- offsets

-- what being within reach says
behind : (reach here to : ℕ) → is_within reach here to ≡ true → to < here → here - to ≤ reach
behind reach here to h k = grind arith

ahead : (reach here to : ℕ) → is_within reach here to ≡ true → here ≤ to → to - here < reach
ahead reach here to h k = grind arith

offset_within : (reach here to : ℕ) → is_within reach here to ≡ true → IsWithin (4 * reach) (offset_between here to)
offset_within reach here to h =
    let P : ℤ → Type 0 = λ z. IsWithin (4 * reach) z in
    elim (cases_lt to here) [
      | inl k ↦ subst P (sym (offset_back here to k)) (omega (arith, behind reach here to h k))
      | inr k ↦ subst P (sym (offset_on here to k)) (omega (arith, ahead reach here to h k))
    ]

offset_even : (here to : ℕ) → IsEven (offset_between here to)
offset_even here to =
    let P : ℤ → Type 0 = λ z. IsEven z in
    elim (cases_lt to here) [
      | inl k ↦ subst P (sym (offset_back here to k)) (omega arith)
      | inr k ↦ subst P (sym (offset_on here to k)) (omega arith)
    ]

-- ---- forms

abbrev pub AreEncodable : List Insn → Type 0
AreEncodable insns = All IsEncodable insns

pub one_encodable : (i : Insn) → IsEncodable i → AreEncodable (i ∷ [])
one_encodable i h = All-from_recursion IsEncodable (i ∷ []) (h, tt)

pub near_branch_encodable : (op : BranchOp) (rs1 rs2 here to : ℕ) → rs1 < 32 → rs2 < 32 → is_within 1024 here to ≡ true → IsEncodable (near_branch op rs1 rs2 here to)
near_branch_encodable op rs1 rs2 here to a b h = (a, b, offset_within 1024 here to h, offset_even here to)

pub near_jump_encodable : (rd here to : ℕ) → rd < 32 → is_within 262144 here to ≡ true → IsEncodable (near_jump rd here to)
near_jump_encodable rd here to a h = (a, offset_within 262144 here to h, offset_even here to)

pub far_jump_encodable : (rd here to : ℕ) → rd < 32 → AreEncodable (far_jump rd here to)
far_jump_encodable rd here to a = All-from_recursion IsEncodable (far_jump rd here to) ((lit< tt, upper_below _), ((a, lit< tt, lower_within _), tt))

pub far_branch_encodable : (op : BranchOp) (rs1 rs2 here to : ℕ) → rs1 < 32 → rs2 < 32 → AreEncodable (far_branch op rs1 rs2 here to)
far_branch_encodable op rs1 rs2 here to a b =
    All-from_recursion IsEncodable (far_branch op rs1 rs2 here to) ((a, b, lit< tt, refl), ((lit< tt, upper_below _), ((lit< tt, lit< tt, lower_within _), tt)))

pub address_encodable : (rd here to : ℕ) → rd < 32 → AreEncodable (address_form rd here to)
address_encodable rd here to a = All-from_recursion IsEncodable (address_form rd here to) ((a, upper_below _), ((a, a, lower_within _), tt))

pub word_encodable : (rd n : ℕ) → rd < 32 → AreEncodable (word_form rd n)
word_encodable rd n a = All-from_recursion IsEncodable (word_form rd n) ((a, upper_below n), ((a, a, lower_within n), tt))

eleven_below : (n : ℕ) → n % 2 ^ 11 < 2 ^ 11
eleven_below n = mod_below n (2 ^ 11) (lit< tt)

ten_below : (n : ℕ) → n % 2 ^ 10 < 2 ^ 11
ten_below n = omega arith

pub double_encodable : (rd n : ℕ) → rd < 32 → AreEncodable (double_form rd n)
double_encodable rd n a =
    All-from_recursion IsEncodable (double_form rd n)
    ((a, upper_below _), ((a, a, lower_within _), ((a, a, lit< tt), ((a, a, eleven_below _), ((a, a, lit< tt), ((a, a, eleven_below _), ((a, a, lit< tt), ((a, a, ten_below n), tt))))))))

-- ---- what reaches

-- a near item that is reached reaches
pub near_reaches : (near reach : Bool) → near ≡ true → (not near || reach) ≡ true → reach ≡ true
near_reaches true reach e h = h
near_reaches false reach e h = absurd (true≢false (sym e))

-- an offset of 13 bits fits 16
pub offset_fits : (here to : ℕ) → is_within 1024 here to ≡ true → FitsSigned w16 (offset_between here to)
offset_fits here to h =
    let P : ℤ → Type 0 = λ z. FitsSigned w16 z in
    elim (cases_lt to here) [
      | inl k ↦ subst P (sym (offset_back here to k)) (record { sfits = omega (arith, behind 1024 here to h k) })
      | inr k ↦ subst P (sym (offset_on here to k)) (record { sfits = omega (arith, ahead 1024 here to h k) })
    ]
