-- The instructions of the process are encodable.
use Rattle.std.proofs.Common.{◌≡◌, ℕ, ◌+◌, ◌-◌, ◌*◌, ◌/◌, ◌%◌, ◌^◌, ◌<◌, ◌≤◌, ℤ, pos, negsuc, Bool, true, false, ◌&&◌, if◌then◌else◌, List, [], ◌∷◌, ◌++◌, length, All, refl, sym, ap, ◌∙◌, subst, arith, lit<, inl, inr}
use Rattle.std.specs.Prelude.{flat_map, nat_lt, nat_eq}
use Rattle.std.specs.List.{AllByRecursion}
use Rattle.std.proofs.lemmas.Bool.{cases_lt, ltb-true, eqb-true, lt-ltb, le-ltb}
use Rattle.std.proofs.lemmas.List.Elements.{All-from_recursion}
use Rattle.rv_insn.specs.declared.instructions.Insn.{Insn}
use Rattle.rv_insn.specs.declared.instructions.Insn.TheVariants.{Reg, Imm, Shift, Load, Store, Branch, Lui, Auipc, Jal, Jalr, Fence, Ecall}
use Rattle.rv_insn.specs.Encoding.{IsEncodable, IsWithin, IsEven, amount_bits}
use Rattle.fy_linux.specs.Stubs.{upper, lower, set, call, begin_stub, clear_stub, start_stub, middle_stubs, note_stub, say_stub, stubs}
use Rattle.fy_linux.specs.Mnemonics.{lui, addi, jalr}

-- ---- a test that computes

abbrev within : ℕ → ℤ → Bool
within n (pos z) = nat_lt z n
within n (negsuc z) = nat_lt z n

abbrev even : ℤ → Bool
even (pos z) = nat_eq (z % 2) 0
even (negsuc z) = nat_eq (z % 2) 1

abbrev fits : Insn → Bool
fits (Lui rd high) = nat_lt rd 32 && nat_lt high (2 ^ 20)
fits (Auipc rd high) = nat_lt rd 32 && nat_lt high (2 ^ 20)
fits (Jal rd offset) = nat_lt rd 32 && (within (2 ^ 20) offset && even offset)
fits (Jalr rd base imm) = nat_lt rd 32 && (nat_lt base 32 && within (2 ^ 11) imm)
fits (Branch op rs1 rs2 offset) = nat_lt rs1 32 && (nat_lt rs2 32 && (within (2 ^ 12) offset && even offset))
fits (Load op rd base imm) = nat_lt rd 32 && (nat_lt base 32 && within (2 ^ 11) imm)
fits (Store op rs2 base imm) = nat_lt rs2 32 && (nat_lt base 32 && within (2 ^ 11) imm)
fits (Imm op rd rs1 imm) = nat_lt rd 32 && (nat_lt rs1 32 && within (2 ^ 11) imm)
fits (Shift op rd rs1 amount) = nat_lt rd 32 && (nat_lt rs1 32 && nat_lt amount (2 ^ amount_bits op))
fits (Reg op rd rs1 rs2) = nat_lt rd 32 && (nat_lt rs1 32 && nat_lt rs2 32)
fits (Fence rd rs1 imm) = nat_lt rd 32 && (nat_lt rs1 32 && within (2 ^ 11) imm)
fits Ecall = true

first_of_two : (a b : Bool) → (a && b) ≡ true → a ≡ true
first_of_two true b h = refl
first_of_two false b h = absurd (cc)

second_of_two : (a b : Bool) → (a && b) ≡ true → b ≡ true
second_of_two true b h = h
second_of_two false b h = absurd (cc)

is_within : (n : ℕ) (z : ℤ) → within n z ≡ true → IsWithin n z
is_within n (pos z) h = ltb-true z n h
is_within n (negsuc z) h = ltb-true z n h

is_even : (z : ℤ) → even z ≡ true → IsEven z
is_even (pos z) h = eqb-true (z % 2) 0 h
is_even (negsuc z) h = eqb-true (z % 2) 1 h

-- the parts of a test of three
abbrev one_of : (a b c : Bool) → (a && (b && c)) ≡ true → a ≡ true
one_of a b c h = first_of_two a (b && c) h

abbrev two_of : (a b c : Bool) → (a && (b && c)) ≡ true → b ≡ true
two_of a b c h = first_of_two b c (second_of_two a (b && c) h)

abbrev three_of : (a b c : Bool) → (a && (b && c)) ≡ true → c ≡ true
three_of a b c h = second_of_two b c (second_of_two a (b && c) h)

is_encodable : (insn : Insn) → fits insn ≡ true → IsEncodable insn
is_encodable (Lui rd high) h = (ltb-true rd 32 (first_of_two (nat_lt rd 32) (nat_lt high (2 ^ 20)) h), ltb-true high (2 ^ 20) (second_of_two (nat_lt rd 32) (nat_lt high (2 ^ 20)) h))
is_encodable (Auipc rd high) h = (ltb-true rd 32 (first_of_two (nat_lt rd 32) (nat_lt high (2 ^ 20)) h), ltb-true high (2 ^ 20) (second_of_two (nat_lt rd 32) (nat_lt high (2 ^ 20)) h))
is_encodable (Jal rd offset) h = (ltb-true rd 32 (one_of (nat_lt rd 32) (within (2 ^ 20) offset) (even offset) h), is_within (2 ^ 20) offset (two_of (nat_lt rd 32) (within (2 ^ 20) offset) (even offset) h), is_even offset (three_of (nat_lt rd 32) (within (2 ^ 20) offset) (even offset) h))
is_encodable (Jalr rd base imm) h = (ltb-true rd 32 (one_of (nat_lt rd 32) (nat_lt base 32) (within (2 ^ 11) imm) h), ltb-true base 32 (two_of (nat_lt rd 32) (nat_lt base 32) (within (2 ^ 11) imm) h), is_within (2 ^ 11) imm (three_of (nat_lt rd 32) (nat_lt base 32) (within (2 ^ 11) imm) h))
is_encodable (Branch op rs1 rs2 offset) h =
    let rest = second_of_two (nat_lt rs1 32) (nat_lt rs2 32 && (within (2 ^ 12) offset && even offset)) h in (
      ltb-true rs1 32 (first_of_two (nat_lt rs1 32) (nat_lt rs2 32 && (within (2 ^ 12) offset && even offset)) h),
      ltb-true rs2 32 (one_of (nat_lt rs2 32) (within (2 ^ 12) offset) (even offset) rest),
      is_within (2 ^ 12) offset (two_of (nat_lt rs2 32) (within (2 ^ 12) offset) (even offset) rest),
      is_even offset (three_of (nat_lt rs2 32) (within (2 ^ 12) offset) (even offset) rest),
    )
is_encodable (Load op rd base imm) h = (ltb-true rd 32 (one_of (nat_lt rd 32) (nat_lt base 32) (within (2 ^ 11) imm) h), ltb-true base 32 (two_of (nat_lt rd 32) (nat_lt base 32) (within (2 ^ 11) imm) h), is_within (2 ^ 11) imm (three_of (nat_lt rd 32) (nat_lt base 32) (within (2 ^ 11) imm) h))
is_encodable (Store op rs2 base imm) h = (ltb-true rs2 32 (one_of (nat_lt rs2 32) (nat_lt base 32) (within (2 ^ 11) imm) h), ltb-true base 32 (two_of (nat_lt rs2 32) (nat_lt base 32) (within (2 ^ 11) imm) h), is_within (2 ^ 11) imm (three_of (nat_lt rs2 32) (nat_lt base 32) (within (2 ^ 11) imm) h))
is_encodable (Imm op rd rs1 imm) h = (ltb-true rd 32 (one_of (nat_lt rd 32) (nat_lt rs1 32) (within (2 ^ 11) imm) h), ltb-true rs1 32 (two_of (nat_lt rd 32) (nat_lt rs1 32) (within (2 ^ 11) imm) h), is_within (2 ^ 11) imm (three_of (nat_lt rd 32) (nat_lt rs1 32) (within (2 ^ 11) imm) h))
is_encodable (Shift op rd rs1 amount) h = (ltb-true rd 32 (one_of (nat_lt rd 32) (nat_lt rs1 32) (nat_lt amount (2 ^ amount_bits op)) h), ltb-true rs1 32 (two_of (nat_lt rd 32) (nat_lt rs1 32) (nat_lt amount (2 ^ amount_bits op)) h), ltb-true amount (2 ^ amount_bits op) (three_of (nat_lt rd 32) (nat_lt rs1 32) (nat_lt amount (2 ^ amount_bits op)) h))
is_encodable (Reg op rd rs1 rs2) h = (ltb-true rd 32 (one_of (nat_lt rd 32) (nat_lt rs1 32) (nat_lt rs2 32) h), ltb-true rs1 32 (two_of (nat_lt rd 32) (nat_lt rs1 32) (nat_lt rs2 32) h), ltb-true rs2 32 (three_of (nat_lt rd 32) (nat_lt rs1 32) (nat_lt rs2 32) h))
is_encodable (Fence rd rs1 imm) h = (ltb-true rd 32 (one_of (nat_lt rd 32) (nat_lt rs1 32) (within (2 ^ 11) imm) h), ltb-true rs1 32 (two_of (nat_lt rd 32) (nat_lt rs1 32) (within (2 ^ 11) imm) h), is_within (2 ^ 11) imm (three_of (nat_lt rd 32) (nat_lt rs1 32) (within (2 ^ 11) imm) h))
is_encodable Ecall h = tt

abbrev all_fit : List Insn → Bool
all_fit [] = true
all_fit (insn ∷ insns) = fits insn && all_fit insns

abbrev pub AreEncodable : List Insn → Type 0
AreEncodable insns = AllByRecursion IsEncodable insns

by_test : (insns : List Insn) → all_fit insns ≡ true → AreEncodable insns
by_test [] h = tt
by_test (insn ∷ insns) h = (is_encodable insn (first_of_two (fits insn) (all_fit insns) h), by_test insns (second_of_two (fits insn) (all_fit insns) h))

pub both_encodable : (a b : List Insn) → AreEncodable a → AreEncodable b → AreEncodable (a ++ b)
both_encodable [] b ha hb = hb
both_encodable (insn ∷ a) b ha hb = (ha.0, both_encodable a b ha.1 hb)

-- ---- numbers

upper_below : (n : ℕ) → n < 2 ^ 31 → upper n < 2 ^ 20
unfolding upper
upper_below n small = omega arith

lower_within : (n : ℕ) → IsWithin (2 ^ 11) (lower n)
unfolding lower
lower_within n = elim (cases_lt (n % 4096) 2048) [
  | inl h ↦ rw (lt-ltb (n % 4096) 2048 h) h
  | inr h ↦ rw (le-ltb (n % 4096) 2048 h) (omega arith)
]

set_encodable : (rd n : ℕ) → rd < 32 → n < 2 ^ 31 → AreEncodable (set rd n)
set_encodable rd n low small = ((low, upper_below n small), ((low, low, lower_within n), tt))

pub call_encodable : (address : ℕ) → address < 2 ^ 31 → AreEncodable (call address)
call_encodable address small = ((lit< tt, upper_below address small), ((lit< tt, lit< tt, lower_within address), tt))

-- ---- the stubs

pub stubs_encodable : (stack_end notes : ℕ) → stack_end < 2 ^ 31 → notes < 2 ^ 31 → AreEncodable (stubs stack_end notes)
stubs_encodable stack_end notes low small =
    both_encodable (start_stub stack_end) (middle_stubs ++ say_stub notes)
    (is_encodable (lui 2 262144) refl, both_encodable (set 3 stack_end) (begin_stub ++ clear_stub) (set_encodable 3 stack_end (lit< tt) low) (by_test (begin_stub ++ clear_stub) refl))
    (both_encodable middle_stubs (say_stub notes) (by_test middle_stubs refl)
    (both_encodable (set 15 notes) note_stub (set_encodable 15 notes (lit< tt) small) (by_test note_stub refl)))
