-- The numbers of registers, and numbers as two halves.
use Rattle.std.proofs.Common.{◌≡◌, ◌⊎◌, ℕ, zero, suc, ◌+◌, ◌-◌, ◌*◌, ◌/◌, ◌%◌, ◌^◌, ◌<◌, ◌≤◌, ℤ, pos, negsuc, Bool, true, false, not, nat_eq, nat_lt, if◌then◌else◌, arith, refl, sym, inl, inr, lit<}
use Rattle.std.proofs.lemmas.Bool.{true≢false, ltb-true, ltb-false, eqb-false}
use Rattle.rv_guard.specs.Patterns.{value, below, IsNatural, IsCheckable}
use Rattle.rv_word.specs.declared.micros.Register.{Register}
use Rattle.rv_word.specs.declared.micros.Register.TheVariants.{Zero, Frame, Context, Top, Datum, First, Second, Third}
use Rattle.rv_word.specs.Word.{Named, get, set}
use Rattle.rv_word.specs.Discipline.{is_zero}
use Rattle.rv_flow.specs.Lowering.{number_of, upper_part, lower_part, minus}

-- what is true of the number of each register: it isn't one of those that patterns and services take
pub record IsNumber (n : ℕ) : Type 0 where
  pub below : n < 32
  pub keeps_2 : nat_eq n 2 ≡ false
  pub keeps_3 : nat_eq n 3 ≡ false
  pub keeps_4 : nat_eq n 4 ≡ false
  pub not_10 : nat_eq n 10 ≡ false
  pub not_17 : nat_eq n 17 ≡ false
  pub not_31 : nat_eq n 31 ≡ false

pub numbered : (r : Register) → IsNumber (number_of r)
numbered Zero = record { below = lit< tt; keeps_2 = refl; keeps_3 = refl; keeps_4 = refl; not_10 = refl; not_17 = refl; not_31 = refl }
numbered Frame = record { below = lit< tt; keeps_2 = refl; keeps_3 = refl; keeps_4 = refl; not_10 = refl; not_17 = refl; not_31 = refl }
numbered Context = record { below = lit< tt; keeps_2 = refl; keeps_3 = refl; keeps_4 = refl; not_10 = refl; not_17 = refl; not_31 = refl }
numbered Top = record { below = lit< tt; keeps_2 = refl; keeps_3 = refl; keeps_4 = refl; not_10 = refl; not_17 = refl; not_31 = refl }
numbered Datum = record { below = lit< tt; keeps_2 = refl; keeps_3 = refl; keeps_4 = refl; not_10 = refl; not_17 = refl; not_31 = refl }
numbered First = record { below = lit< tt; keeps_2 = refl; keeps_3 = refl; keeps_4 = refl; not_10 = refl; not_17 = refl; not_31 = refl }
numbered Second = record { below = lit< tt; keeps_2 = refl; keeps_3 = refl; keeps_4 = refl; not_10 = refl; not_17 = refl; not_31 = refl }
numbered Third = record { below = lit< tt; keeps_2 = refl; keeps_3 = refl; keeps_4 = refl; not_10 = refl; not_17 = refl; not_31 = refl }

-- what is true of the number of each register but Zero
pub by_number : (P : ℕ → Type 0) → P 5 → P 6 → P 7 → P 8 → P 9 → P 12 → P 13 → (r : Register) → not (is_zero r) ≡ true → P (number_of r)
by_number P p5 p6 p7 p8 p9 p12 p13 Zero h = absurd (true≢false (sym h))
by_number P p5 p6 p7 p8 p9 p12 p13 Frame h = p5
by_number P p5 p6 p7 p8 p9 p12 p13 Context h = p6
by_number P p5 p6 p7 p8 p9 p12 p13 Top h = p7
by_number P p5 p6 p7 p8 p9 p12 p13 Datum h = p8
by_number P p5 p6 p7 p8 p9 p12 p13 First h = p9
by_number P p5 p6 p7 p8 p9 p12 p13 Second h = p12
by_number P p5 p6 p7 p8 p9 p12 p13 Third h = p13

checkable_number : (n : ℕ) → nat_eq n 0 ≡ false → IsNumber n → IsCheckable n
checkable_number n zero_not h = record {
  not_x0 = λ e. eqb-false n 0 zero_not e;
  not_x2 = λ e. eqb-false n 2 h.keeps_2 e;
  not_x3 = λ e. eqb-false n 3 h.keeps_3 e;
  not_x4 = λ e. eqb-false n 4 h.keeps_4 e;
  not_x31 = λ e. eqb-false n 31 h.not_31 e;
}

pub not_x0 : (r : Register) → not (is_zero r) ≡ true → nat_eq (number_of r) 0 ≡ false
not_x0 = by_number (λ n. nat_eq n 0 ≡ false) refl refl refl refl refl refl refl

-- a check can speak of it
pub checkable : (r : Register) → not (is_zero r) ≡ true → IsCheckable (number_of r)
checkable r h = checkable_number (number_of r) (not_x0 r h) (numbered r)

-- two registers are one, or their numbers differ
pub same_or_not : (r q : Register) → (r ≡ q) ⊎ (nat_eq (number_of r) (number_of q) ≡ false)
same_or_not Zero Zero = inl refl
same_or_not Frame Frame = inl refl
same_or_not Context Context = inl refl
same_or_not Top Top = inl refl
same_or_not Datum Datum = inl refl
same_or_not First First = inl refl
same_or_not Second Second = inl refl
same_or_not Third Third = inl refl
same_or_not r q = inr refl

-- a register that isn't written is as before
pub set_other : (d : Named) (r q : Register) (k : ℕ) → nat_eq (number_of r) (number_of q) ≡ false → get (set d r k) q ≡ get d q
set_other d Zero q k h = refl
set_other d Frame Frame k h = absurd (true≢false h)
set_other d Context Context k h = absurd (true≢false h)
set_other d Top Top k h = absurd (true≢false h)
set_other d Datum Datum k h = absurd (true≢false h)
set_other d First First k h = absurd (true≢false h)
set_other d Second Second k h = absurd (true≢false h)
set_other d Third Third k h = absurd (true≢false h)
set_other d r q k h = refl

-- the negative of a number lies so far below 0
pub below_minus : (v : ℕ) → below (minus v) ≡ v
below_minus zero = refl
below_minus (suc v) = refl

-- ---- numbers as two halves

low_half : (v : ℕ) → v < 2 ^ 30 → v % 4096 < 2048 → ((v + 2048) / 4096 < 2 ^ 19) × (4096 * ((v + 2048) / 4096) + v % 4096 ≡ v)
low_half v h low = omega arith

high_half : (v : ℕ) → v < 2 ^ 30 → 2048 ≤ v % 4096
    → ((v + 2048) / 4096 < 2 ^ 19) × (suc (4095 - v % 4096) ≤ 4096 * ((v + 2048) / 4096)) × (4096 * ((v + 2048) / 4096) - suc (4095 - v % 4096) ≡ v)
high_half v h high = omega arith

pub record AreHalves (v : ℕ) : Type 0 where
  pub natural : IsNatural (upper_part v) (lower_part v)
  pub is : value (upper_part v) (lower_part v) ≡ v

pub halves : (v : ℕ) → v < 2 ^ 30 → AreHalves v
halves v h =
    let low : ℤ = pos (v % 4096) in
    let high : ℤ = negsuc (4095 - v % 4096) in
    let P : Bool → Type 0 = λ b. nat_lt (v % 4096) 2048 ≡ b → IsNatural (upper_part v) (if b then low else high) × (value (upper_part v) (if b then low else high) ≡ v) in
    let both : IsNatural (upper_part v) (lower_part v) × (value (upper_part v) (lower_part v) ≡ v) = elim (nat_lt (v % 4096) 2048) as P [
      | true ↦ λ e. low_half v h (ltb-true (v % 4096) 2048 e)
      | false ↦ λ e. let t = high_half v h (ltb-false (v % 4096) 2048 e) in ((t.0, t.1), t.2)
    ] refl in
    record { natural = both.0; is = both.1 }
