-- What a verdict on a derivation says.
use Rattle.std.proofs.Common.{◌≡◌, ◌≢◌, ℕ, Bool, true, false, refl, sym, ap, ◌∙◌}
use Rattle.std.specs.Prelude.{Option, Some, None, if◌then◌else◌}
use Rattle.fy_types.specs.Types.{PlainType}
use Rattle.fy_derive.specs.Judging.{Judged, concludes, stops, refusal_at}
use Rattle.fy_derive.specs.Rules.{same_type}
use Rattle.fy_derive.proofs.RuleLemmas.{same_type-true, same_type-refl}

-- the whole is refused unless the test holds
abbrev whole_refused : Bool → Option ℕ
whole_refused b = if b then None else Some 0

test-true : (b : Bool) → whole_refused b ≡ None → b ≡ true
test-true true e = refl
test-true false e = absurd (cc)

-- what isn't refused concludes the type
pub verdict-concludes : (T : PlainType) (j : Judged) → refusal_at T j ≡ None → j ≡ concludes T
verdict-concludes T (concludes A) e = ap concludes (same_type-true A T (test-true (same_type A T) e))
verdict-concludes T (stops n) e = absurd (cc)

-- and what is refused doesn't
pub verdict-refuses : (T : PlainType) (j : Judged) (n : ℕ) → refusal_at T j ≡ Some n → j ≢ concludes T
verdict-refuses T j n e f =
    let same : refusal_at T j ≡ whole_refused (same_type T T) = ap (refusal_at T) f in
    let passed : whole_refused (same_type T T) ≡ None = ap whole_refused (same_type-refl T) in
    let none : Some n ≡ None = sym e ∙ (same ∙ passed) in
    absurd (cc)
