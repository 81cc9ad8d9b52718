-- One more name that is tried.
use Rattle.std.proofs.Common.{◌≡◌, ◌<◌, ◌≤◌, ℕ, zero, suc, ◌+◌, ◌-◌, Bool, true, false, if◌then◌else◌, refl, sym, ap, ◌∙◌, arith}
use Rattle.fy_base.specs.Outside.{Bytes}
use Rattle.fy_show.specs.Fresh.{like, first_free, most_names}
use Rattle.fy_show.specs.Laws.{FreshIsFree}

pub first_free-used : (used : Bytes → Bool) (x : Bytes) (n i : ℕ) → i < n → used (like x i) ≡ true → first_free used x (n - (i + 1)) (i + 1) ≡ first_free used x (n - i) i
first_free-used used x n i within h =
    let e : n - i ≡ suc (n - (i + 1)) = omega arith in
    sym (ap (λ m. first_free used x m i) e ∙ ap (λ b. if b then first_free used x (n - (i + 1)) (i + 1) else like x i) h)

pub first_free-unused : (used : Bytes → Bool) (x : Bytes) (n i : ℕ) → i < n → used (like x i) ≡ false → first_free used x (n - i) i ≡ like x i
first_free-unused used x n i within h =
    let e : n - i ≡ suc (n - (i + 1)) = omega arith in
    ap (λ m. first_free used x m i) e ∙ ap (λ b. if b then first_free used x (n - (i + 1)) (i + 1) else like x i) h

pub first_free-last : (used : Bytes → Bool) (x : Bytes) (n i : ℕ) → n ≤ i → first_free used x (n - i) i ≡ like x i
first_free-last used x n i past = let e : n - i ≡ zero = omega arith in ap (λ m. first_free used x m i) e

branch : (used : Bytes → Bool) (x : Bytes) (n i : ℕ) (b : Bool) → used (like x i) ≡ b → used (first_free used x n (i + 1)) ≡ false →
    used (if b then first_free used x n (i + 1) else like x i) ≡ false
branch used x n i true e later = later
branch used x n i false e later = e

-- the d-th name from the i-th on isn't used
free-among : (used : Bytes → Bool) (x : Bytes) (n i d : ℕ) → d ≤ n → used (like x (i + d)) ≡ false → used (first_free used x n i) ≡ false
free-among used x zero i zero le h = let e : i ≡ i + 0 = omega arith in ap (λ m. used (like x m)) e ∙ h
free-among used x zero i (suc d) le h = absurd (omega arith)
free-among used x (suc n) i zero le h =
    let e : i ≡ i + 0 = omega arith in
    let f : used (like x i) ≡ false = ap (λ m. used (like x m)) e ∙ h in
    ap (λ b. used (if b then first_free used x n (i + 1) else like x i)) f ∙ f
free-among used x (suc n) i (suc d) le h =
    let e : (i + 1) + d ≡ i + suc d = omega arith in
    branch used x n i (used (like x i)) refl (free-among used x n (i + 1) d (omega arith) (ap (λ m. used (like x m)) e ∙ h))

pub fresh-free : FreshIsFree
fresh-free used x i few h =
    let e : 0 + i ≡ i = omega arith in free-among used x most_names 0 i few (ap (λ m. used (like x m)) e ∙ h)
