-- Laws of runs, step by step.
use Rattle.std.proofs.Common.{◌≡◌, ◌≢◌, ℕ, zero, suc, ◌+◌, ◌-◌, ◌≤◌, max, Bool, true, false, if◌then◌else◌, sym, ap, ◌∙◌, refl, arith, subst, inl, inr}
use Rattle.std.proofs.lemmas.Bool.{cases_lt}
use Rattle.fy_base.specs.Outside.{IsPrefix}
use Rattle.fy_runs.specs.Runs.{Move, goes, puts, takes, stops, Machine, Run, settled, ticked, tick, after, peak}
use Rattle.fy_runs.proofs.Outer.{prefix_all, prefix_more}

pub after_zero : {S T : Type 0} (m : Machine S T) (r : Run S T) → after m zero r ≡ r
unfolding after
after_zero m r = refl

pub after_suc : {S T : Type 0} (m : Machine S T) (n : ℕ) (r : Run S T) → after m (suc n) r ≡ tick m (after m n r)
unfolding after
after_suc m n r = refl

pub after_one : {S T : Type 0} (m : Machine S T) (r : Run S T) → after m 1 r ≡ tick m r
unfolding after
after_one m r = refl

pub after_more : {S T : Type 0} (m : Machine S T) (n : ℕ) (r : Run S T) → after m (n + 1) r ≡ tick m (after m n r)
after_more m n r = let e : n + 1 ≡ suc n = omega arith in ap (λ k. after m k r) e ∙ after_suc m n r

-- k steps and then n
pub after_both : {S T : Type 0} (m : Machine S T) (k n : ℕ) (r : Run S T) → after m (k + n) r ≡ after m n (after m k r)
after_both m k zero r = let e : k + 0 ≡ k = omega arith in ap (λ j. after m j r) e ∙ sym (after_zero m (after m k r))
after_both m k (suc n) r =
    let e : k + suc n ≡ suc (k + n) = omega arith in
    ap (λ j. after m j r) e ∙ after_suc m (k + n) r ∙ ap (λ x. tick m x) (after_both m k n r) ∙ sym (after_suc m n (after m k r))

-- a step and then n
pub after_first : {S T : Type 0} (m : Machine S T) (n : ℕ) (r : Run S T) → after m (suc n) r ≡ after m n (tick m r)
after_first m n r = let e : suc n ≡ 1 + n = omega arith in ap (λ j. after m j r) e ∙ after_both m 1 n r ∙ ap (λ x. after m n x) (after_one m r)

-- what holds of a run and stays at each step holds after any number of them
pub along : {S T : Type 0} (P : Run S T → Type 0) (m : Machine S T) → ((r : Run S T) → P r → P (tick m r)) → (n : ℕ) (r : Run S T) → P r → P (after m n r)
along P m more zero r h = subst P (sym (after_zero m r)) h
along P m more (suc n) r h = subst P (sym (after_suc m n r)) (more (after m n r) (along P m more n r h))

-- ---- runs that are over

tick_stays : {S T : Type 0} (m : Machine S T) (r : Run S T) → r.standing ≢ m.going → tick m r ≡ r
tick_stays m r over = ap (λ b. if b then settled m.standing (m.step r.state) r else r) (m.off r.standing over)

-- a run that isn't going stays
pub over_stays : {S T : Type 0} (m : Machine S T) (n : ℕ) (r : Run S T) → r.standing ≢ m.going → after m n r ≡ r
over_stays m zero r over = after_zero m r
over_stays m (suc n) r over = after_suc m n r ∙ ap (λ x. tick m x) (over_stays m n r over) ∙ tick_stays m r over

pub over_later : {S T : Type 0} (m : Machine S T) (k n : ℕ) (r : Run S T) → (after m k r).standing ≢ m.going → k ≤ n → after m n r ≡ after m k r
over_later m k n r over le =
    let e : n ≡ k + (n - k) = omega arith in
    ap (λ j. after m j r) e ∙ after_both m k (n - k) r ∙ over_stays m (n - k) (after m k r) over

-- ---- steps whose move is known

-- a run that goes on makes the step of its state
pub ticks_from : {S T : Type 0} (m : Machine S T) (r : Run S T) → r.standing ≡ m.going → tick m r ≡ settled m.standing (m.step r.state) r
ticks_from m r going =
    ap (λ t. ticked m t r) going ∙ ap (λ b. if b then settled m.standing (m.step r.state) r else r) m.on

pub ticks : {S T : Type 0} (m : Machine S T) (r : Run S T) (s : S) (move : Move S T) → r.state ≡ s → r.standing ≡ m.going → m.step s ≡ move → tick m r ≡ settled m.standing move r
ticks m r s move state going is = ticks_from m r going ∙ ap (λ x. settled m.standing x r) (ap (λ x. m.step x) state ∙ is)

-- ---- the output only grows

settled_grows : {S T : Type 0} (m : Machine S T) (move : Move S T) (r : Run S T) → IsPrefix r.output (settled m.standing move r).output
settled_grows m (goes s) r = prefix_all r.output
settled_grows m (puts text s) r = record { rest = text; is = refl }
settled_grows m (takes go) r = prefix_all r.output
settled_grows m (stops t s) r = prefix_all r.output

ticked_grows : {S T : Type 0} (m : Machine S T) (b : Bool) (r : Run S T) → IsPrefix r.output (if b then settled m.standing (m.step r.state) r else r).output
ticked_grows m true r = settled_grows m (m.step r.state) r
ticked_grows m false r = prefix_all r.output

pub grows : {S T : Type 0} (m : Machine S T) (n : ℕ) (r : Run S T) → IsPrefix r.output (after m n r).output
grows m n r =
    along (λ x. IsPrefix r.output x.output) m (λ x h. prefix_more r.output x.output (tick m x).output h (ticked_grows m (m.goes_on x.standing) x)) n r
    (prefix_all r.output)

pub outputs_grow : {S T : Type 0} (m : Machine S T) (r : Run S T) (n k : ℕ) → n ≤ k → IsPrefix (after m n r).output (after m k r).output
outputs_grow m r n k le =
    let e : n + (k - n) ≡ k = omega arith in
    subst (λ x. IsPrefix (after m n r).output x.output) (sym (after_both m n (k - n) r) ∙ ap (λ j. after m j r) e) (grows m (k - n) (after m n r))

-- ---- the greatest of a measure

pub peak_zero : {S T : Type 0} (measure : S → ℕ) (m : Machine S T) (r : Run S T) → peak measure m r 0 ≡ measure (after m 0 r).state
unfolding peak
peak_zero measure m r = refl

pub peak_suc : {S T : Type 0} (measure : S → ℕ) (m : Machine S T) (r : Run S T) (n : ℕ) → peak measure m r (suc n) ≡ max (peak measure m r n) (measure (after m (suc n) r).state)
unfolding peak
peak_suc measure m r n = refl

pub peak_more : {S T : Type 0} (measure : S → ℕ) (m : Machine S T) (r : Run S T) (n : ℕ) → peak measure m r (n + 1) ≡ max (peak measure m r n) (measure (after m (n + 1) r).state)
peak_more measure m r n =
    let e : suc n ≡ n + 1 = omega arith in
    subst (λ k. peak measure m r k ≡ max (peak measure m r n) (measure (after m k r).state)) e (peak_suc measure m r n)

-- each state's measure is at most the greatest of as many steps and more
pub measure_within : {S T : Type 0} (measure : S → ℕ) (m : Machine S T) (r : Run S T) (k n : ℕ) → k ≤ n → measure (after m k r).state ≤ peak measure m r n
measure_within measure m r k zero le =
    let e = peak_zero measure m r in
    let same : 0 ≡ k = omega arith in
    subst (λ j. measure (after m j r).state ≤ peak measure m r 0) same (omega arith)
measure_within measure m r k (suc n) le =
    let e = peak_suc measure m r n in
    elim (cases_lt k (suc n)) [
      | inl less ↦ let before = measure_within measure m r k n (omega arith) in omega arith
      | inr more ↦ let same : suc n ≡ k = omega arith in subst (λ j. measure (after m j r).state ≤ peak measure m r (suc n)) same (omega arith)
    ]
