-- Runs of the word machine, one behind the other, with what they cost.
use Rattle.std.proofs.Common.{◌≡◌, ℕ, zero, suc, ◌+◌, ◌≤◌, List, refl, sym, ap, ◌∙◌, subst, arith}
use Rattle.rv_word.specs.declared.micros.Micro.{Micro}
use Rattle.rv_word.specs.Word.{Data, Code, State, Led, goes, after_step, does_first, led_on, word_run}
use Rattle.rv_word.specs.Costs.{next_cost, led_cost, spent}

-- n steps and then m
pub led_on-add : (code : Code) (n m : ℕ) (r : Led) → led_on code (n + m) r ≡ led_on code m (led_on code n r)
unfolding led_on
led_on-add code n zero r = let e : n + zero ≡ n = omega arith in ap (λ k. led_on code k r) e
led_on-add code n (suc m) r =
    let e : n + suc m ≡ suc (n + m) = omega arith in
    ap (λ k. led_on code k r) e ∙ ap (after_step code) (led_on-add code n m r)

spent-add : (code : Code) (n m : ℕ) (s t : State) → word_run code n s ≡ goes t → spent code (n + m) s ≡ spent code n s + spent code m t
unfolding spent
spent-add code n zero s t e = let z : n + zero ≡ n = omega arith in ap (λ k. spent code k s) z ∙ (omega arith)
spent-add code n (suc m) s t e =
    let z : n + suc m ≡ suc (n + m) = omega arith in
    let here : word_run code (n + m) s ≡ word_run code m t = led_on-add code n m (goes s) ∙ ap (led_on code m) e in
    let cost : led_cost (word_run code (n + m) s) ≡ led_cost (word_run code m t) = ap led_cost here in
    let before : spent code (n + m) s ≡ spent code n s + spent code m t = spent-add code n m s t e in
    ap (λ k. spent code k s) z ∙ (omega (arith, cost, before))

-- at least so many steps lead from a state to another, at a cost
pub record Comes (code : Code) (s t : State) (least most : ℕ) : Type 0 where
  pub steps : ℕ
  pub least_is : least ≤ steps
  pub leads : word_run code steps s ≡ goes t
  pub cost : spent code steps s ≤ most

pub stays : (code : Code) (s : State) → Comes code s s 0 0
unfolding led_on spent
stays code s = record { steps = 0; least_is = omega arith; leads = refl; cost = omega arith }

pub one : (code : Code) (s t : State) → does_first code s.rest s.held ≡ goes t → Comes code s t 1 (next_cost s.rest)
unfolding led_on spent
one code s t e = record { steps = 1; least_is = omega arith; leads = e; cost = omega arith }

pub join : {code : Code} {s t u : State} {a b c d : ℕ} → Comes code s t a b → Comes code t u c d → Comes code s u (a + c) (b + d)
join {code} {s} {t} {u} {a} {b} {c} {d} p q =
    let sum : spent code (p.steps + q.steps) s ≡ spent code p.steps s + spent code q.steps t = spent-add code p.steps q.steps s t p.leads in
    let first = p.cost in
    let then = q.cost in
    let low = p.least_is in
    let lower = q.least_is in
    record {
      steps = p.steps + q.steps;
      least_is = omega arith;
      leads = led_on-add code p.steps q.steps (goes s) ∙ ap (led_on code q.steps) p.leads ∙ q.leads;
      cost = omega (arith, sum);
    }

pub wider : {code : Code} {s t : State} {a b : ℕ} (c d : ℕ) → c ≤ a → b ≤ d → Comes code s t a b → Comes code s t c d
wider c d low high p =
    let least = p.least_is in
    let cost = p.cost in
    record { steps = p.steps; least_is = omega arith; leads = p.leads; cost = omega arith }

abbrev pub at : List Micro → Data → State
at rest e = record { rest = rest; held = e }

-- a block known by its operations
pub from : {code : Code} {block ops : List Micro} {e : Data} {t : State} {a b : ℕ} → block ≡ ops → Comes code (at ops e) t a b → Comes code (at block e) t a b
from {code} {block} {ops} {e} {t} {a} {b} h p = subst (λ (l : List Micro). Comes code (at l e) t a b) (sym h) p
