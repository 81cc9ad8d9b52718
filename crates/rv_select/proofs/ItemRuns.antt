-- Runs of the machine of items, from their first step.
use Rattle.std.proofs.Common.{◌≡◌, ◌≢◌, ℕ, suc, ◌+◌, sym, ap, ◌∙◌}
use Rattle.fy_base.specs.Outside.{IsPrefix}
use Rattle.fy_runs.proofs.Runs as laws
use Rattle.pe_code.specs.declared.code.PeCode.{PeCode}
use Rattle.pe_machine.specs.Run.{going, stuck}
use Rattle.pe_items.specs.Run.{ItemRun, item_machine, tick, after_more}

pub none_more : (code : PeCode) (r : ItemRun) → after_more code 0 r ≡ r
none_more code r = laws.after_zero (item_machine code) r

pub first_more : (code : PeCode) (n : ℕ) (r : ItemRun) → after_more code (suc n) r ≡ after_more code n (tick code r)
first_more code n r = laws.after_first (item_machine code) n r

pub both_more : (code : PeCode) (n m : ℕ) (r : ItemRun) → after_more code (n + m) r ≡ after_more code m (after_more code n r)
both_more code n m r = laws.after_both (item_machine code) n m r

-- a run that isn't going stays
pub run_stays : (code : PeCode) (n : ℕ) (r : ItemRun) → r.standing ≢ going → after_more code n r ≡ r
run_stays code n r over = laws.over_stays (item_machine code) n r over

pub run_grows : (code : PeCode) (n : ℕ) (r : ItemRun) → IsPrefix r.output (after_more code n r).output
run_grows code n r = laws.grows (item_machine code) n r

-- a run that isn't stuck later isn't stuck
pub stuck_later : (code : PeCode) (n : ℕ) (r : ItemRun) → (after_more code n r).standing ≢ stuck → r.standing ≢ stuck
stuck_later code n r h e = h (ap (λ (q : ItemRun). q.standing) (run_stays code n r (λ g. let z : stuck ≡ going = sym e ∙ g in cc)) ∙ e)
