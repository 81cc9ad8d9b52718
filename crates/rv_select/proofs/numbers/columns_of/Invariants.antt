use Rattle.std.proofs.Common.{◌≡◌, ℕ, ◌+◌, nat_eq, length, drop, unwrap_or}
use Rattle.indexmap.specs.IndexMap.{get}
use Rattle.rv_select.specs.Numbers.{place_in}
use Rattle.rv_select.proofs.numbers.columns_of.Given as goal

abbrev pub invariant-loop-place : goal.invariant-loop-place
invariant-loop-place l = (n : ℕ) → unwrap_or (get nat_eq l.columns n) (length l.nodes) ≡ l.place + place_in (drop l.place l.nodes) n
