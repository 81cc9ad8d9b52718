use Rattle.std.proofs.Common.{◌≤◌}
use Rattle.fy_forms.specs.Keys.{lent}
use Rattle.fy_memo.specs.Bases.{IsSkipped}
use Rattle.fy_memo.proofs.known.skip.Given as goal

abbrev pub invariant-loop-place : goal.invariant-loop-place
invariant-loop-place l = IsSkipped l.wanted l.from l.place (lent l.initial.missing.items) (lent l.missing.items) × (l.place ≤ l.to)
