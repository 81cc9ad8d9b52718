use Rattle.std.specs.Prelude.{⊤}
use Rattle.fy_order.proofs.relation.are_few_met.Given as goal

abbrev pub invariant-loop-place : goal.invariant-loop-place
invariant-loop-place l = ⊤
