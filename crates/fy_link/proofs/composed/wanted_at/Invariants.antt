use Rattle.std.proofs.Common.{◌≡◌}
use Rattle.fy_link.specs.Placing.{plain_wanted}
use Rattle.fy_link.proofs.composed.wanted_at.Given as goal

abbrev pub invariant-loop-rest : goal.invariant-loop-rest
invariant-loop-rest l = plain_wanted l.rest l.left ≡ plain_wanted l.wanted l.variable
