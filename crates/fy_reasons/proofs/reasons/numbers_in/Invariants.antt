use Rattle.std.proofs.Common.{◌≡◌, ◌++◌}
use Rattle.fy_derive.specs.Contexts.{numbers}
use Rattle.fy_reasons.proofs.reasons.numbers_in.Given as goal

-- the numbers so far, in front of those that are left
abbrev pub invariant-loop-rest : goal.invariant-loop-rest
invariant-loop-rest l = l.all.items ++ numbers l.rest ≡ numbers l.context
