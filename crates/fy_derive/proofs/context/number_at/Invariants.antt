use Rattle.std.proofs.Common.{◌≡◌, slice_get}
use Rattle.fy_derive.specs.Contexts.{numbers}
use Rattle.fy_derive.proofs.context.number_at.Given as goal

abbrev pub invariant-loop-rest : goal.invariant-loop-rest
invariant-loop-rest l = slice_get (numbers l.rest) l.left ≡ slice_get (numbers l.context) l.variable
