use Rattle.std.proofs.Common.{◌≡◌, slice_get}
use Rattle.pe_shapes.specs.Contexts.{bounds}
use Rattle.pe_shapes.proofs.context.bound_at.Given as goal

abbrev pub invariant-loop-rest : goal.invariant-loop-rest
invariant-loop-rest l = slice_get (bounds l.rest) l.left ≡ slice_get (bounds l.context) l.variable
