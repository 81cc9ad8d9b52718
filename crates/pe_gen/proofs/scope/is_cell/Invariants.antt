use Rattle.std.proofs.Common.{◌≡◌, slice_get}
use Rattle.pe_gen.specs.Scopes.{binders}
use Rattle.pe_gen.proofs.scope.is_cell.Given as goal

abbrev pub invariant-loop-rest : goal.invariant-loop-rest
invariant-loop-rest l = slice_get (binders l.rest) l.left ≡ slice_get (binders l.scope) l.variable
