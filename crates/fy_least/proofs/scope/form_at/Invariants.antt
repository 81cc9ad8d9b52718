use Rattle.std.proofs.Common.{◌≡◌, slice_get}
use Rattle.fy_least.specs.Scopes.{scope_forms}
use Rattle.fy_least.proofs.scope.form_at.Given as goal

abbrev pub invariant-loop-rest : goal.invariant-loop-rest
invariant-loop-rest l = slice_get (scope_forms l.rest) l.left ≡ slice_get (scope_forms l.scope) l.variable
