use Rattle.std.proofs.Common.{◌≡◌, map, take}
use Rattle.fy_types.specs.Reading.{plain_type}
use Rattle.fy_least.specs.Scopes.{outer_type}
use Rattle.fy_least.proofs.context.Context.of.Given as goal

abbrev pub invariant-loop-ty : goal.invariant-loop-ty
invariant-loop-ty l = map outer_type l.outers.items ≡ map plain_type (take l.ty-index l.types)
