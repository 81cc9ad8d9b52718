use Rattle.std.proofs.Common.{◌≡◌, map, take}
use Rattle.fy_types.specs.Reading.{plain_type, types_in}
use Rattle.fy_phrase.proofs.copying.copy_types.Given as goal

abbrev pub invariant-loop-ty : goal.invariant-loop-ty
invariant-loop-ty l = map plain_type (types_in l.made) ≡ map plain_type (take l.ty-index l.ty-items)
