use Rattle.std.proofs.Common.{◌≡◌, map, take}
use Rattle.fy_types.specs.Reading.{plain_type, types_in}
use Rattle.fy_types.proofs.copy.+copy_ty.Given as goal

abbrev pub invariant-copy_list-loop-ty : goal.invariant-copy_list-loop-ty
invariant-copy_list-loop-ty l = map plain_type (types_in l.made) ≡ map plain_type (take l.ty-index l.ty-items)
