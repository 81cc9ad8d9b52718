use Rattle.std.proofs.Common.{◌↔◌, map, drop}
use Rattle.fy_types.specs.Paths.{end, all_paths}
use Rattle.fy_types.specs.PathOrder.{HasBelow}
use Rattle.fy_types.specs.Reading.{plain_type, plain_types, types_from}
use Rattle.fy_types.proofs.below.+has_end.Given as goal

abbrev pub invariant-has_member_end-loop-ty : goal.invariant-has_member_end-loop-ty
invariant-has_member_end-loop-ty l =
    HasBelow (all_paths (types_from (map plain_type (drop l.ty-index l.ty-items)))) (end l.end)
    ↔ HasBelow (all_paths (plain_types l.all)) (end l.end)
