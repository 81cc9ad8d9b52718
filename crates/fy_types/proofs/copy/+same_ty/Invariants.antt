use Rattle.std.proofs.Common.{◌≡◌, ◌↔◌, map, drop}
use Rattle.fy_types.specs.Reading.{plain_type, plain_types, types_from}
use Rattle.fy_types.proofs.copy.+same_ty.Given as goal

abbrev pub invariant-same_list-loop-i : goal.invariant-same_list-loop-i
invariant-same_list-loop-i l =
    (types_from (map plain_type (drop l.i l.xs)) ≡ types_from (map plain_type (drop l.i l.ys)))
    ↔ (plain_types l.a ≡ plain_types l.b)
