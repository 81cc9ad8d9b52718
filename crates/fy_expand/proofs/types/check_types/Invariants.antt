use Rattle.std.proofs.Common.{◌≡◌, drop, map}
use Rattle.fy_syntax.specs.Reading.{type_tree, type_trees, types_from}
use Rattle.fy_expand.specs.Faults.{types_fault}
use Rattle.fy_expand.specs.Frames.{scope_of}
use Rattle.fy_expand.proofs.types.check_types.Given as goal

abbrev pub invariant-loop-ty : goal.invariant-loop-ty
invariant-loop-ty l =
    types_fault (scope_of l.frame).types (types_from (map type_tree (drop l.ty-index l.ty-items))) ≡ types_fault (scope_of l.frame).types (type_trees l.types)
