use Rattle.std.proofs.Common.{◌≡◌, drop, map}
use Rattle.fy_syntax.specs.Reading.{type_tree, type_trees, types_from}
use Rattle.fy_expand.specs.Faults.{all_unknown}
use Rattle.fy_expand.specs.Frames.{scope_of}
use Rattle.fy_expand.proofs.types.+check_names.Given as goal

abbrev pub invariant-check_all_names-loop-ty : goal.invariant-check_all_names-loop-ty
invariant-check_all_names-loop-ty l =
    all_unknown (scope_of l.frame).types (types_from (map type_tree (drop l.ty-index l.ty-items))) ≡ all_unknown (scope_of l.frame).types (type_trees l.types)
