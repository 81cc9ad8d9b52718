use Rattle.std.proofs.Common.{◌≡◌, drop, map}
use Rattle.fy_syntax.specs.Reading.{type_tree, type_trees, types_from}
use Rattle.fy_expand.specs.Types.{types_of}
use Rattle.fy_expand.specs.Measures.{beside, types_measure, none}
use Rattle.fy_expand.specs.Frames.{scope_of}
use Rattle.fy_expand.proofs.types.+type_size.Given as goal

abbrev pub invariant-types_size-loop-ty : goal.invariant-types_size-loop-ty
invariant-types_size-loop-ty l = record {
  total : beside l.size (types_measure (types_of (scope_of l.frame).types (types_from (map type_tree (drop l.ty-index l.ty-items)))))
      ≡ types_measure (types_of (scope_of l.frame).types (type_trees l.types));
  fits : beside l.size none ≡ l.size;
}
