use Rattle.std.proofs.Common.{◌≡◌, max, map, drop}
use Rattle.fy_syntax.specs.Reading.{type_tree, type_trees, types_from}
use Rattle.fy_syntax.specs.Nesting.{capped, types_below}
use Rattle.fy_syntax.proofs.depth.+type_depth.Given as goal

abbrev pub invariant-below_types-loop-ty : goal.invariant-below_types-loop-ty
invariant-below_types-loop-ty l =
    max l.greatest (capped (types_below (types_from (map type_tree (drop l.ty-index l.ty-items))))) ≡ capped (types_below (type_trees l.types))
