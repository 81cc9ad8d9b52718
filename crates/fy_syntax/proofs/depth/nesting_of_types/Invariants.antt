use Rattle.std.proofs.Common.{◌≡◌, max, map, drop}
use Rattle.fy_syntax.specs.Reading.{type_tree, type_trees, types_from}
use Rattle.fy_syntax.specs.Nesting.{capped, types_nesting}
use Rattle.fy_syntax.proofs.depth.nesting_of_types.Given as goal

abbrev pub invariant-loop-ty : goal.invariant-loop-ty
invariant-loop-ty l =
    max l.greatest (capped (types_nesting (types_from (map type_tree (drop l.ty-index l.ty-items))))) ≡ capped (types_nesting (type_trees l.types))
