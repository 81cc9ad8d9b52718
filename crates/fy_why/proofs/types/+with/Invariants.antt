use Rattle.std.proofs.Common.{◌≡◌, map, take, drop}
use Rattle.fy_types.specs.Paths.{end}
use Rattle.fy_types.specs.Reading.{plain_elem, plain_path, plain_type, types_in, fronted}
use Rattle.fy_why.specs.Types.{type_along}
use Rattle.fy_why.proofs.types.+with.Given as goal

-- the types of the paths so far
abbrev pub invariant-types_with-loop-path : goal.invariant-types_with-loop-path
invariant-types_with-loop-path l = map plain_type (types_in l.all) ≡ map type_along (map plain_path (take l.path-index l.list))

-- the type of what is behind
abbrev pub invariant-type_along-loop-i : goal.invariant-type_along-loop-i
invariant-type_along-loop-i l = plain_type l.ty ≡ type_along (fronted (map plain_elem (drop l.i l.elems)) (end l.path.end))
