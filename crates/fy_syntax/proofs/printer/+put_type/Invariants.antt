use Rattle.std.proofs.Common.{◌≡◌, ◌++◌, [], map, drop}
use Rattle.fy_syntax.specs.Reading.{type_tree, type_trees, types_from}
use Rattle.fy_syntax.specs.Print.{types_text}
use Rattle.fy_syntax.proofs.printer.+put_type.Given as goal

abbrev pub invariant-put_types-loop-ty : goal.invariant-put_types-loop-ty
invariant-put_types-loop-ty l =
    l.text.items ++ types_text l.names l.lead l.separator (types_from (map type_tree (drop l.ty-index l.ty-items)))
    ≡ l.initial.text.items ++ types_text l.names [] l.separator (type_trees l.types)
