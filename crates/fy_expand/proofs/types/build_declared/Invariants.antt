use Rattle.std.proofs.Common.{◌≡◌, take, map}
use Rattle.fy_syntax.specs.Reading.{type_tree}
use Rattle.fy_syntax.specs.declared.types.Decl.{Decl}
use Rattle.fy_types.specs.Types.{PlainType}
use Rattle.fy_types.specs.Reading.{plain_type, types_in}
use Rattle.fy_expand.specs.Types.{type_of}
use Rattle.fy_expand.specs.Frames.{scope_of}
use Rattle.fy_expand.proofs.types.build_declared.Given as goal

abbrev pub invariant-loop-decl : goal.invariant-loop-decl
invariant-loop-decl l =
    map plain_type (types_in l.made) ≡ map (λ (d : Decl). PlainType.field d.name (type_of (scope_of l.frame).types (type_tree d.ty))) (take l.decl-index l.decls)
