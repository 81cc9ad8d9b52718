-- The path forms in a scope.
use Rattle.std.specs.Prelude.{List, ◌∷◌, map, reverse}
use Rattle.fy_types.specs.Paths.{PlainPaths}
use Rattle.fy_types.specs.Reading.{plain_paths, plain_type}
use Rattle.fy_types.specs.Types.{PlainType}
use Rattle.fy_derive.specs.Least.{forms_of}
use Rattle.fy_least.specs.declared.context.Context.{Context}
use Rattle.fy_least.specs.declared.outer.Outer.{Outer}
use Rattle.fy_least.specs.declared.scope.Scope.{Scope, Scope-F, fold-Scope}

abbrev pub outer_type : Outer → PlainType
outer_type o = plain_type o.ty.now

-- those of the variables around the whole phrase
abbrev pub context_forms : Context → List PlainPaths
context_forms c = forms_of (reverse (map outer_type c.outers.items))

abbrev pub forms_step : Scope-F (List PlainPaths) → List PlainPaths
forms_step (Scope-F.Around context table) = context_forms context.now
forms_step (Scope-F.Under P G) = plain_paths P.now.paths.now ∷ G.now

-- the path forms, the innermost first
abbrev pub scope_forms : Scope → List PlainPaths
scope_forms = fold-Scope (List PlainPaths) forms_step
