-- Faults, one step on.
use Rattle.std.proofs.Common.{◌≡◌, ℕ, zero, suc, ◌<◌, is_none, List, [], ◌∷◌, length, map, drop, Option, Some, None, refl, ap, ◌∙◌, arith}
use Rattle.std.specs.Option.{option_map}
use Rattle.fy_base.specs.declared.data.Place.{Place}
use Rattle.fy_syntax.specs.declared.types.SurfaceTy.{SurfaceTy}
use Rattle.fy_syntax.specs.declared.types.SurfaceTyList.{SurfaceTyList}
use Rattle.fy_syntax.specs.declared.types.Decl.{Decl}
use Rattle.fy_syntax.specs.Trees.{Defs}
use Rattle.fy_syntax.specs.Reading.{types_in, type_tree, type_trees, types_from, decl_tree}
use Rattle.fy_syntax.proofs.ReadLemmas.{type_trees-at}
use Rattle.fy_expand.specs.declared.error.ExpandError.TheVariants.{LetrecName}
use Rattle.fy_expand.specs.declared.frame.Standing.{Standing}
use Rattle.fy_expand.specs.Scope.{Scope}
use Rattle.fy_expand.specs.Frames.{is_member}
use Rattle.fy_expand.specs.Faults.{types_count, fields_fault}

types_count-from : (ts : List SurfaceTy) → types_count (types_from (map type_tree ts)) ≡ length ts
types_count-from [] = refl
types_count-from (t ∷ ts) = ap suc (types_count-from ts)

-- the alternatives are as many as the members of the list
pub types_count-of : (l : SurfaceTyList) → types_count (type_trees l) ≡ length (types_in l)
types_count-of l = ap types_count (type_trees-at l) ∙ types_count-from (types_in l)

-- a declared name without a definition
pub fields-missing : (s : Scope) (in_at : Place) (decls : List Decl) (i : ℕ) → i < length decls → fields_fault s in_at (map decl_tree (drop i decls)) Defs.no_defs ≡ Some (LetrecName in_at)
fields-missing s in_at [] i h = absurd (omega arith)
fields-missing s in_at (d ∷ decls) zero h = refl
fields-missing s in_at (d ∷ decls) (suc i) h = fields-missing s in_at decls i (omega arith)

-- a name stands for something of a kind, or for nothing
pub is_none-kind : (r o : Option Standing) → option_map is_member r ≡ option_map is_member o → is_none r ≡ is_none o
is_none-kind None None h = refl
is_none-kind None (Some b) h = cc
is_none-kind (Some a) None h = cc
is_none-kind (Some a) (Some b) h = refl
