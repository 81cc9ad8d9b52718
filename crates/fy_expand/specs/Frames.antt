-- What the program's frames of names stand for.
use Rattle.std.specs.Prelude.{◌≡◌, ℕ, zero, suc, Bool, true, false, Option, Some, None, Result, Ok, Err, List, map}
use Rattle.std.specs.Option.{option_map}
use Rattle.fy_syntax.specs.declared.surface.Def.{Def, out-Def}
use Rattle.fy_syntax.specs.declared.types.Decl.{Decl}
use Rattle.fy_syntax.specs.Reading.{type_tree, decl_tree, def_of, defs_from}
use Rattle.fy_expand.specs.declared.error.ExpandError.{ExpandError}
use Rattle.fy_expand.specs.declared.size.Size.{Size}
use Rattle.fy_expand.specs.declared.frame.Standing.{Standing}
use Rattle.fy_expand.specs.declared.frame.Standing.TheVariants.{Variable, Member}
use Rattle.fy_expand.specs.declared.frame.Frame.{Frame, fold-Frame}
use Rattle.fy_expand.specs.declared.frame.Frame.TheOpen.{Frame-F}
use Rattle.fy_expand.specs.Types.{with, predefined}
use Rattle.fy_expand.specs.Scope.{Scope, behind, under, under_defs, under_members, with_type, outermost}
use Rattle.fy_expand.specs.Measures.{type_measure}

-- the error of a call, where there is one
abbrev pub told : {A : Type 0} → Result A ExpandError → Option ExpandError
told (Ok x) = None
told (Err e) = Some e

abbrev pub is_member : Standing → Bool
is_member (Variable d) = false
is_member (Member d) = true

-- under so many binders without a name
abbrev pub behind_all : ℕ → Scope → Scope
behind_all zero s = s
behind_all (suc n) s = behind (behind_all n s)

abbrev pub def_names : List Def → List ℕ
def_names = map (λ d. (out-Def d).name)

abbrev pub decl_names : List Decl → List ℕ
decl_names = map (λ d. d.name)

abbrev pub scope_step : Frame-F Scope → Scope
scope_step Frame-F.Outermost = outermost
scope_step (Frame-F.Name x outer) = under x outer.now
scope_step (Frame-F.Defs defs outer) = under_defs (defs_from (map def_of defs.now)) outer.now
scope_step (Frame-F.Members decls outer) = under_members (map decl_tree decls.now) outer.now
scope_step (Frame-F.Hidden n outer) = behind_all n outer.now
scope_step (Frame-F.Type x a size outer) = with_type x (type_tree a.now) outer.now

-- what the names stand for
abbrev pub scope_of : Frame → Scope
scope_of = fold-Frame Scope scope_step

abbrev pub sizes_step : Frame-F (ℕ → Option Size) → ℕ → Option Size
sizes_step Frame-F.Outermost = λ n. option_map type_measure (predefined n)
sizes_step (Frame-F.Name x outer) = outer.now
sizes_step (Frame-F.Defs defs outer) = outer.now
sizes_step (Frame-F.Members decls outer) = outer.now
sizes_step (Frame-F.Hidden n outer) = outer.now
sizes_step (Frame-F.Type x a size outer) = with x size outer.now

-- the sizes that are kept with the names of types
abbrev pub sizes_of : Frame → ℕ → Option Size
sizes_of = fold-Frame (ℕ → Option Size) sizes_step

-- each size that is kept is that of the type
abbrev pub AreSized : Frame → Type 0
AreSized f = (n : ℕ) → sizes_of f n ≡ option_map type_measure ((scope_of f).types n)
