-- The variables in scope, as binders.
use Rattle.std.specs.Prelude.{Bool, true, false, List, [], ◌∷◌, Option, Some}
use Rattle.pe_right.specs.Entered.{BinderKind, a_cell, another}
use Rattle.pe_gen.specs.declared.scope.Scope.{Scope, Scope-F, fold-Scope}

-- what a binder makes of its variable, by whether that is a cell
abbrev pub kind_for : Bool → BinderKind
kind_for true = a_cell
kind_for false = another

abbrev pub binders_step : Scope-F (List BinderKind) → List BinderKind
binders_step Scope-F.Program = []
binders_step (Scope-F.Under cell G) = kind_for cell ∷ G.now

-- the binders, the innermost first
abbrev pub binders : Scope → List BinderKind
binders = fold-Scope (List BinderKind) binders_step

-- whether the variable that was found is a cell
abbrev pub is_cell : Option BinderKind → Bool
is_cell (Some a_cell) = true
is_cell _ = false
