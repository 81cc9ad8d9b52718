-- Derivations of forms whose parts are taken at their least types.
use Rattle.std.specs.Prelude.{ℕ, ◌≡◌, ◌⊎◌, Bool, true, false, Option, Some, None}
use Rattle.fy_types.specs.declared.types.Atom.TheVariants.{Bool as Truth}
use Rattle.fy_types.specs.Paths.{PlainPaths}
use Rattle.fy_types.specs.Reading.{plain_paths}
use Rattle.fy_types.specs.Once.{once}
use Rattle.fy_types.specs.Bounds.{join_of}
use Rattle.fy_derive.specs.Kinds.{Kind}
use Rattle.fy_derive.specs.Subsumption.{paths_below}
use Rattle.fy_derive.specs.Derivations.{PlainDerivation, by_ns, rule, no_derivations}
use Rattle.fy_derive.specs.Least.{rests_of_call, rests_of_field, others}
use Rattle.fy_least.specs.declared.found.Found.{Found}
use Rattle.fy_least.specs.Derived.{IsCall, IsSelection, IsDefinition, IsMerge, IsChoice}
use Rattle.fy_least.specs.Visited.{derivation_of, has_atom}

-- the rule of a variable that is in scope
abbrev pub variable_rule : Option PlainPaths → PlainDerivation
variable_rule None = by_ns
variable_rule (Some P) = rule no_derivations

abbrev pub IsApplied : Found → Found → PlainDerivation → Type 0
IsApplied f g made =
    IsCall (plain_paths g.paths) (once (rests_of_call (plain_paths g.paths) (plain_paths f.paths))) (derivation_of f) (derivation_of g) made

abbrev pub IsPicked : ℕ → Found → PlainDerivation → Type 0
IsPicked i f made = IsSelection i (rests_of_field i (plain_paths f.paths)) (derivation_of f) made

abbrev pub IsDefined : Found → Found → PlainDerivation → Type 0
IsDefined f g made = IsDefinition (plain_paths f.paths) (derivation_of f) (derivation_of g) made

-- a merge whose right operand has a kind
abbrev pub IsMerged : Option Kind → Found → Found → PlainDerivation → Type 0
IsMerged None f g made = made ≡ by_ns
IsMerged (Some k) f g made = IsMerge (others k (plain_paths f.paths)) (derivation_of f) (derivation_of g) made

-- the body has the type that is defined by itself
abbrev pub is_recursive : Found → PlainPaths → Bool
is_recursive f T = paths_below (plain_paths f.paths) T

-- a conditional whose condition is a truth value
abbrev pub IsChosen : Found → Found → Found → PlainDerivation → Type 0
IsChosen f g h made = ((has_atom f Truth ≡ false) × (made ≡ by_ns))
    ⊎ ((has_atom f Truth ≡ true)
    × IsChoice (join_of (plain_paths g.paths) (plain_paths h.paths)) (derivation_of f) (derivation_of g) (derivation_of h) made)
