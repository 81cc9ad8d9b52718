-- The greatest lower and the least upper bound of two types, as path forms.
use Rattle.std.specs.Prelude.{Bool, ◌&&◌, ◌||◌, ◌==◌, if◌then◌else◌}
use Rattle.fy_types.specs.declared.types.Atom.{Atom}
use Rattle.fy_types.specs.declared.types.Atom.TheVariants.{Comm, Compl}
use Rattle.fy_types.specs.Types.{PlainType}
use Rattle.fy_types.specs.Subtyping.{IsSubtype}
use Rattle.fy_types.specs.Paths.{PlainPath, PlainPaths, end, call, pick, no_paths, and_path, append, called, picked}
use Rattle.fy_types.specs.Once.{place, once}

-- the paths of the first and then those of the second, each once
abbrev pub meet_of : PlainPaths → PlainPaths → PlainPaths
meet_of P Q = once (append P Q)

-- the ends are equal, or the first is `compl` and the second `comm`
abbrev pub is_end_low : Atom → Atom → Bool
is_end_low a b = (place a == place b) || ((place a == place Compl) && (place b == place Comm))

-- the end that both ends are below, where there is one
abbrev pub common_end : Atom → Atom → PlainPaths
common_end a b =
    if is_end_low a b then and_path (end b) no_paths else (if is_end_low b a then and_path (end a) no_paths else no_paths)

-- the common path of two paths, where there is one: the same calls and fields in the same order, with the meets of the domains
abbrev pub common : PlainPath → PlainPath → PlainPaths
common (end a) (end b) = common_end a b
common (end a) (call E q) = no_paths
common (end a) (pick j q) = no_paths
common (call D p) (end b) = no_paths
common (call D p) (call E q) = called (meet_of D E) (common p q)
common (call D p) (pick j q) = no_paths
common (pick i p) (end b) = no_paths
common (pick i p) (call E q) = no_paths
common (pick i p) (pick j q) = if i == j then picked i (common p q) else no_paths

-- the common paths of a path and each path of the list, in order
abbrev pub commons_with : PlainPath → PlainPaths → PlainPaths
commons_with p no_paths = no_paths
commons_with p (and_path q Q) = append (common p q) (commons_with p Q)

-- the common paths of each path of the first and each path of the second, in order
abbrev pub commons : PlainPaths → PlainPaths → PlainPaths
commons no_paths Q = no_paths
commons (and_path p P) Q = append (commons_with p Q) (commons P Q)

-- the common paths, each once
abbrev pub join_of : PlainPaths → PlainPaths → PlainPaths
join_of P Q = once (commons P Q)

-- M is below A and B, and whatever is below both is below M
pub record IsGreatestLowerBound (M A B : PlainType) : Type 0 where
  pub first : IsSubtype M A
  pub second : IsSubtype M B
  pub greatest : (C : PlainType) → IsSubtype C A → IsSubtype C B → IsSubtype C M

-- A and B are below J, and J is below whatever both are below
pub record IsLeastUpperBound (J A B : PlainType) : Type 0 where
  pub first : IsSubtype A J
  pub second : IsSubtype B J
  pub least : (C : PlainType) → IsSubtype A C → IsSubtype B C → IsSubtype J C
