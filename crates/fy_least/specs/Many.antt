-- What is found of several phrases, and the derivations that are made of theirs.
use Rattle.std.specs.Prelude.{ℕ, suc, ◌+◌, ◌≤◌, ◌≡◌, ◌⊎◌, true, false, List, [], ◌∷◌, ◌++◌, if◌then◌else◌}
use Rattle.fy_base.specs.declared.data.Place.{Place}
use Rattle.fy_types.specs.declared.types.Atom.TheVariants.{Int}
use Rattle.fy_types.specs.Types.{PlainType, PlainTypes, atom, no_types, and_type}
use Rattle.fy_types.specs.Paths.{PlainPaths, no_paths, append, called, paths}
use Rattle.fy_types.specs.Reading.{plain_paths}
use Rattle.fy_types.specs.Nested.{IsTypeOf}
use Rattle.fy_types.specs.Limits.{IsWithinLimits}
use Rattle.fy_types.specs.Bounds.{join_of}
use Rattle.fy_types.specs.Once.{once}
use Rattle.fy_phrase.specs.Tree.{Tree, Trees, no_trees, and_tree}
use Rattle.fy_derive.specs.Derivations.{PlainDerivation, PlainDerivations, by_ns, sub, meets, alt, rule, no_derivations, and_derivation}
use Rattle.fy_derive.specs.Least.{if_passed}
use Rattle.fy_least.specs.declared.found.Found.{Found}
use Rattle.fy_least.specs.Counts.{nodes_of_forms, AreWithin}
use Rattle.fy_least.specs.Limits.{most_together}
use Rattle.fy_least.specs.Visited.{IsFound, blame_at, derivation_of, has_atom}

-- what is found of each part
pub data AreFound (G : List PlainPaths) : Trees → List Found → Type 0 where
  no_parts : AreFound G no_trees []
  and_part : {p : Tree} {ps : Trees} {f : Found} {fs : List Found} → IsFound G p f → AreFound G ps fs → AreFound G (and_tree p ps) (f ∷ fs)

-- what is found of the body under each alternative, whose path forms keep the limits
pub data AreFoundUnder (G : List PlainPaths) (b : Tree) : PlainTypes → List Found → Type 0 where
  no_alternatives : AreFoundUnder G b no_types []
  and_alternative : {A : PlainType} {As : PlainTypes} {f : Found} {fs : List Found} →
      IsWithinLimits (paths A) → IsFound (paths A ∷ G) b f → AreFoundUnder G b As fs → AreFoundUnder G b (and_type A As) (f ∷ fs)

-- the nodes of the least types of all visits in the parts
abbrev pub total_of : List Found → ℕ
total_of [] = 0
total_of (f ∷ fs) = f.total + total_of fs

-- where the first of the parts is blamed
abbrev pub blame_at_first : List Found → Place → Place
blame_at_first [] at = at
blame_at_first (f ∷ fs) at = blame_at f at

-- where the first part without a type of use is blamed
abbrev pub blame_at_some : List Found → Place → Place
blame_at_some [] at = at
blame_at_some (f ∷ fs) at = blame_at f (blame_at_some fs at)

-- the paths of the bodies, each with a call of its alternative in front
abbrev pub called_bodies : PlainTypes → List Found → PlainPaths
called_bodies no_types fs = no_paths
called_bodies (and_type A As) [] = no_paths
called_bodies (and_type A As) (f ∷ fs) = append (called (paths A) (plain_paths f.paths)) (called_bodies As fs)

-- the alternative with the index, the body taken at a type with its paths
abbrev pub IsAlternative : ℕ → Found → PlainDerivation → Type 0
IsAlternative i f made = (A : PlainType) × IsTypeOf (plain_paths f.paths) A × (made ≡ alt i (sub A (derivation_of f)))

-- the alternatives from the index on, each body taken at a type with its paths
pub data AreAlternatives : ℕ → List Found → PlainDerivations → Type 0 where
  no_more : {i : ℕ} → AreAlternatives i [] no_derivations
  and_more : {i : ℕ} {f : Found} {fs : List Found} {ds : PlainDerivations} (A : PlainType) → IsTypeOf (plain_paths f.paths) A →
      AreAlternatives (suc i) fs ds → AreAlternatives i (f ∷ fs) (and_derivation (alt i (sub A (derivation_of f))) ds)

-- the meet of the derivations, of which one alone is its own meet
abbrev pub meet_of_all : PlainDerivations → PlainDerivation
meet_of_all no_derivations = by_ns
meet_of_all (and_derivation d no_derivations) = d
meet_of_all (and_derivation d (and_derivation e ds)) = meets (and_derivation d (and_derivation e ds))

abbrev pub IsAbstracted : List Found → PlainDerivation → Type 0
IsAbstracted fs made = (ds : PlainDerivations) × AreAlternatives 0 fs ds × (made ≡ meet_of_all ds)

-- the join of the paths and of those of the parts, from the left
abbrev pub joined_with : PlainPaths → List Found → PlainPaths
joined_with P [] = P
joined_with P (f ∷ fs) = joined_with (join_of P (plain_paths f.paths)) fs

abbrev pub joined : List Found → PlainPaths
joined [] = no_paths
joined (f ∷ fs) = joined_with (plain_paths f.paths) fs

-- the joins with the first 1, 2, .. of the parts, less the last
abbrev pub joins_before : PlainPaths → List Found → List PlainPaths
joins_before P [] = []
joins_before P (f ∷ []) = []
joins_before P (f ∷ g ∷ fs) = join_of P (plain_paths f.paths) ∷ joins_before (join_of P (plain_paths f.paths)) (g ∷ fs)

abbrev pub earlier_joined : List Found → List PlainPaths
earlier_joined [] = []
earlier_joined (f ∷ fs) = joins_before (plain_paths f.paths) fs

-- the least types that count at a case with these parts, if its index is an integer
abbrev pub case_forms : Found → List Found → List PlainPaths
case_forms e fs = if has_atom e Int then earlier_joined fs ++ joined fs ∷ [] else no_paths ∷ []

-- each part's derivation taken at the type
abbrev pub all_at : PlainType → List Found → PlainDerivations
all_at A [] = no_derivations
all_at A (f ∷ fs) = and_derivation (sub A (derivation_of f)) (all_at A fs)

-- a case with parts, whose index is an integer
abbrev pub IsCased : Found → List Found → PlainDerivation → Type 0
IsCased e [] made = made ≡ by_ns
IsCased e (f ∷ fs) made = ((has_atom e Int ≡ false) × (made ≡ by_ns))
    ⊎ ((has_atom e Int ≡ true) × (A : PlainType) × IsTypeOf (joined (f ∷ fs)) A
    × (made ≡ rule (and_derivation (sub (atom Int) (derivation_of e)) (all_at A (f ∷ fs)))))

-- each body's paths stand once
abbrev pub AreOnce : List Found → Type 0
AreOnce [] = Unit {0}
AreOnce (f ∷ fs) = (once (plain_paths f.paths) ≡ plain_paths f.paths) × AreOnce fs

-- what is found of a case has the join of the parts, whose earlier joins count too, where the index is an integer
pub record IsCase (e : Found) (fs : List Found) (at : Place) (f : Found) : Type 0 where
  pub least : plain_paths f.paths ≡ if_passed (has_atom e Int) (joined fs)
  pub blame : f.blame ≡ blame_at e (blame_at_some fs at)
  pub total : f.total ≡ e.total + total_of fs + nodes_of_forms (case_forms e fs)
  pub low : f.total ≤ most_together
  pub within : AreWithin (case_forms e fs)
