-- What is found of a visit.
use Rattle.std.specs.Prelude.{ℕ, ◌+◌, ◌*◌, ◌<◌, ◌≤◌, ◌≡◌, ◌⊎◌, max, Bool, List, length}
use Rattle.fy_base.specs.declared.data.Place.{Place}
use Rattle.fy_base.specs.Outside.{Bytes}
use Rattle.fy_types.specs.declared.types.Atom.{Atom}
use Rattle.fy_types.specs.Types.{atom}
use Rattle.fy_types.specs.Paths.{PlainPaths}
use Rattle.fy_types.specs.Reading.{plain_paths}
use Rattle.fy_types.specs.Limits.{all_nodes, IsWithinLimits, IsTooLarge}
use Rattle.fy_phrase.specs.Tree.{Tree}
use Rattle.fy_phrase.specs.Sizes.{nesting}
use Rattle.fy_phrase.specs.CoreLimits.{deepest_written}
use Rattle.fy_derive.specs.Derivations.{PlainDerivation, sub, nodes}
use Rattle.fy_derive.specs.Derivations as derivations
use Rattle.fy_derive.specs.Reading.{plain_derivation}
use Rattle.fy_derive.specs.Least.{has, least_type, visits}
use Rattle.fy_derive.specs.Limits.{deepest_type}
use Rattle.fy_derive.specs.Printable.{IsPrintable}
use Rattle.fy_least.specs.declared.found.Found.{Found}
use Rattle.fy_least.specs.Blame.{if_empty, blame_of}
use Rattle.fy_least.specs.Layers.{met, IsLayered}
use Rattle.fy_least.specs.Limits.{most_together}
use Rattle.fy_least.specs.Pairs.{HasPairsAbove}
use Rattle.fy_least.specs.Counts.{nodes_of_visits, AreVisitsWithin}
use Rattle.fy_least.specs.Derived.{ConcludesBelow, most_made_nesting}
use Rattle.fy_least.specs.Writable.{IsWritable}

-- the least type, where the phrase is blamed, and the nodes of all least types; and a derivation of a type below the least type, with
-- room for one subsumption more
pub record IsFound (G : List PlainPaths) (p : Tree) (f : Found) : Type 0 where
  pub paths : plain_paths f.paths ≡ least_type G p
  pub blame : f.blame ≡ blame_of G p
  pub within : (m : ℕ) → AreVisitsWithin (visits m G p)
  pub total : (m : ℕ) → f.total ≡ nodes_of_visits (visits m G p)
  pub low : f.total ≤ most_together
  pub derived : ConcludesBelow G p (plain_derivation f.derivation)
  pub few : (m : ℕ) → nodes (plain_derivation f.derivation) + 3 ≤ 4 * length (visits m G p)
  pub shallow : derivations.nesting (plain_derivation f.derivation) + 1 ≤ 3 * nesting p
  pub kept : IsWithinLimits (least_type G p)
  pub types : deepest_type (plain_derivation f.derivation) ≤ max (deepest_written p) most_made_nesting
  pub layered : IsLayered met (plain_derivation f.derivation)
  pub pairs : HasPairsAbove G p (plain_derivation f.derivation)
  pub printable : (names : List Bytes) → IsWritable names G p → IsPrintable names (plain_derivation f.derivation)

-- a visit that has the paths and the blame, and whose parts have so many nodes in their least types
pub record IsMade (P : PlainPaths) (at : Place) (parts : ℕ) (f : Found) : Type 0 where
  pub paths : plain_paths f.paths ≡ P
  pub blame : f.blame ≡ at
  pub total : f.total ≡ parts + all_nodes P
  pub low : f.total ≤ most_together
  pub within : IsWithinLimits P

-- the paths pass a limit, or do so together with the parts
abbrev pub IsRefused : PlainPaths → ℕ → Type 0
IsRefused P parts = IsTooLarge P ⊎ (most_together < parts + all_nodes P)

-- where this part is blamed if it has no type of use, else the place
abbrev pub blame_at : Found → Place → Place
blame_at f at = if_empty (plain_paths f.paths) f.blame at

-- the part has the atom
abbrev pub has_atom : Found → Atom → Bool
has_atom f a = has (plain_paths f.paths) a

-- the part's derivation, and the same subsumed to the atom
abbrev pub derivation_of : Found → PlainDerivation
derivation_of f = plain_derivation f.derivation

abbrev pub as_atom : Atom → Found → PlainDerivation
as_atom a f = sub (atom a) (derivation_of f)
