-- Forms of any number of parts, by lists of what is found of the parts.
use Rattle.std.proofs.Common.{ℕ, ◌≡◌, List, ◌∷◌, map, refl, ap}
use Rattle.fy_base.specs.declared.data.Place.{Place}
use Rattle.fy_types.specs.declared.types.Atom.TheVariants.{Int}
use Rattle.fy_types.specs.Types.{PlainTypes, no_types, and_type}
use Rattle.fy_types.specs.Paths.{PlainPaths}
use Rattle.fy_types.specs.Bounds.{join_of}
use Rattle.fy_phrase.specs.Tree.{Tree, Trees, no_trees, and_tree, case, lam}
use Rattle.fy_derive.specs.Least.{has, if_passed, join_of_all, join_behind}
use Rattle.fy_causes.specs.Occurrences.{Variable, Occurrence, occurs, each_occurs, forms_around, least_in, parts_of}
use Rattle.fy_causes.specs.Blamed.{if_hollow, blamed, blamed_among}
use Rattle.fy_causes.specs.Readings.{blame_from, first_under, found_at, joined, joined_with}

among-found : (G : List Variable) (ps : Trees) (o : Occurrence) → blamed_among G ps o ≡ blame_from (map found_at (each_occurs G ps)) o
among-found G no_trees o = refl
among-found G (and_tree p ps) o = ap (if_hollow (least_in G p) (blamed G p)) (among-found G ps o)

behind-found : (G : List Variable) (P : PlainPaths) (ps : Trees) → join_behind (forms_around G) P ps ≡ joined_with P (map found_at (each_occurs G ps))
behind-found G P no_trees = refl
behind-found G P (and_tree p ps) = behind-found G (join_of P (least_in G p)) ps

all-found : (G : List Variable) (ps : Trees) → join_of_all (forms_around G) ps ≡ joined (map found_at (each_occurs G ps))
all-found G no_trees = refl
all-found G (and_tree p ps) = behind-found G (least_in G p) ps

-- a case
pub case_least : (G : List Variable) (e : Tree) (ps : Trees) (at : Place) →
    least_in G (case e ps at) ≡ if_passed (has (least_in G e) Int) (joined (map found_at (each_occurs G ps)))
case_least G e ps at = ap (if_passed (has (least_in G e) Int)) (all-found G ps)

pub case_blamed : (G : List Variable) (e : Tree) (ps : Trees) (at : Place) →
    blamed G (case e ps at) ≡ blame_from (found_at (occurs G e) ∷ map found_at (each_occurs G ps)) (occurs G (case e ps at))
case_blamed G e ps at = ap (if_hollow (least_in G e) (blamed G e)) (among-found G ps (occurs G (case e ps at)))

-- an abstraction
pub lam_blamed : (G : List Variable) (d : ℕ) (As : PlainTypes) (b : Tree) (at : Place) →
    blamed G (lam d As b at) ≡ blame_from (map found_at (first_under G (lam d As b at) As b)) (occurs G (lam d As b at))
lam_blamed G d no_types b at = refl
lam_blamed G d (and_type A As) b at = refl

pub lam_parts : (G : List Variable) (d : ℕ) (As : PlainTypes) (b : Tree) (at : Place) → parts_of G (lam d As b at) ≡ first_under G (lam d As b at) As b
lam_parts G d no_types b at = refl
lam_parts G d (and_type A As) b at = refl

pub ruleset arm_rules = (case_least, case_blamed, lam_blamed, lam_parts)
