-- Derivations that are made of others.
use Rattle.std.specs.Prelude.{ℕ, ◌≡◌, Bool, List, if◌then◌else◌}
use Rattle.fy_types.specs.declared.types.Atom.TheVariants.{Bool as Truth}
use Rattle.fy_types.specs.Types.{PlainType, atom, arrow, field}
use Rattle.fy_types.specs.Paths.{PlainPaths, paths}
use Rattle.fy_types.specs.PathOrder.{ArePathsBelow}
use Rattle.fy_types.specs.Nested.{IsTypeOf}
use Rattle.fy_phrase.specs.Tree.{Tree}
use Rattle.fy_derive.specs.Derivations.{PlainDerivation, by_ns, sub, meets, left, right, rule, no_derivations, and_derivation}
use Rattle.fy_derive.specs.Judging.{judged, concludes}
use Rattle.fy_derive.specs.Least.{forms_of, least_type}

-- rules of one and of two premises
abbrev pub rule_of : PlainDerivation → PlainDerivation
rule_of d = rule (and_derivation d no_derivations)

abbrev pub rule_of_both : PlainDerivation → PlainDerivation → PlainDerivation
rule_of_both d e = rule (and_derivation d (and_derivation e no_derivations))

-- one of two derivations, by a test
abbrev pub derived_if : Bool → PlainDerivation → PlainDerivation
derived_if b d = if b then d else by_ns

-- subsumption to a type with the paths
abbrev pub IsSubsumed : PlainPaths → PlainDerivation → PlainDerivation → Type 0
IsSubsumed P d made = (A : PlainType) × IsTypeOf P A × (made ≡ sub A d)

-- a call, where the argument is taken at a type with the paths Q, and what it gives at one with the paths R
abbrev pub IsCall : PlainPaths → PlainPaths → PlainDerivation → PlainDerivation → PlainDerivation → Type 0
IsCall Q R d e made =
    (A : PlainType) × (B : PlainType) × IsTypeOf Q A × IsTypeOf R B × (made ≡ rule_of_both (sub (arrow A B) d) (sub A e))

-- a selection of a field that has the paths
abbrev pub IsSelection : ℕ → PlainPaths → PlainDerivation → PlainDerivation → Type 0
IsSelection i R d made = (A : PlainType) × IsTypeOf R A × (made ≡ rule_of (sub (field i A) d))

-- a definition that is taken at a type with the paths
abbrev pub IsDefinition : PlainPaths → PlainDerivation → PlainDerivation → PlainDerivation → Type 0
IsDefinition P d e made = (A : PlainType) × IsTypeOf P A × (made ≡ rule_of_both (sub A d) e)

-- a merge whose left operand is taken at a type with the paths
abbrev pub IsMerge : PlainPaths → PlainDerivation → PlainDerivation → PlainDerivation → Type 0
IsMerge P d e made =
    (A : PlainType) × IsTypeOf P A × (made ≡ meets (and_derivation (left (sub A d)) (and_derivation (right e) no_derivations)))

-- a conditional whose branches are taken at one type with the paths
abbrev pub IsChoice : PlainPaths → PlainDerivation → PlainDerivation → PlainDerivation → PlainDerivation → Type 0
IsChoice P b d e made = (A : PlainType) × IsTypeOf P A × (made ≡
    rule (and_derivation (sub (atom Truth) b) (and_derivation (sub A d) (and_derivation (sub A e) no_derivations))))

-- in each context of types with these path forms, the derivation concludes a type that is below the least type
abbrev pub ConcludesBelow : List PlainPaths → Tree → PlainDerivation → Type 0
ConcludesBelow G p d = (H : List PlainType) → forms_of H ≡ G → (n : ℕ) →
    (A : PlainType) × (judged d n H p ≡ concludes A) × ArePathsBelow (paths A) (least_type G p)

-- the nesting of the types that are made of path forms within the limits: twice 480 and one more, behind an arrow or a field
abbrev pub most_made_nesting : ℕ
most_made_nesting = 962
