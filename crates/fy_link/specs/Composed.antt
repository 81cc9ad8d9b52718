-- The derivation of units put together.
use Rattle.std.specs.Prelude.{ℕ, zero, suc, ◌==◌, if◌then◌else◌, List, [], ◌∷◌, reverse, Option, Some, None}
use Rattle.fy_types.specs.Types.{PlainType}
use Rattle.fy_derive.specs.Derivations.{PlainDerivation, by_ns, alt, rule, no_derivations, and_derivation}
use Rattle.fy_derive.specs.Placed.{Wanted, placed}
use Rattle.fy_derive.specs.Rules.{same_type}
use Rattle.fy_link.specs.Sources.{Named}
use Rattle.fy_link.specs.Units.{PlainUnit}

-- the type of the first of that name
abbrev pub type_named : ℕ → List Named → Option PlainType
type_named name [] = None
type_named name (x ∷ more) = if name == x.name then Some x.type else type_named name more

-- the import's type, where the exporting type is another tree
abbrev pub wanted_at : Option PlainType → PlainType → Option PlainType
wanted_at None A = None
wanted_at (Some B) A = if same_type B A then None else Some A

-- the types to which the uses of the imports, the innermost first, are subsumed; no other variable's is
abbrev pub wanted : List Named → List Named → Wanted
wanted [] earlier k = None
wanted (x ∷ imports) earlier zero = wanted_at (type_named x.name earlier) x.type
wanted (x ∷ imports) earlier (suc k) = wanted imports earlier k

-- a unit's own derivation behind the earlier units: directly above each node `rule` that judges an import of another exporting type stands a
-- subsumption to the import's type
abbrev pub placed_unit : List Named → PlainUnit → PlainDerivation
placed_unit earlier u = placed (wanted (reverse u.source.imports) earlier) u.source.phrase u.derivation

-- the units behind earlier ones, the latest of which is first: a definition for each but the last
abbrev pub units_derivation : List Named → List PlainUnit → PlainDerivation
units_derivation earlier [] = by_ns
units_derivation earlier (u ∷ []) = placed_unit earlier u
units_derivation earlier (u ∷ v ∷ more) =
    rule (and_derivation (placed_unit earlier u) (and_derivation (units_derivation (u.source.own ∷ earlier) (v ∷ more)) no_derivations))

-- a definition of `putint`, `putchar`, `putbool` or `read`: an abstraction over a command over a variable
abbrev pub provided_derivation : PlainDerivation
provided_derivation = alt 0 (rule (and_derivation (rule no_derivations) no_derivations))

abbrev pub behind_provided : PlainDerivation → PlainDerivation
behind_provided d = rule (and_derivation provided_derivation (and_derivation d no_derivations))

-- the definition of `newintseq`: two abstractions over the cells of a variable's number, over a variable applied to another
abbrev pub maker_derivation : PlainDerivation
maker_derivation =
    alt 0 (alt 0 (rule (and_derivation (rule no_derivations)
    (and_derivation (rule (and_derivation (rule no_derivations) (and_derivation (rule no_derivations) no_derivations))) no_derivations))))

abbrev pub behind_maker : PlainDerivation → PlainDerivation
behind_maker d = rule (and_derivation maker_derivation (and_derivation d no_derivations))

-- behind the prelude's five definitions
abbrev pub composed_derivation : List PlainUnit → PlainDerivation
composed_derivation units = behind_provided (behind_provided (behind_provided (behind_provided (behind_maker (units_derivation [] units)))))
