-- What linking gives, and why units aren't linked.
use Rattle.std.specs.Prelude.{◌≡◌, ℕ, suc, ◌<◌, if◌then◌else◌, List, [], ◌∷◌, map, Option, Some, None, Ok, ◌⊎◌}
use Rattle.fy_base.specs.Outside.{Bytes}
use Rattle.fy_types.specs.declared.types.Atom.TheVariants.{Comm}
use Rattle.fy_types.specs.Types.{PlainType}
use Rattle.fy_phrase.specs.Reads.{reads}
use Rattle.fy_phrase.specs.Tree.{Tree}
use Rattle.fy_expand.specs.Judged.{IsJudgedFrom}
use Rattle.fy_derive.specs.Derivations.{nodes, nesting, most_nodes, most_nesting}
use Rattle.fy_derive.specs.Judging.{conclusion_of, refusal}
use Rattle.fy_derive.specs.Limits.{KeepsLimits}
use Rattle.fy_derive.specs.Reading.{plain_derivation}
use Rattle.fy_derive.specs.Rules.{is_atom}
use Rattle.fy_derive.specs.Subsumption.{is_below}
use Rattle.fy_front.specs.Checked.{IsUnjudgedFrom}
use Rattle.fy_front.specs.declared.refusal.Refusal.{Refusal}
use Rattle.fy_link.specs.declared.error.LinkError.{LinkError}
use Rattle.fy_link.specs.declared.error.LinkError.TheVariants as refused
use Rattle.fy_link.specs.declared.linking.Linked.{Linked}
use Rattle.fy_link.specs.declared.unit.Unit.{Unit as UnitValue}
use Rattle.fy_link.specs.Sources.{Named, PlainSource}
use Rattle.fy_link.specs.Units.{PlainUnit, IsUnitOf}
use Rattle.fy_link.specs.Joined.{IsJoinedText}
use Rattle.fy_link.specs.Composed.{type_named, composed_derivation}

-- the first cause of two
abbrev pub first_of : Option LinkError → Option LinkError → Option LinkError
first_of None later = later
first_of (Some e) later = Some e

-- unit j has the name of an earlier one
abbrev pub double_fault : ℕ → Option PlainType → Option LinkError
double_fault j None = None
double_fault j (Some B) = Some (refused.Double j)

-- an import of unit j is the name of no earlier unit, or the exporting type isn't `<=` the import's
abbrev pub import_fault : ℕ → Option PlainType → PlainType → Option LinkError
import_fault j None A = Some (refused.Missing j)
import_fault j (Some B) A = if is_below B A then None else Some (refused.Interface j)

-- the imports of unit j in order
abbrev pub imports_fault : ℕ → List Named → List Named → Option LinkError
imports_fault j earlier [] = None
imports_fault j earlier (x ∷ more) = first_of (import_fault j (type_named x.name earlier) x.type) (imports_fault j earlier more)

-- unit j: its name, and then its imports; the names and types of the units before it are known
abbrev pub own_fault : ℕ → List Named → PlainSource → Option LinkError
own_fault j earlier u = first_of (double_fault j (type_named u.own.name earlier)) (imports_fault j earlier u.imports)

-- the units from unit j on in order
abbrev pub units_fault : ℕ → List Named → List PlainSource → Option LinkError
units_fault j earlier [] = None
units_fault j earlier (u ∷ more) = first_of (own_fault j earlier u) (units_fault (suc j) (u.own ∷ earlier) more)

-- the last unit is no command
abbrev pub main_fault : List PlainSource → Option LinkError
main_fault [] = Some refused.NotMain
main_fault (u ∷ []) = if is_atom Comm u.own.type then None else Some refused.NotMain
main_fault (u ∷ v ∷ more) = main_fault (v ∷ more)

-- the first cause by which the units themselves can't be linked
abbrev pub link_fault : List PlainSource → Option LinkError
link_fault units = first_of (units_fault 0 [] units) (main_fault units)

-- the values are these units, in order
abbrev pub AreUnitsOf : List Bytes → List UnitValue → List PlainUnit → Type 0
AreUnitsOf names [] [] = Unit {0}
AreUnitsOf names [] (u ∷ units) = ⊥
AreUnitsOf names (value ∷ values) [] = ⊥
AreUnitsOf names (value ∷ values) (u ∷ units) = IsUnitOf names value u × AreUnitsOf names values units

abbrev pub sources_of : List PlainUnit → List PlainSource
sources_of units = map (λ (u : PlainUnit). u.source) units

-- the units are linked to this text, phrase and derivation
pub record IsLinked (names : List Bytes) (values : List UnitValue) (linked : Linked) : Type 0 where
  pub units : List PlainUnit
  pub are : AreUnitsOf names values units
  pub linkable : link_fault (sources_of units) ≡ None
  pub text : IsJoinedText names values linked.text
  pub phrase : IsJudgedFrom names linked.text (Ok (reads linked.phrase))
  pub derivation : plain_derivation linked.derivation ≡ composed_derivation units
  pub accepted : refusal (conclusion_of (reads linked.phrase) (plain_derivation linked.derivation)) ≡ None
  pub few : KeepsLimits (plain_derivation linked.derivation)

-- the composed derivation passes a limit
abbrev pub IsTooLarge : List PlainUnit → Type 0
IsTooLarge units = (most_nodes < nodes (composed_derivation units)) ⊎ (most_nesting < nesting (composed_derivation units))

-- why units aren't linked: by a cause of their own, else since the joined text is refused, else since the derivation is too large; want of memory may
-- come anywhere
pub data IsUnlinked (names : List Bytes) (values : List UnitValue) : LinkError → Type 0 where
  of_units : (units : List PlainUnit) {e : LinkError} →
      AreUnitsOf names values units → link_fault (sources_of units) ≡ Some e → IsUnlinked names values e
  of_text : (units : List PlainUnit) {text : Bytes} {why : Refusal} →
      AreUnitsOf names values units → link_fault (sources_of units) ≡ None → IsJoinedText names values text →
      IsUnjudgedFrom names text why → IsUnlinked names values (refused.Text why)
  of_size : (units : List PlainUnit) {text : Bytes} {p : Tree} →
      AreUnitsOf names values units → link_fault (sources_of units) ≡ None → IsJoinedText names values text →
      IsJudgedFrom names text (Ok p) → IsTooLarge units → IsUnlinked names values refused.TooLarge
  of_memory : IsUnlinked names values refused.OutOfMemory
