-- The laws of units: they are linked without a search, and are judged one way.
use Rattle.std.specs.Prelude.{◌≡◌, ◌≢◌, ◌≤◌, List, reverse, Ok, None}
use Rattle.fy_base.specs.Outside.{Bytes}
use Rattle.fy_types.specs.declared.types.Atom.TheVariants.{Comm}
use Rattle.fy_types.specs.Names.{AreNames}
use Rattle.fy_types.specs.Types.{atom}
use Rattle.fy_phrase.specs.Reads.{reads}
use Rattle.fy_phrase.specs.Tree.{Tree}
use Rattle.fy_expand.specs.Judged.{IsJudgedFrom}
use Rattle.fy_derive.specs.Derivations.{PlainDerivation}
use Rattle.fy_derive.specs.Judging.{conclusion_of, concludes, judged}
use Rattle.fy_derive.specs.Limits.{deepest_type, most_type_nesting}
use Rattle.fy_derive.specs.Reading.{plain_derivation}
use Rattle.fy_link.specs.declared.error.LinkError.{LinkError}
use Rattle.fy_link.specs.declared.error.LinkError.TheVariants as unlinked
use Rattle.fy_front.specs.declared.refusal.Refusal.{Refusal}
use Rattle.fy_link.specs.declared.linking.Linked.{Linked}
use Rattle.fy_link.specs.declared.unit.Unit.{Unit as UnitValue}
use Rattle.fy_link.specs.Units.{context_of, IsUnitFault, KeepsTypeLimits, PlainUnit, plain_unit}
use Rattle.fy_link.specs.UnitBytes.{BadPart, IsBadFor, IsBadUnit, IsUnitRead}
use Rattle.fy_link.specs.Sources.{PlainSource, IsSource}
use Rattle.fy_link.specs.Joined.{IsJoinedText}
use Rattle.fy_link.specs.Composed.{composed_derivation}
use Rattle.fy_link.specs.Links.{AreUnitsOf, IsLinked, IsUnlinked, sources_of, link_fault}

-- of units that no cause refuses the composed derivation concludes `comm` for the core phrase of their text, and its types keep their limit
pub record UnitsAreLinked : Type 0 where
  pub accepted : (names : List Bytes) (values : List UnitValue) (units : List PlainUnit) (text : Bytes) (phrase : Tree) →
      AreUnitsOf names values units → link_fault (sources_of units) ≡ None → IsJoinedText names values text →
      IsJudgedFrom names text (Ok phrase) → conclusion_of phrase (composed_derivation units) ≡ concludes (atom Comm)
  pub shallow : (names : List Bytes) (values : List UnitValue) (units : List PlainUnit) →
      AreUnitsOf names values units → deepest_type (composed_derivation units) ≤ most_type_nesting

-- the source says this, of which some derivation concludes its type, and whose least types keep their limits
pub record IsUnitSource (names : List Bytes) (source : Bytes) (after : List Bytes) (u : PlainSource) : Type 0 where
  pub said : IsSource names source after u
  pub derivation : PlainDerivation
  pub concluded : judged derivation 0 (reverse (context_of u.imports)) u.phrase ≡ concludes u.own.type
  pub within : KeepsTypeLimits u

-- with the list a source says one thing at most, which leaves one list; one of a unit isn't refused, and others are refused for one cause
pub record SourcesAreJudgedOneWay (names : List Bytes) (source : Bytes) : Type 0 where
  pub said : (after last : List Bytes) (u v : PlainSource) → IsSource names source after u → IsSource names source last v → u ≡ v
  pub list : (after last : List Bytes) (u v : PlainSource) → IsSource names source after u → IsSource names source last v → after ≡ last
  pub apart : (after : List Bytes) (u : PlainSource) (e : Refusal) → IsUnitSource names source after u → ¬ IsUnitFault names source e
  pub fault : (e other : Refusal) → IsUnitFault names source e → IsUnitFault names source other → e ≡ other

-- the values hold one unit: its source, what that says, the derivation, and the place of the header's `==`
pub record IsSameUnit (value other : UnitValue) : Type 0 where
  pub source : value.source ≡ other.source
  pub unit : plain_unit value ≡ plain_unit other
  pub equals_at : value.said.equals_at ≡ other.said.equals_at

-- with the list bytes are read as one unit at most, which leaves one list, and then aren't refused; and they are refused for one part
pub record BytesAreJudgedOneWay (names : List Bytes) (bytes : Bytes) : Type 0 where
  pub unit : (later last : List Bytes) (value other : UnitValue) → IsUnitRead names bytes later value → IsUnitRead names bytes last other → IsSameUnit value other
  pub list : (later last : List Bytes) (value other : UnitValue) → IsUnitRead names bytes later value → IsUnitRead names bytes last other → later ≡ last
  pub apart : (later : List Bytes) (value : UnitValue) → IsUnitRead names bytes later value → ¬ IsBadUnit names bytes
  pub part : (part other : BadPart) → IsBadFor names bytes part → IsBadFor names bytes other → part ≡ other

-- what units are linked to is the same: the text, the phrase and the derivation
pub record IsSameLinked (linked other : Linked) : Type 0 where
  pub text : linked.text ≡ other.text
  pub phrase : reads linked.phrase ≡ reads other.phrase
  pub derivation : plain_derivation linked.derivation ≡ plain_derivation other.derivation

-- with the list units are linked to one such at most, and then aren't refused, and they are refused for one cause: but for want of memory
pub record UnitsAreLinkedOneWay (names : List Bytes) (values : List UnitValue) : Type 0 where
  pub linked : (linked other : Linked) → IsLinked names values linked → IsLinked names values other → IsSameLinked linked other
  pub apart : (linked : Linked) (e : LinkError) → e ≢ unlinked.OutOfMemory → IsLinked names values linked → ¬ IsUnlinked names values e
  pub cause : (e other : LinkError) → e ≢ unlinked.OutOfMemory → other ≢ unlinked.OutOfMemory → IsUnlinked names values e → IsUnlinked names values other → e ≡ other

-- sources, bytes with each list of names, and units
pub record UnitsAreJudgedOneWay : Type 0 where
  pub sources : (names : List Bytes) (source : Bytes) → SourcesAreJudgedOneWay names source
  pub bytes : (names : List Bytes) → AreNames names → (bytes : Bytes) → BytesAreJudgedOneWay names bytes
  pub units : (names : List Bytes) (values : List UnitValue) → UnitsAreLinkedOneWay names values
