-- Units: sources with derivations of their phrases, typed apart.
use Rattle.std.specs.Prelude.{◌≡◌, ◌≤◌, List, [], ◌∷◌, ◌++◌, length, map, reverse, Some, Err}
use Rattle.fy_base.specs.Outside.{Bytes}
use Rattle.fy_types.specs.declared.types.Atom.TheVariants.{Int, Bool as Truth, Char, Comm, IntAcc}
use Rattle.fy_types.specs.Types.{PlainType, atom, arrow}
use Rattle.fy_lexer.specs.Tokens.{HasAdded}
use Rattle.fy_derive.specs.Derivations.{PlainDerivation}
use Rattle.fy_derive.specs.Judging.{judged, concludes}
use Rattle.fy_derive.specs.Least.{forms_of, visits}
use Rattle.fy_derive.specs.Limits.{KeepsLimits}
use Rattle.fy_derive.specs.Reading.{plain_derivation}
use Rattle.fy_expand.specs.Judged.{most_text}
use Rattle.fy_expand.specs.Types.{variable_sequence}
use Rattle.fy_least.specs.declared.error.FindError.{FindError}
use Rattle.fy_least.specs.Finding.{IsFindingOf}
use Rattle.fy_least.specs.Limits.{KeepTypeLimits}
use Rattle.fy_front.specs.Checked.{find_refusal}
use Rattle.fy_front.specs.declared.refusal.Refusal.{Refusal}
use Rattle.fy_link.specs.declared.unit.Unit.{Unit as UnitValue}
use Rattle.fy_link.specs.Read.{source_in}
use Rattle.fy_link.specs.Sources.{Named, PlainSource, HasEquals, IsSource, IsSourceFault}

-- the type of `newintseq`: from a number and a procedure of a sequence of variables to commands
abbrev pub maker_type : PlainType
maker_type = arrow (atom Int) (arrow (arrow variable_sequence (atom Comm)) (atom Comm))

-- the types of the prelude's names, the outermost first: `putint`, `putchar`, `putbool`, `read` and `newintseq`
abbrev pub prelude_types : List PlainType
prelude_types =
    arrow (atom Int) (atom Comm) ∷ arrow (atom Char) (atom Comm) ∷ arrow (atom Truth) (atom Comm) ∷ arrow (atom IntAcc) (atom Comm)
    ∷ maker_type ∷ []

-- the context of a unit, the outermost first: the types of the prelude and then of its imports
abbrev pub context_of : List Named → List PlainType
context_of imports = prelude_types ++ map (λ (x : Named). x.type) imports

-- a unit: what its source says, and its derivation
pub record PlainUnit : Type 0 where
  pub source : PlainSource
  pub derivation : PlainDerivation

-- the unit that a value holds
abbrev pub plain_unit : UnitValue → PlainUnit
plain_unit value = record { source = source_in value; derivation = plain_derivation value.derivation }

-- the derivation concludes the unit's type for its phrase in its context
pub record IsTyped (u : PlainUnit) : Type 0 where
  pub limits : KeepsLimits u.derivation
  pub concluded : judged u.derivation 0 (reverse (context_of u.source.imports)) u.source.phrase ≡ concludes u.source.own.type

-- in the unit's context the least types of its phrase, and the types that are written in it, keep their limits
abbrev pub KeepsTypeLimits : PlainSource → Type 0
KeepsTypeLimits u = KeepTypeLimits (visits 0 (forms_of (reverse (context_of u.imports))) u.phrase)

-- the value is this unit, and keeps what its source says and the place of its `==`; the source's names have their numbers in the list
pub record IsUnitOf (names : List Bytes) (value : UnitValue) (u : PlainUnit) : Type 0 where
  pub short : length value.source ≤ most_text
  pub before : List Bytes
  pub after : List Bytes
  pub said : IsSource before value.source after u.source
  pub equals : HasEquals before value.source after value.said.equals_at
  pub kept : HasAdded after names
  pub is : u ≡ plain_unit value
  pub typed : IsTyped u

-- the value is a unit
pub record IsUnit (names : List Bytes) (value : UnitValue) : Type 0 where
  pub u : PlainUnit
  pub is : IsUnitOf names value u

-- why a source is no unit: it is refused before typing, else its phrase hasn't the type
pub data IsUnitFault (names : List Bytes) (source : Bytes) : Refusal → Type 0 where
  before_typing : {e : Refusal} → IsSourceFault names source e → IsUnitFault names source e
  of_typing : {after : List Bytes} {u : PlainSource} {e : Refusal} (cause : FindError) → IsSource names source after u →
      IsFindingOf (reverse (context_of u.imports)) u.phrase u.own.type (Err cause) → find_refusal cause ≡ Some e → IsUnitFault names source e
