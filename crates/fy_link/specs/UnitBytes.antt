-- The bytes of a unit, and why bytes are none.
use Rattle.std.specs.Prelude.{◌≡◌, ◌≢◌, ℕ, ◌≤◌, List, [], ◌∷◌, ◌++◌, length, reverse}
use Rattle.std.specs.Int.{w32, to_le_bytes}
use Rattle.fy_base.specs.Outside.{Bytes}
use Rattle.fy_expand.specs.Judged.{most_text}
use Rattle.fy_derive.specs.Judging.{judged, concludes}
use Rattle.fy_derive.specs.Limits.{KeepsLimits}
use Rattle.fy_derive.specs.Print.{derivation_text}
use Rattle.fy_derive.specs.Reading.{plain_derivation}
use Rattle.fy_read.specs.declared.error.ReadError.{ReadError}
use Rattle.fy_read.specs.declared.error.ReadError.TheVariants as unread
use Rattle.fy_read.specs.FieldNames.{NumbersFields}
use Rattle.fy_read.specs.Refusals.{IsReadFault, KeepsThroughout}
use Rattle.fy_front.specs.declared.refusal.Refusal.{Refusal}
use Rattle.fy_link.specs.Sources.{PlainSource, HasEquals, IsSource, IsSourceFault}
use Rattle.fy_link.specs.declared.unit.Unit.{Unit as UnitValue}
use Rattle.fy_link.specs.Units.{context_of, PlainUnit, IsTyped, plain_unit}

-- FORSYU64
abbrev pub magic : Bytes
magic = 70 ∷ 79 ∷ 82 ∷ 83 ∷ 89 ∷ 85 ∷ 54 ∷ 52 ∷ []

-- a number of 4 bytes, the lowest first
abbrev pub word : ℕ → Bytes
word n = to_le_bytes w32 n

-- the bytes of a unit: the magic, the number 1, the length of the source, the source, and the text of the derivation
abbrev pub unit_bytes : Bytes → Bytes → Bytes
unit_bytes source text = magic ++ (word 1 ++ (word (length source) ++ (source ++ text)))

-- the bytes hold this source and this text, neither of which is too long
pub record HoldsUnit (bytes source text : Bytes) : Type 0 where
  pub is : bytes ≡ unit_bytes source text
  pub short : length source ≤ most_text
  pub short_text : length text ≤ 16777216

-- the source says this, and the text is one of this derivation within the limits, whose fields' names are added behind those of the source
pub record IsRead (names : List Bytes) (source text : Bytes) (later : List Bytes) (u : PlainUnit) : Type 0 where
  pub after : List Bytes
  pub said : IsSource names source after u.source
  pub read : NumbersFields after later u.derivation text
  pub limits : KeepsLimits u.derivation
  pub keeps : KeepsThroughout text

-- which part of bytes is none of a unit's
pub data BadPart : Type 0 where
  bad_form : BadPart
  bad_source : Refusal → BadPart
  bad_text : BadPart
  bad_type : BadPart

-- why that part is none
pub data IsBadFor (names : List Bytes) (bytes : Bytes) : BadPart → Type 0 where
  -- they aren't so, or a part is too long
  no_form : ((source text : Bytes) → ¬ HoldsUnit bytes source text) → IsBadFor names bytes bad_form
  -- the source is refused before typing
  no_source : {source text : Bytes} {e : Refusal} → HoldsUnit bytes source text → IsSourceFault names source e → IsBadFor names bytes (bad_source e)
  -- the text is no derivation's within the limits
  no_derivation : {source text : Bytes} {after : List Bytes} {u : PlainSource} {e : ReadError} →
      HoldsUnit bytes source text → IsSource names source after u → IsReadFault text e → e ≢ unread.OutOfMemory → IsBadFor names bytes bad_text
  -- the derivation doesn't conclude the unit's type
  not_typed : {source text : Bytes} {later : List Bytes} {u : PlainUnit} →
      HoldsUnit bytes source text → IsRead names source text later u →
      judged u.derivation 0 (reverse (context_of u.source.imports)) u.source.phrase ≢ concludes u.source.own.type → IsBadFor names bytes bad_type

-- the bytes are no unit
abbrev pub IsBadUnit : List Bytes → Bytes → Type 0
IsBadUnit names bytes = (part : BadPart) × IsBadFor names bytes part

-- the bytes are read as this value: its source and a text of its derivation stand in them, and it keeps what the source says
pub record IsUnitRead (names : List Bytes) (bytes : Bytes) (later : List Bytes) (value : UnitValue) : Type 0 where
  pub text : Bytes
  pub holds : HoldsUnit bytes value.source text
  pub read : IsRead names value.source text later (plain_unit value)
  pub equals : HasEquals names value.source read.after value.said.equals_at
  pub typed : IsTyped (plain_unit value)

-- what is written of the value with these later names is read as the value, unless the text of its derivation is too long
abbrev pub IsReadBack : List Bytes → List Bytes → UnitValue → Type 0
IsReadBack names later value =
    length (derivation_text later (plain_derivation value.derivation)) ≤ 16777216 →
    IsUnitRead names (unit_bytes value.source (derivation_text later (plain_derivation value.derivation))) later value
