-- Units that are read from bytes, and bytes that are none.
use Rattle.std.proofs.Common.{◌≡◌, ◌≢◌, ◌⊎◌, inl, inr, ℕ, ◌≤◌, ◌+◌, List, length, refl, sym, ap, subst, arith}
use Rattle.std.proofs.lemmas.List.{length-append}
use Rattle.fy_base.specs.Outside.{Bytes}
use Rattle.fy_derive.specs.declared.derivation.Derivation.{Derivation}
use Rattle.fy_derive.specs.Limits.{KeepsLimits}
use Rattle.fy_derive.specs.Reading.{plain_derivation}
use Rattle.fy_read.specs.declared.error.ReadError.{ReadError}
use Rattle.fy_read.specs.declared.error.ReadError.TheVariants as stopped
use Rattle.fy_read.specs.FieldNames.{NumbersFields}
use Rattle.fy_read.specs.Refusals.{IsReadFault, KeepsThroughout}
use Rattle.fy_front.specs.Checked.{IfRefused}
use Rattle.fy_front.specs.declared.error.FrontError.{FrontError}
use Rattle.fy_front.specs.declared.error.FrontError.TheVariants as front
use Rattle.fy_link.specs.declared.error.UnitReadError.{UnitReadError}
use Rattle.fy_link.specs.declared.error.UnitReadError.TheVariants as unread
use Rattle.fy_link.specs.declared.source.Said.{Said}
use Rattle.fy_link.specs.declared.unit.Unit.{Unit as UnitValue}
use Rattle.fy_link.specs.Answers.{of_source, of_text}
use Rattle.fy_link.specs.Read.{plain_said, source_in}
use Rattle.fy_link.specs.Sources.{PlainSource, HasEquals, IsSource, IsSourceFault}
use Rattle.fy_link.specs.Units.{IsTyped, plain_unit}
use Rattle.fy_link.specs.UnitBytes.{HoldsUnit, IsRead, bad_source, bad_text, IsBadFor, IsBadUnit, IsUnitRead, unit_bytes}

-- the unit of a source and a derivation
pub read-of : (names after later : List Bytes) (source text : Bytes) (said : Said) (d : Derivation) → IsSource names source after (plain_said said) →
    NumbersFields after later (plain_derivation d) text → KeepsLimits (plain_derivation d) → KeepsThroughout text →
    IsRead names source text later (record { source = plain_said said; derivation = plain_derivation d })
read-of names after later source text said d h k l keeps = record { after = after; said = h; read = k; limits = l; keeps = keeps }

pub unit-read : (names after later : List Bytes) (bytes source text : Bytes) (value : UnitValue) → HoldsUnit bytes source text → value.source ≡ source →
    IsSource names source after (source_in value) → HasEquals names source after value.said.equals_at → NumbersFields after later (plain_derivation value.derivation) text →
    KeepsThroughout text → IsTyped (plain_unit value) → IsUnitRead names bytes later value
unit-read names after later bytes source text value holds is said equals numbers keeps typed = record {
  text = text;
  holds = subst (λ (s : Bytes). HoldsUnit bytes s text) (sym is) holds;
  read = record {
    after = after;
    said = subst (λ (s : Bytes). IsSource names s after (source_in value)) (sym is) said;
    read = numbers;
    limits = typed.limits;
    keeps = keeps;
  };
  equals = subst (λ (s : Bytes). HasEquals names s after value.said.equals_at) (sym is) equals;
  typed = typed;
}

-- want of memory, or the bytes are no unit
abbrev pub IsReadRefusal : List Bytes → Bytes → UnitReadError → Type 0
IsReadRefusal names bytes e = (e ≡ unread.OutOfMemory) ⊎ IsBadUnit names bytes

source-fault : (names : List Bytes) (bytes source text : Bytes) (e : FrontError) → HoldsUnit bytes source text → IfRefused (IsSourceFault names source) e → IsReadRefusal names bytes (of_source e)
source-fault names bytes source text (front.Refused why) holds h = inr (bad_source why, IsBadFor.no_source holds h)
source-fault names bytes source text front.OutOfMemory holds h = inl refl

pub no-source : (names : List Bytes) (bytes source text : Bytes) (e : FrontError) (r : UnitReadError) → r ≡ of_source e → HoldsUnit bytes source text →
    IfRefused (IsSourceFault names source) e → IsReadRefusal names bytes r
no-source names bytes source text e r is holds h = subst (IsReadRefusal names bytes) (sym is) (source-fault names bytes source text e holds h)

bad-other : (k : ℕ) → stopped.BadText k ≢ stopped.OutOfMemory
bad-other k e = absurd (cc)

large-other : stopped.TooLarge ≢ stopped.OutOfMemory
large-other e = absurd (cc)

deep-other : stopped.TooDeep ≢ stopped.OutOfMemory
deep-other e = absurd (cc)

text-fault : (names after : List Bytes) (bytes source text : Bytes) (u : PlainSource) (e : ReadError) → HoldsUnit bytes source text → IsSource names source after u → IsReadFault text e →
    IsReadRefusal names bytes (of_text e)
text-fault names after bytes source text u (stopped.BadText k) holds s h = inr (bad_text, IsBadFor.no_derivation holds s h (bad-other k))
text-fault names after bytes source text u stopped.TooLarge holds s h = inr (bad_text, IsBadFor.no_derivation holds s h large-other)
text-fault names after bytes source text u stopped.TooDeep holds s h = inr (bad_text, IsBadFor.no_derivation holds s h deep-other)
text-fault names after bytes source text u stopped.OutOfMemory holds s h = inl refl

pub no-text : (names after : List Bytes) (bytes source text : Bytes) (u : PlainSource) (e : ReadError) (r : UnitReadError) → r ≡ of_text e → HoldsUnit bytes source text →
    IsSource names source after u → IsReadFault text e → IsReadRefusal names bytes r
no-text names after bytes source text u e r is holds s h = subst (IsReadRefusal names bytes) (sym is) (text-fault names after bytes source text u e holds s h)

-- the source and the text are shorter than the bytes
pub parts-shorter : (bytes source text : Bytes) → HoldsUnit bytes source text → length source + length text ≤ length bytes
parts-shorter bytes source text h =
    let e : length bytes ≡ length (unit_bytes source text) = ap (λ (b : Bytes). length b) h.is in
    omega (arith, e, length-append source text)
