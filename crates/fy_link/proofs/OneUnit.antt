-- Bytes are of one unit, or are none for one reason.
use Rattle.std.proofs.Common.{◌≡◌, ◌≢◌, ℕ, ◌^◌, ◌≤◌, ◌<◌, IsTrue, List, [], ◌∷◌, ◌++◌, length, reverse, refl, sym, ap, ap₂, ◌∙◌, subst, arith, append_assoc}
use Rattle.std.specs.Int.{w32, from_le_bytes}
use Rattle.std.proofs.lemmas.List.{append-nil}
use Rattle.std.proofs.lemmas.Nat.{from_le_bytes-to_le_bytes_4}
use Rattle.fy_base.specs.Outside.{Bytes}
use Rattle.fy_base.specs.declared.data.Place.{Place}
use Rattle.fy_types.specs.Names.{are_distinct, AreNames, with_name, with_names}
use Rattle.fy_types.proofs.NameLemmas.{AreNames-with_name}
use Rattle.fy_derive.specs.Derivations.{PlainDerivation}
use Rattle.fy_derive.specs.Judging.{judged, concludes}
use Rattle.fy_read.specs.declared.error.ReadError.{ReadError}
use Rattle.fy_read.specs.declared.error.ReadError.TheVariants as stopped
use Rattle.fy_read.specs.FieldNames.{NumbersFields, field_names}
use Rattle.fy_read.specs.Refusals.{Stops, IsReadFault, KeepsThroughout}
use Rattle.fy_read.specs.Spelling.{IsTextOf}
use Rattle.fy_read.proofs.FineLemmas.{same_front}
use Rattle.fy_read.proofs.NamingLemmas.{text_along}
use Rattle.fy_read.proofs.ValueLemmas.{text_unique}
use Rattle.fy_link.specs.declared.unit.Unit.{Unit as UnitValue}
use Rattle.fy_link.specs.Header.{PlainHeader}
use Rattle.fy_link.specs.Laws.{IsSameUnit, BytesAreJudgedOneWay}
use Rattle.fy_link.specs.Sources.{PlainSource, HasEquals, IsSourceFault}
use Rattle.fy_link.specs.Units.{context_of, PlainUnit, plain_unit}
use Rattle.fy_link.specs.UnitBytes.{BadPart, bad_source, HoldsUnit, IsBadFor, IsRead, IsUnitRead, magic, word, unit_bytes}
use Rattle.fy_link.proofs.NamedSources.{tokens-names}
use Rattle.fy_link.proofs.OneSource.{source-same, source-or-fault, source-faults-same}
use Rattle.fy_link.proofs.SameSources.{headed-same}

-- ---- the parts

word-same : (m n : ℕ) → m ≤ 1048576 → n ≤ 1048576 → word m ≡ word n → m ≡ n
word-same m n l k e =
    let a : m < 2 ^ 32 = omega (arith, l) in
    let b : n < 2 ^ 32 = omega (arith, k) in
    sym (from_le_bytes-to_le_bytes_4 m a) ∙ (ap (from_le_bytes w32) e ∙ from_le_bytes-to_le_bytes_4 n b)

pub holds-same : (bytes s t u v : Bytes) → HoldsUnit bytes s t → HoldsUnit bytes u v → (s ≡ u) × (t ≡ v)
holds-same bytes s t u v h k =
    let whole : unit_bytes s t ≡ unit_bytes u v = sym h.is ∙ k.is in
    let behind = same_front magic magic (word 1 ++ (word (length s) ++ (s ++ t))) (word 1 ++ (word (length u) ++ (u ++ v))) whole refl in
    let sized = same_front (word 1) (word 1) (word (length s) ++ (s ++ t)) (word (length u) ++ (u ++ v)) behind.1 refl in
    let long = same_front (word (length s)) (word (length u)) (s ++ t) (u ++ v) sized.1 refl in
    same_front s u t v long.1 (word-same (length s) (length u) h.short k.short long.0)

-- ---- names

with-names : (names texts : List Bytes) → AreNames names → AreNames (with_names names texts)
with-names names [] h = h
with-names names (text ∷ texts) h = with-names (with_name names text) texts (AreNames-with_name names text h)

pub read-names : (names later : List Bytes) (source text : Bytes) (u : PlainUnit) → AreNames names → IsRead names source text later u → AreNames later
read-names names later source text u h k =
    subst AreNames (sym k.read.added) (with-names k.after (field_names k.read.text_of.pieces) (tokens-names names k.after source k.said.tokens h k.said.headed.lexed.read))

-- ---- derivations

-- the names behind a text are the same for whatever derivation it is one of
numbers-same : (after later last : List Bytes) (d e : PlainDerivation) (text : Bytes) → NumbersFields after later d text → NumbersFields after last e text → later ≡ last
numbers-same after later last d e text h k = h.added ∙ (sym (text_along after h.text_of) ∙ (text_along after k.text_of ∙ sym k.added))

goes-on : (names : List Bytes) (d : PlainDerivation) (text part rest : Bytes) → IsTextOf names d text → text ≡ part ++ rest → ¬ Stops part rest
goes-on names d text part [] t is stops = stops (record { names = names; d = d; text_of = subst (IsTextOf names d) (is ∙ append-nil part) t })
goes-on names d text part (b ∷ rest) t is stops =
    stops (record { names = names; d = d; more = rest; text = subst (IsTextOf names d) (is ∙ sym (append_assoc part (b ∷ []) rest)) t })

read-or-fault : (names : List Bytes) (d : PlainDerivation) (text : Bytes) (e : ReadError) → e ≢ stopped.OutOfMemory → IsTextOf names d text → KeepsThroughout text → IsReadFault text e → ⊥
read-or-fault names d text (stopped.BadText k) m t keeps f = goes-on names d text f.part f.rest t f.is f.stops
read-or-fault names d text stopped.TooLarge m t keeps f = keeps.size f.part f.rest f.is f.passes
read-or-fault names d text stopped.TooDeep m t keeps f = keeps.depth f.part f.rest f.is f.passes
read-or-fault names d text stopped.OutOfMemory m t keeps f = m refl

-- ---- units

unit-equal : (u v : PlainUnit) → u.source ≡ v.source → u.derivation ≡ v.derivation → u ≡ v
unit-equal u v e f = let made : PlainSource → PlainDerivation → PlainUnit = λ s d. record { source = s; derivation = d } in ap₂ made e f

-- one list of names behind the source, and behind the text, and one unit
record IsSameRead (after last later end : List Bytes) (u v : PlainUnit) : Type 0 where
  one_after : after ≡ last
  one_later : later ≡ end
  one_unit : u ≡ v

read-same : (names later last : List Bytes) (source text : Bytes) (u v : PlainUnit) → AreNames names → (h : IsRead names source text later u) → (k : IsRead names source text last v) →
    IsSameRead h.after k.after later last u v
read-same names later last source text u v n h k =
    let said = source-same names h.after k.after source u.source v.source h.said k.said in
    let numbers : NumbersFields k.after later u.derivation text = subst (λ (ns : List Bytes). NumbersFields ns later u.derivation text) said.one_after h.read in
    let one = numbers-same k.after later last u.derivation v.derivation text numbers k.read in
    let distinct : IsTrue (are_distinct last) = (read-names names last source text v n k).distinct in
    let there : IsTextOf last u.derivation text = subst (λ (ns : List Bytes). IsTextOf ns u.derivation text) one h.read.text_of in
    record {
      one_after = said.one_after;
      one_later = one;
      one_unit = unit-equal u v said.one_source (text_unique last u.derivation v.derivation text distinct there k.read.text_of);
    }

equals-same : (names after last : List Bytes) (source : Bytes) (a b : Place) → HasEquals names source after a → HasEquals names source last b → a ≡ b
equals-same names after last source a b h k =
    let same = headed-same names source after last h.tokens k.tokens h.header k.header h.headed k.headed in
    sym h.is ∙ (ap (λ (x : PlainHeader). x.equals_at) same.one_header ∙ k.is)

-- what is read of the bytes is also of an equal source and an equal text
moved : (names later : List Bytes) (s t x y : Bytes) (u : PlainUnit) → s ≡ x → t ≡ y → IsRead names s t later u → IsRead names x y later u
moved names later s t x y u e f h = subst (λ (b : Bytes). IsRead names x b later u) f (subst (λ (a : Bytes). IsRead names a t later u) e h)

-- the values and the names that two readings of the bytes give
record IsOneUnit (later last : List Bytes) (value other : UnitValue) : Type 0 where
  pub same : IsSameUnit value other
  pub one_later : later ≡ last

units-same : (names later last : List Bytes) (bytes : Bytes) (value other : UnitValue) → AreNames names → IsUnitRead names bytes later value → IsUnitRead names bytes last other →
    IsOneUnit later last value other
units-same names later last bytes value other n h k =
    let parts = holds-same bytes value.source h.text other.source k.text h.holds k.holds in
    let both = read-same names later last other.source k.text (plain_unit value) (plain_unit other) n
    (moved names later value.source h.text other.source k.text (plain_unit value) parts.0 parts.1 h.read) k.read in
    let there : HasEquals names other.source h.read.after value.said.equals_at = subst (λ (s : Bytes). HasEquals names s h.read.after value.said.equals_at) parts.0 h.equals in
    record {
      same = record {
        source = parts.0;
        unit = both.one_unit;
        equals_at = equals-same names h.read.after k.read.after other.source value.said.equals_at other.said.equals_at there k.equals;
      };
      one_later = both.one_later;
    }

-- bytes of a unit aren't refused
unit-or-bad : (names later : List Bytes) (bytes : Bytes) (value : UnitValue) (part : BadPart) → AreNames names → IsUnitRead names bytes later value → IsBadFor names bytes part → ⊥
unit-or-bad names later bytes value part n h (IsBadFor.no_form none) = none value.source h.text h.holds
unit-or-bad names later bytes value part n h (IsBadFor.no_source {source = s} {text = t} {e = e} holds f) =
    let parts = holds-same bytes value.source h.text s t h.holds holds in
    source-or-fault names h.read.after value.source (plain_unit value).source e h.read.said (subst (λ (x : Bytes). IsSourceFault names x e) (sym parts.0) f)
unit-or-bad names later bytes value part n h (IsBadFor.no_derivation {source = s} {text = t} {e = e} holds said f m) =
    let parts = holds-same bytes value.source h.text s t h.holds holds in
    read-or-fault later (plain_unit value).derivation h.text e m h.read.read.text_of h.read.keeps (subst (λ (x : Bytes). IsReadFault x e) (sym parts.1) f)
unit-or-bad names later bytes value part n h (IsBadFor.not_typed {source = s} {text = t} {later = last} {u = u} holds read wrong) =
    let parts = holds-same bytes value.source h.text s t h.holds holds in
    let both = read-same names later last s t (plain_unit value) u n (moved names later value.source h.text s t (plain_unit value) parts.0 parts.1 h.read) read in
    wrong (subst (λ (x : PlainUnit). judged x.derivation 0 (reverse (context_of x.source.imports)) x.source.phrase ≡ concludes x.source.own.type) both.one_unit h.typed.concluded)

parts-same : (names : List Bytes) (bytes : Bytes) (part other : BadPart) → IsBadFor names bytes part → IsBadFor names bytes other → part ≡ other
parts-same names bytes part other (IsBadFor.no_form h) (IsBadFor.no_form k) = refl
parts-same names bytes part other (IsBadFor.no_form h) (IsBadFor.no_source {source = s} {text = t} holds g) = absurd (h s t holds)
parts-same names bytes part other (IsBadFor.no_form h) (IsBadFor.no_derivation {source = s} {text = t} holds said g m) = absurd (h s t holds)
parts-same names bytes part other (IsBadFor.no_form h) (IsBadFor.not_typed {source = s} {text = t} holds read wrong) = absurd (h s t holds)
parts-same names bytes part other (IsBadFor.no_source {source = s} {text = t} holds f) (IsBadFor.no_form k) = absurd (k s t holds)
parts-same names bytes part other (IsBadFor.no_source {source = s} {text = t} {e = e} holds f) (IsBadFor.no_source {source = u} {text = v} {e = g} there k) =
    let parts = holds-same bytes s t u v holds there in
    ap bad_source (source-faults-same names u e g (subst (λ (x : Bytes). IsSourceFault names x e) parts.0 f) k)
parts-same names bytes part other (IsBadFor.no_source {source = s} {text = t} {e = e} holds f) (IsBadFor.no_derivation {source = x} {text = y} {after = after} {u = u} there said k m) =
    let parts = holds-same bytes s t x y holds there in
    absurd (source-or-fault names after x u e said (subst (λ (b : Bytes). IsSourceFault names b e) parts.0 f))
parts-same names bytes part other (IsBadFor.no_source {source = s} {text = t} {e = e} holds f) (IsBadFor.not_typed {source = x} {text = y} {u = u} there read wrong) =
    let parts = holds-same bytes s t x y holds there in
    absurd (source-or-fault names read.after x u.source e read.said (subst (λ (b : Bytes). IsSourceFault names b e) parts.0 f))
parts-same names bytes part other (IsBadFor.no_derivation {source = s} {text = t} holds said f m) (IsBadFor.no_form k) = absurd (k s t holds)
parts-same names bytes part other (IsBadFor.no_derivation {source = s} {text = t} {after = after} {u = u} holds said f m) (IsBadFor.no_source {source = x} {text = y} {e = e} there k) =
    let parts = holds-same bytes s t x y holds there in
    absurd (source-or-fault names after s u e said (subst (λ (b : Bytes). IsSourceFault names b e) (sym parts.0) k))
parts-same names bytes part other (IsBadFor.no_derivation holds said f m) (IsBadFor.no_derivation there again k n) = refl
parts-same names bytes part other (IsBadFor.no_derivation {source = s} {text = t} {e = e} holds said f m) (IsBadFor.not_typed {source = x} {text = y} {later = later} {u = u} there read wrong) =
    let parts = holds-same bytes s t x y holds there in
    absurd (read-or-fault later u.derivation y e m read.read.text_of read.keeps (subst (λ (b : Bytes). IsReadFault b e) parts.1 f))
parts-same names bytes part other (IsBadFor.not_typed {source = s} {text = t} holds read wrong) (IsBadFor.no_form k) = absurd (k s t holds)
parts-same names bytes part other (IsBadFor.not_typed {source = s} {text = t} {u = u} holds read wrong) (IsBadFor.no_source {source = x} {text = y} {e = e} there k) =
    let parts = holds-same bytes s t x y holds there in
    absurd (source-or-fault names read.after s u.source e read.said (subst (λ (b : Bytes). IsSourceFault names b e) (sym parts.0) k))
parts-same names bytes part other (IsBadFor.not_typed {source = s} {text = t} {later = later} {u = u} holds read wrong) (IsBadFor.no_derivation {source = x} {text = y} {e = e} there said k m) =
    let parts = holds-same bytes s t x y holds there in
    absurd (read-or-fault later u.derivation t e m read.read.text_of read.keeps (subst (λ (b : Bytes). IsReadFault b e) (sym parts.1) k))
parts-same names bytes part other (IsBadFor.not_typed holds read wrong) (IsBadFor.not_typed there again other_wrong) = refl

pub bytes-one_way : (names : List Bytes) → AreNames names → (bytes : Bytes) → BytesAreJudgedOneWay names bytes
bytes-one_way names n bytes = record {
  unit = λ later last value other h k. (units-same names later last bytes value other n h k).same;
  list = λ later last value other h k. (units-same names later last bytes value other n h k).one_later;
  apart = λ later value h bad. unit-or-bad names later bytes value bad.0 n h bad.1;
  part = λ one other h k. parts-same names bytes one other h k;
}
