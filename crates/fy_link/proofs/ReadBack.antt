-- What is written of a unit whose derivation can be printed is read as that unit.
use Rattle.std.proofs.Common.{◌≡◌, ◌⊎◌, inl, inr, ℕ, zero, suc, ◌+◌, ◌≤◌, ◌<◌, Bool, true, false, List, [], ◌∷◌, ◌++◌, length, refl, sym, ap, ◌∙◌, subst, arith}
use Rattle.std.specs.Prelude.{Some, slice_get, if◌then◌else◌}
use Rattle.std.specs.Str.{bytes_eq}
use Rattle.std.proofs.lemmas.Bool.{cases_lt}
use Rattle.std.proofs.lemmas.List.{length-append}
use Rattle.std.proofs.lemmas.Slice.Eq.{bytes_eq-Decides}
use Rattle.fy_base.specs.Outside.{Bytes}
use Rattle.fy_types.specs.Names.{AreNames, with_name, with_names}
use Rattle.fy_types.specs.Types.{PlainType, PlainTypes}
use Rattle.fy_lexer.proofs.NamesLemmas.{HasAdded-none}
use Rattle.fy_derive.specs.Derivations.{PlainDerivation, PlainDerivations}
use Rattle.fy_derive.specs.Print.{derivation_text}
use Rattle.fy_derive.specs.Printable.{IsPrintable}
use Rattle.fy_derive.specs.Reading.{plain_derivation}
use Rattle.fy_read.specs.declared.error.ReadError.{ReadError}
use Rattle.fy_read.specs.declared.error.ReadError.TheVariants as stopped
use Rattle.fy_read.specs.FieldNames.{NumbersFields, begins_with_colon, field_names}
use Rattle.fy_read.specs.Refusals.{PassesSize, PassesDepth, KeepsBefore, KeepsThroughout, IsReadFault}
use Rattle.fy_read.specs.Spelling.{Piece, TypeLevel, SpellsType, an_arrow, no_arrow, members, a_field, no_field, ns, atom, group, MoreTypes, no_more, one_more, SpellsDerivation, a_ns, a_sub, a_meet, an_alt, a_left, a_right, a_rule, SpellsDerivations, none, and_one, IsTextOf}
use Rattle.fy_read.proofs.PrintedLemmas.{printed_is_text}
use Rattle.fy_read.proofs.TakenLemmas.{printed_is_read}
use Rattle.fy_link.specs.declared.unit.Unit.{Unit as UnitValue}
use Rattle.fy_link.specs.Read.{source_in}
use Rattle.fy_link.specs.Sources.{HasEquals, IsSource}
use Rattle.fy_link.specs.Units.{IsTyped, plain_unit}
use Rattle.fy_link.specs.UnitBytes.{HoldsUnit, IsReadBack, unit_bytes}
use Rattle.fy_link.proofs.ReadUnits.{unit-read}

-- ---- a text that has no fault keeps the limits throughout

abbrev IsUnrefused : Bytes → Type 0
IsUnrefused text = (fault : ReadError) → IsReadFault text fault → fault ≡ stopped.OutOfMemory

large-other : stopped.TooLarge ≡ stopped.OutOfMemory → ⊥
large-other e = cc

deep-other : stopped.TooDeep ≡ stopped.OutOfMemory → ⊥
deep-other e = cc

not-large : (text part rest : Bytes) → IsUnrefused text → text ≡ part ++ rest → KeepsBefore text (length part) → ¬ PassesSize part
not-large text part rest taken is before passes = large-other (taken stopped.TooLarge (record { part = part; rest = rest; is = is; passes = passes; before = before }))

not-deep : (text part rest : Bytes) → IsUnrefused text → text ≡ part ++ rest → KeepsBefore text (length part) → ¬ PassesDepth part rest
not-deep text part rest taken is before passes =
    deep-other (taken stopped.TooDeep
    (record { part = part; rest = rest; is = is; passes = passes; small = not-large text part rest taken is before; before = before }))

one-more-size : (text : Bytes) (k : ℕ) → IsUnrefused text → KeepsBefore text k → (part rest : Bytes) → text ≡ part ++ rest → length part < suc k → ¬ PassesSize part
one-more-size text k taken before part rest is less = by (cases_lt (length part) k)
  where
    by : (length part < k) ⊎ (k ≤ length part) → ¬ PassesSize part
    by (inl low) = before.size part rest is low
    by (inr high) = let same : k ≡ length part = omega (arith, less, high) in not-large text part rest taken is (subst (KeepsBefore text) same before)

one-more-depth : (text : Bytes) (k : ℕ) → IsUnrefused text → KeepsBefore text k → (part rest : Bytes) → text ≡ part ++ rest → length part < suc k → ¬ PassesDepth part rest
one-more-depth text k taken before part rest is less = by (cases_lt (length part) k)
  where
    by : (length part < k) ⊎ (k ≤ length part) → ¬ PassesDepth part rest
    by (inl low) = before.depth part rest is low
    by (inr high) = let same : k ≡ length part = omega (arith, less, high) in not-deep text part rest taken is (subst (KeepsBefore text) same before)

keeps-before : (text : Bytes) → IsUnrefused text → (k : ℕ) → KeepsBefore text k
keeps-before text taken zero = record { size = λ part rest is less. absurd (omega (arith, less)); depth = λ part rest is less. absurd (omega (arith, less)) }
keeps-before text taken (suc k) =
    let before = keeps-before text taken k in
    record { size = one-more-size text k taken before; depth = one-more-depth text k taken before }

keeps-throughout : (text : Bytes) → IsUnrefused text → KeepsThroughout text
keeps-throughout text taken =
    let all = keeps-before text taken (length text + 1) in
    record {
      size = λ part rest is. all.size part rest is (omega (arith, ap length is, length-append part rest));
      depth = λ part rest is. all.depth part rest is (omega (arith, ap length is, length-append part rest));
    }

-- ---- a text adds no names to those under which it is one

known-step : (b : Bool) (w name : Bytes) (names : List Bytes) → bytes_eq w name ≡ b → (b ≡ false → with_name names w ≡ names) →
    (if b then name ∷ names else name ∷ with_name names w) ≡ name ∷ names
known-step true w name names e h = refl
known-step false w name names e h = ap (λ (l : List Bytes). name ∷ l) (h refl)

same-text : (w name : Bytes) → Some name ≡ Some w → bytes_eq w name ≡ false → ⊥
same-text w name e f = let g = (bytes_eq-Decides w name).1 (let k : name ≡ w = cc in sym k) in cc

with-known : (names : List Bytes) (i : ℕ) (w : Bytes) → slice_get names i ≡ Some w → with_name names w ≡ names
with-known [] i w h = absurd cc
with-known (name ∷ names) zero w h = known-step (bytes_eq w name) w name names refl (λ f. absurd (same-text w name h f))
with-known (name ∷ names) (suc i) w h = known-step (bytes_eq w name) w name names refl (λ f. with-known names i w h)

-- the names of these pieces' fields are known
abbrev Stay : List Bytes → List Piece → Type 0
Stay names ps = with_names names (field_names ps) ≡ names

behind-word : (names : List Bytes) (w : Bytes) (ps : List Piece) (b : Bool) → begins_with_colon ps ≡ b → b ≡ false → Stay names ps →
    with_names names (if begins_with_colon ps then w ∷ field_names ps else field_names ps) ≡ names
behind-word names w ps b e f h = ap (λ (c : Bool). with_names names (if c then w ∷ field_names ps else field_names ps)) (e ∙ f) ∙ h

more-colon : {names : List Bytes} {As : PlainTypes} {ps r : List Piece} → MoreTypes names As ps r → begins_with_colon r ≡ false → begins_with_colon ps ≡ false
more-colon no_more h = h
more-colon (one_more A As) h = refl

mutual
  type-stays : {names : List Bytes} {l : TypeLevel} {A : PlainType} {ts r : List Piece} → SpellsType names l A ts r → begins_with_colon r ≡ false → Stay names r → Stay names ts
  type-stays (an_arrow D B) h k = type-stays D refl (type-stays B h k)
  type-stays (no_arrow A) h k = type-stays A h k
  type-stays (members A As) h k = type-stays A (more-colon As h) (types-stay As h k)
  type-stays {names = names} (a_field {i = i} {name = name} {ts = ts} numbered identifier A) h k =
      ap (λ (l : List Bytes). with_names l (field_names ts)) (with-known names i name numbered) ∙ type-stays A h k
  type-stays (no_field A) h k = type-stays A h k
  type-stays {names = names} (ns {r = r}) h k = behind-word names _ r (begins_with_colon r) refl h k
  type-stays {names = names} (atom {r = r}) h k = behind-word names _ r (begins_with_colon r) refl h k
  type-stays (group A) h k = type-stays A refl k

  types-stay : {names : List Bytes} {As : PlainTypes} {ts r : List Piece} → MoreTypes names As ts r → begins_with_colon r ≡ false → Stay names r → Stay names ts
  types-stay no_more h k = k
  types-stay (one_more A As) h k = type-stays A (more-colon As h) (types-stay As h k)

derivation-colon : {names : List Bytes} {d : PlainDerivation} {ts r : List Piece} → SpellsDerivation names d ts r → begins_with_colon ts ≡ false
derivation-colon a_ns = refl
derivation-colon (a_sub T d) = refl
derivation-colon (a_meet low high ds) = refl
derivation-colon (an_alt small d) = refl
derivation-colon (a_left d) = refl
derivation-colon (a_right d) = refl
derivation-colon (a_rule high ds) = refl

derivations-colon : {names : List Bytes} {ds : PlainDerivations} {ts r : List Piece} → SpellsDerivations names ds ts r → begins_with_colon r ≡ false → begins_with_colon ts ≡ false
derivations-colon none h = h
derivations-colon (and_one d ds) h = derivation-colon d

mutual
  derivation-stays : {names : List Bytes} {d : PlainDerivation} {ts r : List Piece} → SpellsDerivation names d ts r → begins_with_colon r ≡ false → Stay names r → Stay names ts
  derivation-stays {names = names} (a_ns {r = r}) h k = behind-word names _ r (begins_with_colon r) refl h k
  derivation-stays (a_sub T d) h k = type-stays T refl (derivation-stays d h k)
  derivation-stays (a_meet low high ds) h k = derivations-stay ds h k
  derivation-stays (an_alt small d) h k = derivation-stays d h k
  derivation-stays {names = names} (a_left {ts = ts} d) h k = behind-word names _ ts (begins_with_colon ts) refl (derivation-colon d) (derivation-stays d h k)
  derivation-stays {names = names} (a_right {ts = ts} d) h k = behind-word names _ ts (begins_with_colon ts) refl (derivation-colon d) (derivation-stays d h k)
  derivation-stays (a_rule high ds) h k = derivations-stay ds h k

  derivations-stay : {names : List Bytes} {ds : PlainDerivations} {ts r : List Piece} → SpellsDerivations names ds ts r → begins_with_colon r ≡ false → Stay names r → Stay names ts
  derivations-stay none h k = k
  derivations-stay (and_one d ds) h k = derivation-stays d (derivations-colon ds h) (derivations-stay ds h k)

text-stays : (names : List Bytes) (d : PlainDerivation) (text : Bytes) → IsTextOf names d text → NumbersFields names names d text
text-stays names d text t = record { text_of = t; added = sym (derivation-stays t.derivation refl refl) }

-- ---- units

pub read-back : (names after : List Bytes) (source : Bytes) (value : UnitValue) → AreNames after → length source ≤ 1048576 → value.source ≡ source →
    IsSource names source after (source_in value) → HasEquals names source after value.said.equals_at → IsTyped (plain_unit value) →
    IsPrintable after (plain_derivation value.derivation) → IsReadBack names after value
read-back names after source value valid short is said equals typed printable long =
    let d = plain_derivation value.derivation in
    let text = derivation_text after d in
    let holds : HoldsUnit (unit_bytes value.source text) source text = record { is = ap (λ (s : Bytes). unit_bytes s text) is; short = short; short_text = long } in
    let read = printed_is_read after after d valid.distinct (HasAdded-none after) printable typed.limits in
    unit-read names after after (unit_bytes value.source text) source text value holds is said equals
    (text-stays after d text (printed_is_text after d printable)) (keeps-throughout text read.taken) typed
