-- What units say, and their parts of the text.
use Rattle.std.proofs.Common.{◌≡◌, ℕ, ◌+◌, ◌<◌, List, [], ◌∷◌, ◌++◌, length, map, take, get_or, refl, sym, ap, ◌∙◌, subst}
use Rattle.std.specs.Prelude.{All, Some, slice_get}
use Rattle.std.proofs.lemmas.List.{take_more, map_push}
use Rattle.std.proofs.lemmas.List.Elements.{All-head, All-tail}
use Rattle.fy_base.specs.Outside.{Bytes}
use Rattle.fy_lexer.specs.Tokens.{HasAdded}
use Rattle.fy_lexer.proofs.NamesLemmas.{HasAdded-none, numbered_later}
use Rattle.fy_link.specs.declared.joined.Part.{Part}
use Rattle.fy_link.specs.declared.unit.Unit.{Unit as UnitValue}
use Rattle.fy_link.specs.Header.{PlainHeader}
use Rattle.fy_link.specs.Joined.{TextPart, IsTail, IsTextPart, AreTextParts}
use Rattle.fy_link.specs.Links.{AreUnitsOf, sources_of}
use Rattle.fy_link.specs.Read.{plain_part, source_in}
use Rattle.fy_link.specs.Sources.{PlainSource}
use Rattle.fy_link.specs.Units.{PlainUnit, IsUnitOf, IsUnit, plain_unit}
use Rattle.fy_link.proofs.KnownNames.{IsKnown, tokens-known, own-known}
use Rattle.fy_link.proofs.SameSources.{headed-same}
use Rattle.fy_link.proofs.Tails.{text-has-tail}

-- ---- one unit

unit-itself : (names : List Bytes) (value : UnitValue) → IsUnit names value → IsUnitOf names value (plain_unit value)
unit-itself names value h = subst (IsUnitOf names value) h.is.is h.is

said-own : (names : List Bytes) (value : UnitValue) (h : IsUnit names value) → value.said.own.name ≡ h.is.equals.header.own.name
said-own names value h =
    let s = h.is.said in
    let e = h.is.equals in
    let same = headed-same h.is.before value.source h.is.after h.is.after s.tokens e.tokens s.header e.header s.headed e.headed in
    ap (λ (u : PlainUnit). u.source.own.name) (sym h.is.is) ∙ (s.said.own.name ∙ ap (λ (hd : PlainHeader). hd.own.name) same.one_header)

pub said-known : (names : List Bytes) (value : UnitValue) → IsUnit names value → IsKnown names value.said.own.name
said-known names value h =
    let e = h.is.equals in
    subst (IsKnown names) (sym (said-own names value h))
    (own-known names e.tokens e.header (tokens-known h.is.before value.source e.tokens h.is.after names e.headed.lexed.read h.is.kept) e.headed.is)

-- the name has a text
pub said-name : (names : List Bytes) (value : UnitValue) (h : IsUnit names value) → slice_get names value.said.own.name ≡ Some (said-known names value h).piece
said-name names value h =
    let k = said-known names value h in
    ap (slice_get names) k.number ∙ numbered_later names names k.piece (subst (λ (l : List Bytes). HasAdded l names) (sym k.stays) (HasAdded-none names))

-- the `==` has bytes behind it
pub said-tail : (names : List Bytes) (value : UnitValue) → IsUnit names value → (rest : Bytes) × IsTail value.source value.said.equals_at rest
said-tail names value h =
    let e = h.is.equals in
    let t = text-has-tail h.is.before h.is.after value.source e.tokens e.header e.headed.lexed.read e.headed.is in
    (t.tail, subst (λ at. IsTail value.source at t.tail) e.is t.is)

pub said-part : (names : List Bytes) (value : UnitValue) (part : TextPart) → IsUnit names value → slice_get names value.said.own.name ≡ Some part.name →
    IsTail value.source value.said.equals_at part.tail → IsTextPart names value.source part
said-part names value part h n t =
    let e = h.is.equals in
    record {
      before = h.is.before;
      after = h.is.after;
      tokens = e.tokens;
      header = e.header;
      headed = e.headed;
      kept = h.is.kept;
      name = subst (λ i. slice_get names i ≡ Some part.name) (said-own names value h) n;
      tail = subst (λ at. IsTail value.source at part.tail) (sym e.is) t;
    }

-- ---- all of them

pub parts-push : (names : List Bytes) (values : List UnitValue) (parts : List TextPart) (value : UnitValue) (part : TextPart) → AreTextParts names values parts →
    IsTextPart names value.source part → AreTextParts names (values ++ value ∷ []) (parts ++ part ∷ [])
parts-push names [] [] value part h k = (k, tt)
parts-push names [] (p ∷ parts) value part h k = absurd h
parts-push names (v ∷ values) [] value part h k = absurd h
parts-push names (v ∷ values) (p ∷ parts) value part h k = (h.0, parts-push names values parts value part h.1 k)

pub parts-more : (names : List Bytes) (values : List UnitValue) (i : ℕ) (value : UnitValue) (parts new : List Part) (part : Part) →
    AreTextParts names (take i values) (map plain_part parts) → i < length values → value ≡ get_or values i value → IsTextPart names value.source (plain_part part) →
    new ≡ parts ++ part ∷ [] → AreTextParts names (take (i + 1) values) (map plain_part new)
parts-more names values i value parts new part h l e k put =
    let more : take (i + 1) values ≡ take i values ++ value ∷ [] =
    take_more values i value l ∙ ap (λ (x : UnitValue). take i values ++ x ∷ []) (sym e) in
    let made : map plain_part new ≡ map plain_part parts ++ plain_part part ∷ [] = ap (map plain_part) put ∙ map_push plain_part parts part in
    subst (λ (vs : List UnitValue). AreTextParts names vs (map plain_part new)) (sym more)
    (subst (AreTextParts names (take i values ++ value ∷ [])) (sym made) (parts-push names (take i values) (map plain_part parts) value (plain_part part) h k))

pub said-units : (names : List Bytes) (values : List UnitValue) → All (IsUnit names) values → AreUnitsOf names values (map plain_unit values)
said-units names [] h = tt
said-units names (v ∷ values) h = (unit-itself names v (All-head (IsUnit names) v values h), said-units names values (All-tail (IsUnit names) v values h))

pub said-sources : (values : List UnitValue) → sources_of (map plain_unit values) ≡ map source_in values
said-sources [] = refl
said-sources (v ∷ values) = ap (λ (l : List PlainSource). source_in v ∷ l) (said-sources values)
