-- Units are linked to one text, phrase and derivation, or aren't for one cause.
use Rattle.std.proofs.Common.{◌≡◌, ◌≢◌, inl, inr, List, [], ◌∷◌, ◌++◌, length, map, refl, sym, ap, ap₂, ◌∙◌, subst, arith}
use Rattle.std.specs.Prelude.{Option, Some, None, Ok, Err, slice_get}
use Rattle.fy_base.specs.Outside.{Bytes}
use Rattle.fy_base.specs.Places.{first_place}
use Rattle.fy_base.specs.declared.data.Place.{Place}
use Rattle.fy_phrase.specs.Reads.{reads}
use Rattle.fy_phrase.specs.Tree.{Tree}
use Rattle.fy_expand.specs.Judged.{IsJudgedFrom}
use Rattle.fy_expand.specs.Judged as judged
use Rattle.fy_expand.proofs.JudgedLemmas.{one_phrase, phrase_or_refusal, one_refusal}
use Rattle.fy_derive.specs.Derivations.{PlainDerivation}
use Rattle.fy_derive.specs.Limits.{KeepsLimits}
use Rattle.fy_derive.specs.Reading.{plain_derivation}
use Rattle.fy_read.proofs.FineLemmas.{same_front}
use Rattle.fy_front.specs.Checked.{told_as, IsUnjudgedFrom}
use Rattle.fy_front.specs.declared.refusal.Refusal.{Refusal}
use Rattle.fy_front.proofs.Checking.{told_one}
use Rattle.fy_link.specs.declared.error.LinkError.{LinkError}
use Rattle.fy_link.specs.declared.error.LinkError.TheVariants as refused
use Rattle.fy_link.specs.declared.linking.Linked.{Linked}
use Rattle.fy_link.specs.declared.unit.Unit.{Unit as UnitValue}
use Rattle.fy_link.specs.Header.{PlainHeader}
use Rattle.fy_link.specs.Sources.{HasHeader}
use Rattle.fy_link.specs.Units.{PlainUnit, plain_unit}
use Rattle.fy_link.specs.Joined.{TextPart, IsTail, IsTextPart, AreTextParts, IsJoinedText, joined_text}
use Rattle.fy_link.specs.Composed.{composed_derivation}
use Rattle.fy_link.specs.Laws.{IsSameLinked, UnitsAreLinkedOneWay}
use Rattle.fy_link.specs.Links.{AreUnitsOf, IsLinked, IsUnlinked, IsTooLarge, link_fault, sources_of}
use Rattle.fy_link.proofs.PlaceOrder.{heads-same}
use Rattle.fy_link.proofs.SameSources.{headed-later, headed-same}

-- ---- units and texts

units-are : (names : List Bytes) (values : List UnitValue) (units : List PlainUnit) → AreUnitsOf names values units → units ≡ map plain_unit values
units-are names [] [] h = refl
units-are names [] (u ∷ units) h = absurd h
units-are names (value ∷ values) [] h = absurd h
units-are names (value ∷ values) (u ∷ units) h =
    ap (λ (x : PlainUnit). x ∷ units) h.0.is ∙ ap (λ (xs : List PlainUnit). plain_unit value ∷ xs) (units-are names values units h.1)

units-same : (names : List Bytes) (values : List UnitValue) (units others : List PlainUnit) → AreUnitsOf names values units → AreUnitsOf names values others → units ≡ others
units-same names values units others h k = units-are names values units h ∙ sym (units-are names values others k)

behind-equals : (t u : Bytes) → 61 ∷ 61 ∷ t ≡ 61 ∷ 61 ∷ u → t ≡ u
behind-equals t u e = cc

tails-same : (text : Bytes) (at : Place) (t u : Bytes) → IsTail text at t → IsTail text at u → t ≡ u
tails-same text at t u h k =
    let both : h.head ++ (61 ∷ 61 ∷ t) ≡ k.head ++ (61 ∷ 61 ∷ u) = sym h.is ∙ k.is in
    let same = heads-same first_place h.head k.head (61 ∷ 61 ∷ t) (61 ∷ 61 ∷ u) both (h.place ∙ sym k.place) in
    behind-equals t u (same_front h.head k.head (61 ∷ 61 ∷ t) (61 ∷ 61 ∷ u) both (ap length same)).1

part-equal : (p q : TextPart) → p.name ≡ q.name → p.tail ≡ q.tail → p ≡ q
part-equal p q e f = let made : Bytes → Bytes → TextPart = λ name tail. record { name = name; tail = tail } in ap₂ made e f

some-same : (o : Option Bytes) (a b : Bytes) → o ≡ Some a → o ≡ Some b → a ≡ b
some-same o a b h k = cc

part-same : (names : List Bytes) (source : Bytes) (p q : TextPart) → IsTextPart names source p → IsTextPart names source q → p ≡ q
part-same names source p q h k =
    let one : HasHeader names source names h.tokens h.header = headed-later h.before h.after names source h.tokens h.header h.headed h.kept in
    let two : HasHeader names source names k.tokens k.header = headed-later k.before k.after names source k.tokens k.header k.headed k.kept in
    let same = (headed-same names source names names h.tokens k.tokens h.header k.header one two).one_header in
    let tail : IsTail source k.header.equals_at p.tail = subst (λ (x : PlainHeader). IsTail source x.equals_at p.tail) same h.tail in
    let name : slice_get names k.header.own.name ≡ Some p.name = subst (λ (x : PlainHeader). slice_get names x.own.name ≡ Some p.name) same h.name in
    part-equal p q (some-same (slice_get names k.header.own.name) p.name q.name name k.name) (tails-same source k.header.equals_at p.tail q.tail tail k.tail)

parts-same : (names : List Bytes) (values : List UnitValue) (ps qs : List TextPart) → AreTextParts names values ps → AreTextParts names values qs → ps ≡ qs
parts-same names [] [] [] h k = refl
parts-same names [] [] (q ∷ qs) h k = absurd k
parts-same names [] (p ∷ ps) qs h k = absurd h
parts-same names (value ∷ values) [] qs h k = absurd h
parts-same names (value ∷ values) (p ∷ ps) [] h k = absurd k
parts-same names (value ∷ values) (p ∷ ps) (q ∷ qs) h k =
    ap (λ (x : TextPart). x ∷ ps) (part-same names value.source p q h.0 k.0) ∙ ap (λ (xs : List TextPart). q ∷ xs) (parts-same names values ps qs h.1 k.1)

texts-same : (names : List Bytes) (values : List UnitValue) (t u : Bytes) → IsJoinedText names values t → IsJoinedText names values u → t ≡ u
texts-same names values t u h k = h.is ∙ (ap joined_text (parts-same names values h.parts k.parts h.are k.are) ∙ sym k.is)

-- ---- refusals

refusal-same : (names : List Bytes) (text : Bytes) (a b : Refusal) → IsUnjudgedFrom names text a → IsUnjudgedFrom names text b → a ≡ b
refusal-same names text a b h k = told_one told_as h.cause k.cause a b (one_refusal {names = names} text h.cause k.cause h.is_judged k.is_judged) h.told k.told

fault-same : (o : Option LinkError) (e f : LinkError) → o ≡ Some e → o ≡ Some f → e ≡ f
fault-same o e f h k = cc

fault-or-none : (o : Option LinkError) (e : LinkError) → o ≡ None → o ≡ Some e → ⊥
fault-or-none o e h k = cc

-- the units can't both be linkable and not
linkable-or-not : (names : List Bytes) (values : List UnitValue) (units others : List PlainUnit) (e : LinkError) → AreUnitsOf names values units → AreUnitsOf names values others →
    link_fault (sources_of units) ≡ None → link_fault (sources_of others) ≡ Some e → ⊥
linkable-or-not names values units others e h k n f =
    fault-or-none (link_fault (sources_of others)) e (ap (λ (us : List PlainUnit). link_fault (sources_of us)) (sym (units-same names values units others h k)) ∙ n) f

-- nor can their text both have a phrase and not
phrase-or-not : (names : List Bytes) (values : List UnitValue) (t u : Bytes) (p : Tree) (why : judged.Refusal) → IsJoinedText names values t → IsJoinedText names values u →
    IsJudgedFrom names t (Ok p) → IsJudgedFrom names u (Err why) → ⊥
phrase-or-not names values t u p why h k j r =
    phrase_or_refusal {names = names} u p why (subst (λ (b : Bytes). IsJudgedFrom names b (Ok p)) (texts-same names values t u h k) j) r

not-large : (units : List PlainUnit) (d : PlainDerivation) → d ≡ composed_derivation units → KeepsLimits d → ¬ IsTooLarge units
not-large units d is keeps (inl many) = let few = (subst KeepsLimits is keeps).few in omega (arith, many, few)
not-large units d is keeps (inr deep) = let shallow = (subst KeepsLimits is keeps).shallow in omega (arith, deep, shallow)

linked-or-not : (names : List Bytes) (values : List UnitValue) (linked : Linked) (e : LinkError) → e ≢ refused.OutOfMemory → IsLinked names values linked →
    IsUnlinked names values e → ⊥
linked-or-not names values linked e m h (IsUnlinked.of_units units are f) = linkable-or-not names values h.units units e h.are are h.linkable f
linked-or-not names values linked e m h (IsUnlinked.of_text units {text = t} are f joined r) =
    phrase-or-not names values linked.text t (reads linked.phrase) r.cause h.text joined h.phrase r.is_judged
linked-or-not names values linked e m h (IsUnlinked.of_size units are f joined j large) =
    not-large units (plain_derivation linked.derivation) (h.derivation ∙ ap composed_derivation (units-same names values h.units units h.are are)) h.few large
linked-or-not names values linked e m h IsUnlinked.of_memory = m refl

unlinked-same : (names : List Bytes) (values : List UnitValue) (e f : LinkError) → e ≢ refused.OutOfMemory → f ≢ refused.OutOfMemory → IsUnlinked names values e →
    IsUnlinked names values f → e ≡ f
unlinked-same names values e f m n (IsUnlinked.of_units us are h) (IsUnlinked.of_units vs too k) =
    fault-same (link_fault (sources_of vs)) e f (ap (λ (xs : List PlainUnit). link_fault (sources_of xs)) (sym (units-same names values us vs are too)) ∙ h) k
unlinked-same names values e f m n (IsUnlinked.of_units us are h) (IsUnlinked.of_text vs too k joined r) = absurd (linkable-or-not names values vs us e too are k h)
unlinked-same names values e f m n (IsUnlinked.of_units us are h) (IsUnlinked.of_size vs too k joined j large) = absurd (linkable-or-not names values vs us e too are k h)
unlinked-same names values e f m n (IsUnlinked.of_text us are h joined r) (IsUnlinked.of_units vs too k) = absurd (linkable-or-not names values us vs f are too h k)
unlinked-same names values e f m n (IsUnlinked.of_text us {text = t} {why = a} are h joined r) (IsUnlinked.of_text vs {text = u} {why = b} too k twice s) =
    ap refused.Text (refusal-same names u a b (subst (λ (x : Bytes). IsUnjudgedFrom names x a) (texts-same names values t u joined twice) r) s)
unlinked-same names values e f m n (IsUnlinked.of_text us {text = t} are h joined r) (IsUnlinked.of_size vs {text = u} {p = p} too k twice i large) =
    absurd (phrase-or-not names values u t p r.cause twice joined i r.is_judged)
unlinked-same names values e f m n (IsUnlinked.of_size us are h joined j large) (IsUnlinked.of_units vs too k) = absurd (linkable-or-not names values us vs f are too h k)
unlinked-same names values e f m n (IsUnlinked.of_size us {text = t} {p = p} are h joined j large) (IsUnlinked.of_text vs {text = u} too k twice s) =
    absurd (phrase-or-not names values t u p s.cause joined twice j s.is_judged)
unlinked-same names values e f m n (IsUnlinked.of_size us are h joined j large) (IsUnlinked.of_size vs too k twice i more) = refl
unlinked-same names values e f m n IsUnlinked.of_memory k = absurd (m refl)
unlinked-same names values e f m n h IsUnlinked.of_memory = absurd (n refl)

linked-same : (names : List Bytes) (values : List UnitValue) (linked other : Linked) → IsLinked names values linked → IsLinked names values other → IsSameLinked linked other
linked-same names values linked other h k =
    let text = texts-same names values linked.text other.text h.text k.text in
    record {
      text = text;
      phrase = one_phrase {names = names} other.text (reads linked.phrase) (reads other.phrase)
          (subst (λ (b : Bytes). IsJudgedFrom names b (Ok (reads linked.phrase))) text h.phrase) k.phrase;
      derivation = h.derivation ∙ (ap composed_derivation (units-same names values h.units k.units h.are k.are) ∙ sym k.derivation);
    }

pub units-one_way : (names : List Bytes) (values : List UnitValue) → UnitsAreLinkedOneWay names values
units-one_way names values = record {
  linked = λ linked other h k. linked-same names values linked other h k;
  apart = λ linked e m h k. linked-or-not names values linked e m h k;
  cause = λ e other m n h k. unlinked-same names values e other m n h k;
}
