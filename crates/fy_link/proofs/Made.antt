-- Values of the code that are units, and refusals of their makers.
use Rattle.std.proofs.Common.{◌≡◌, ℕ, ◌≤◌, List, length, map, reverse, refl, sym, ap, ◌∙◌, subst, arith}
use Rattle.std.specs.Prelude.{All, Some, None, Err}
use Rattle.fy_base.specs.Outside.{Bytes}
use Rattle.fy_types.specs.Fields.{IsNamed, AllFields, HasFullMeets}
use Rattle.fy_types.specs.Names.{AreNames}
use Rattle.fy_types.specs.Types.{PlainType}
use Rattle.fy_types.specs.Nested.{type_nesting}
use Rattle.fy_types.specs.declared.types.TyList.{TyList}
use Rattle.fy_types.specs.Reading.{plain_type, types_in}
use Rattle.fy_lexer.specs.Identifiers.{AreIdentifiers}
use Rattle.fy_lexer.specs.Tokens.{HasAdded}
use Rattle.fy_lexer.proofs.NamesLemmas.{HasAdded-then}
use Rattle.fy_phrase.specs.declared.phrase.Phrase.{Phrase}
use Rattle.fy_phrase.specs.CoreLimits.{KeepsCoreLimits}
use Rattle.fy_phrase.specs.PhraseNames.{AllNames, HasFullTypes}
use Rattle.fy_phrase.specs.Reads.{reads}
use Rattle.fy_phrase.specs.Tree.{Tree}
use Rattle.fy_derive.specs.Derivations.{PlainDerivation}
use Rattle.fy_derive.specs.Judging.{judged, concludes, refusal_at, in_scope}
use Rattle.fy_derive.specs.Least.{forms_of, visits}
use Rattle.fy_derive.specs.Limits.{KeepsLimits, most_type_nesting}
use Rattle.fy_derive.specs.Printable.{IsPrintable}
use Rattle.fy_least.specs.declared.error.FindError.{FindError}
use Rattle.fy_least.specs.Finding.{IsFindingOf}
use Rattle.fy_least.specs.Limits.{KeepTypeLimits}
use Rattle.fy_front.specs.Checked.{find_refusal, failure_of, IfRefused}
use Rattle.fy_front.specs.declared.error.FrontError.{FrontError}
use Rattle.fy_front.proofs.Checking.{failed, refused_more}
use Rattle.fy_link.specs.declared.source.Said.{Said}
use Rattle.fy_link.specs.declared.unit.Unit.{Unit as UnitValue}
use Rattle.fy_link.specs.Read.{plain_named, plain_said, source_in}
use Rattle.fy_link.specs.Sources.{HasEquals, IsSource, IsSourceFault}
use Rattle.fy_link.specs.Units.{context_of, IsTyped, IsUnit, IsUnitFault, KeepsTypeLimits, plain_unit}
use Rattle.fy_link.proofs.Meanings.{source-limits, own-shallow}
use Rattle.fy_link.proofs.NamedSources.{source-named, len-named}
use Rattle.fy_link.proofs.Verdicts.{verdict-concludes, verdict-refuses}

-- what stands in the code for a unit's context and phrase
pub record Stands (said : Said) (context : TyList) (p : Phrase) : Type 0 where
  pub context_is : map plain_type (types_in context) ≡ context_of (map plain_named said.imports.items)
  pub phrase_is : reads p ≡ (plain_said said).phrase

-- the verdict on a derivation, about the source itself
stands-judged : (said : Said) (context : TyList) (p : Phrase) (d : PlainDerivation) → Stands said context p →
    judged d 0 (in_scope context) (reads p) ≡ judged d 0 (reverse (context_of (plain_said said).imports)) (plain_said said).phrase
stands-judged said context p d s =
    ap (λ (G : List PlainType). judged d 0 (reverse G) (reads p)) s.context_is ∙ ap (λ (q : Tree). judged d 0 (reverse (context_of (plain_said said).imports)) q) s.phrase_is

pub stands-concludes : (said : Said) (context : TyList) (p : Phrase) (d : PlainDerivation) → Stands said context p →
    refusal_at (plain_type said.own.ty) (judged d 0 (in_scope context) (reads p)) ≡ None →
    judged d 0 (reverse (context_of (plain_said said).imports)) (plain_said said).phrase ≡ concludes (plain_said said).own.type
stands-concludes said context p d s e = sym (stands-judged said context p d s) ∙ verdict-concludes (plain_type said.own.ty) (judged d 0 (in_scope context) (reads p)) e

pub stands-refused : (said : Said) (context : TyList) (p : Phrase) (d : PlainDerivation) (n : ℕ) → Stands said context p →
    refusal_at (plain_type said.own.ty) (judged d 0 (in_scope context) (reads p)) ≡ Some n →
    judged d 0 (reverse (context_of (plain_said said).imports)) (plain_said said).phrase ≡ concludes (plain_said said).own.type → ⊥
stands-refused said context p d n s e f = verdict-refuses (plain_type said.own.ty) (judged d 0 (in_scope context) (reads p)) n e (stands-judged said context p d s ∙ f)

-- the limits of a derivation that is found
pub found-limits : (before after : List Bytes) (source : Bytes) (said : Said) (context : TyList) (p : Phrase) (d : PlainDerivation) → IsSource before source after (plain_said said) →
    Stands said context p → (KeepsCoreLimits (reads p) → type_nesting (plain_type said.own.ty) ≤ most_type_nesting → KeepsLimits d) → KeepsLimits d
found-limits before after source said context p d h s f =
    let shallow = own-shallow before after source (plain_said said) h in
    f (subst KeepsCoreLimits (sym s.phrase_is) (source-limits before after source (plain_said said) h)) (omega (arith, shallow))

-- the limits of the types for which it is found
pub found-within : (said : Said) (context : TyList) (p : Phrase) → Stands said context p → KeepTypeLimits (visits 0 (forms_of (in_scope context)) (reads p)) →
    KeepsTypeLimits (plain_said said)
found-within said context p s h =
    subst (λ (q : Tree). KeepTypeLimits (visits 0 (forms_of (reverse (context_of (plain_said said).imports))) q)) s.phrase_is
    (subst (λ (G : List PlainType). KeepTypeLimits (visits 0 (forms_of (reverse G)) (reads p))) s.context_is h)

-- what is found can be printed
pub found-printable : (before after : List Bytes) (source : Bytes) (said : Said) (context : TyList) (p : Phrase) (d : PlainDerivation) → IsSource before source after (plain_said said) →
    Stands said context p → AreNames after → AreIdentifiers before →
    (KeepsCoreLimits (reads p) → HasFullTypes (reads p) → HasFullMeets (plain_type said.own.ty) → (names : List Bytes) → AllNames (IsNamed names) (reads p) →
    All (AllFields (IsNamed names)) (in_scope context) → AllFields (IsNamed names) (plain_type said.own.ty) → IsPrintable names d) → IsPrintable after d
found-printable before after source said context p d h s valid identifiers f =
    let first = len-named after valid in
    let is = source-named before after source (plain_said said) identifiers first h in
    let back : (plain_said said).phrase ≡ reads p = sym s.phrase_is in
    f (subst KeepsCoreLimits back (source-limits before after source (plain_said said) h)) (subst HasFullTypes back is.full) is.own_full after (subst (AllNames (IsNamed after)) back is.named)
    (subst (λ (G : List PlainType). All (AllFields (IsNamed after)) (reverse G)) (sym s.context_is) is.context) is.own_named

-- a value with a source that says this and with a derivation of it is a unit
pub unit-made : (before after names : List Bytes) (source : Bytes) (value : UnitValue) → length source ≤ 1048576 → value.source ≡ source →
    IsSource before source after (source_in value) → HasEquals before source after value.said.equals_at → HasAdded after names → IsTyped (plain_unit value) → IsUnit names value
unit-made before after names source value short is h e kept typed = record {
  u = plain_unit value;
  is = record {
    short = subst (λ (bytes : Bytes). length bytes ≤ 1048576) (sym is) short;
    before = before;
    after = after;
    said = subst (λ (bytes : Bytes). IsSource before bytes after (source_in value)) (sym is) h;
    equals = subst (λ (bytes : Bytes). HasEquals before bytes after value.said.equals_at) (sym is) e;
    kept = kept;
    is = refl;
    typed = typed;
  };
}

-- and stays one where more names are known
pub unit-later : (names later : List Bytes) (value : UnitValue) → HasAdded names later → IsUnit names value → IsUnit later value
unit-later names later value more h = record {
  u = h.u;
  is = record {
    short = h.is.short;
    before = h.is.before;
    after = h.is.after;
    said = h.is.said;
    equals = h.is.equals;
    kept = HasAdded-then h.is.after names later h.is.kept more;
    is = h.is.is;
    typed = h.is.typed;
  };
}

-- the source is refused
pub said-fault : (names : List Bytes) (source : Bytes) (e : FrontError) → IfRefused (IsSourceFault names source) e → IfRefused (IsUnitFault names source) e
said-fault names source e h = refused_more (IsSourceFault names source) (IsUnitFault names source) e (λ why f. IsUnitFault.before_typing f) h

pub find-fault : (names after : List Bytes) (source : Bytes) (said : Said) (context : TyList) (p : Phrase) (e : FindError) → IsSource names source after (plain_said said) →
    Stands said context p → IsFindingOf (in_scope context) (reads p) (plain_type said.own.ty) (Err e) →
    IfRefused (IsUnitFault names source) (failure_of (find_refusal e))
find-fault names after source said context p e h s f =
    let own = plain_type said.own.ty in
    let found = subst (λ (q : Tree). IsFindingOf (reverse (context_of (plain_said said).imports)) q own (Err e)) s.phrase_is
    (subst (λ (G : List PlainType). IsFindingOf (reverse G) (reads p) own (Err e)) s.context_is f) in
    failed (IsUnitFault names source) (find_refusal e) (λ why told. IsUnitFault.of_typing e h found told)
