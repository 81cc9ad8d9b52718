-- Units that are linked.
use Rattle.std.proofs.Common.{◌≡◌, ℕ, suc, Bool, true, false, not, ◌&&◌, cond, List, [], ◌∷◌, ◌++◌, map, reverse, Option, Some, None, is_none, refl, sym, ap, ◌∙◌, subst}
use Rattle.std.specs.Prelude.{Ok, IsTrue, slice_get}
use Rattle.std.proofs.lemmas.List.{reverse-append}
use Rattle.fy_base.specs.Outside.{Bytes}
use Rattle.fy_types.specs.declared.types.Atom.TheVariants.{Comm}
use Rattle.fy_types.specs.Types.{PlainType, atom}
use Rattle.fy_types.specs.Names.{number_of, with_name}
use Rattle.fy_types.specs.Words.{is_identifier}
use Rattle.fy_lexer.specs.declared.token.Token.{Token}
use Rattle.fy_lexer.specs.declared.token.TokenKind.TheVariants as kind
use Rattle.fy_lexer.specs.Tokens.{IsTokensOf, HasAdded}
use Rattle.fy_lexer.proofs.NamesLemmas.{HasAdded-none}
use Rattle.fy_lexer.proofs.UniqueLemmas.{tokens_same}
use Rattle.fy_syntax.specs.Trees as written
use Rattle.fy_syntax.specs.Signs.{token, Level}
use Rattle.fy_syntax.specs.Spells.{SpellsBefore, IsProgram}
use Rattle.fy_phrase.specs.Tree.{Tree}
use Rattle.fy_expand.specs.Scope.{program_scope}
use Rattle.fy_expand.specs.Expansion.{core_of}
use Rattle.fy_expand.specs.Judged.{IsJudgedFrom, expanded}
use Rattle.fy_derive.specs.Judging.{judged, concludes, conclusion_of}
use Rattle.fy_derive.specs.Rules.{is_atom}
use Rattle.fy_derive.specs.Subsumption.{is_below}
use Rattle.fy_derive.proofs.RuleLemmas.{same_type-true}
use Rattle.fy_link.specs.declared.error.LinkError.{LinkError}
use Rattle.fy_link.specs.declared.error.LinkError.TheVariants as refused
use Rattle.fy_link.specs.declared.unit.Unit.{Unit as UnitValue}
use Rattle.fy_link.specs.Header.{PlainPiece, PlainHeader, header_of, is_provided, are_free}
use Rattle.fy_link.specs.Sources.{Named, HasHeader}
use Rattle.fy_link.specs.Units.{PlainUnit, prelude_types, context_of, IsTyped, IsUnitOf}
use Rattle.fy_link.specs.Joined.{TextPart, IsTail, IsTextPart, AreTextParts, joined_text, IsJoinedText}
use Rattle.fy_link.specs.Composed.{type_named, composed_derivation}
use Rattle.fy_link.specs.Laws.{UnitsAreLinked}
use Rattle.fy_link.specs.Links.{first_of, double_fault, import_fault, imports_fault, own_fault, units_fault, main_fault, link_fault, AreUnitsOf, sources_of}
use Rattle.fy_link.proofs.ComposedLemmas.{types_of, context_in, imports_of, IsLinked, AreLinked, IsJudgedIn, AreUnits, last_type}
use Rattle.fy_link.proofs.Cuts.{header-cut}
use Rattle.fy_link.proofs.KnownNames.{IsKnown, tokens-known, own-known, known-text}
use Rattle.fy_link.proofs.ProgramLemmas.{units_of, linked-concludes}
use Rattle.fy_link.proofs.SameSources.{headed-later, headed-same}
use Rattle.fy_link.proofs.Meanings.{AreShallow, source-meant, imports-shallow}
use Rattle.fy_link.proofs.TailSteps.{IsReadBehind, read-behind}
use Rattle.fy_link.proofs.TextLemmas.{TextUnit, sources_in, parts_in, joined-read}
use Rattle.fy_link.proofs.TypeDepths.{AreShallowUnits, composed-within}

-- ---- causes

first-none : (a b : Option LinkError) → first_of a b ≡ None → (a ≡ None) × (b ≡ None)
first-none None b e = (refl, e)
first-none (Some x) b e = absurd cc

import-linked : (j : ℕ) (o : Option PlainType) (A : PlainType) → import_fault j o A ≡ None → IsLinked o A
import-linked j None A e = absurd cc
import-linked j (Some B) A e = by (is_below B A) e
  where
    by : (b : Bool) → cond b None (Some (refused.Interface j)) ≡ None → b ≡ true
    by true e = refl
    by false e = absurd cc

imports-linked : (j : ℕ) (E I : List Named) → imports_fault j E I ≡ None → AreLinked I E
imports-linked j E [] e = tt
imports-linked j E (x ∷ I) e =
    let h = first-none (import_fault j (type_named x.name E) x.type) (imports_fault j E I) e in
    (import-linked j (type_named x.name E) x.type h.0, imports-linked j E I h.1)

linked-append : (I J E : List Named) → AreLinked I E → AreLinked J E → AreLinked (I ++ J) E
linked-append [] J E h k = k
linked-append (x ∷ I) J E h k = (h.0, linked-append I J E h.1 k)

linked-reverse : (I E : List Named) → AreLinked I E → AreLinked (reverse I) E
linked-reverse [] E h = tt
linked-reverse (x ∷ I) E h =
    subst (λ (l : List Named). AreLinked l E) (sym (reverse-append (x ∷ []) I)) (linked-append (reverse I) (x ∷ []) E (linked-reverse I E h.1) (h.0, tt))

own-linked : (j : ℕ) (E : List Named) (u : PlainUnit) → own_fault j E u.source ≡ None → AreLinked (imports_of u) E
own-linked j E u e =
    linked-reverse u.source.imports E
    (imports-linked j E u.source.imports (first-none (double_fault j (type_named u.source.own.name E)) (imports_fault j E u.source.imports) e).1)

types-append : (I J : List Named) → types_of (I ++ J) ≡ types_of I ++ types_of J
types-append [] J = refl
types-append (x ∷ I) J = ap (λ (l : List PlainType). x.type ∷ l) (types-append I J)

types-reverse : (I : List Named) → reverse (types_of I) ≡ types_of (reverse I)
types-reverse [] = refl
types-reverse (x ∷ I) =
    reverse-append (x.type ∷ []) (types_of I)
    ∙ (ap (λ (l : List PlainType). l ++ x.type ∷ []) (types-reverse I) ∙ (sym (types-append (reverse I) (x ∷ [])) ∙ ap types_of (sym (reverse-append (x ∷ []) I))))

context-reversed : (I : List Named) → reverse (context_of I) ≡ context_in (reverse I)
context-reversed I = reverse-append prelude_types (types_of I) ∙ ap (λ (l : List PlainType). l ++ reverse prelude_types) (types-reverse I)

typed-judged : (u : PlainUnit) → IsTyped u → IsJudgedIn u
typed-judged u t =
    subst (λ G. judged u.derivation 0 G u.source.phrase ≡ concludes u.source.own.type) (context-reversed u.source.imports) t.concluded

abbrev AreTyped : List PlainUnit → Type 0
AreTyped [] = Unit {0}
AreTyped (u ∷ units) = IsTyped u × AreTyped units

units-linked : (more : List PlainUnit) (j : ℕ) (E : List Named) (u : PlainUnit) → AreTyped (u ∷ more) → units_fault j E (sources_of (u ∷ more)) ≡ None → AreUnits E u more
units-linked [] j E u t e =
    let h = first-none (own_fault j E u.source) None e in
    (typed-judged u t.0, own-linked j E u h.0)
units-linked (v ∷ more) j E u t e =
    let h = first-none (own_fault j E u.source) (units_fault (suc j) (u.source.own ∷ E) (sources_of (v ∷ more))) e in
    (typed-judged u t.0, own-linked j E u h.0, units-linked more (suc j) (u.source.own ∷ E) v t.1 h.1)

last-command : (more : List PlainUnit) (u : PlainUnit) → main_fault (sources_of (u ∷ more)) ≡ None → last_type u more ≡ atom Comm
last-command [] u e = by (is_atom Comm u.source.own.type) refl e
  where
    by : (b : Bool) → is_atom Comm u.source.own.type ≡ b → cond b None (Some refused.NotMain) ≡ None → u.source.own.type ≡ atom Comm
    by true s e = same_type-true u.source.own.type (atom Comm) s
    by false s e = absurd cc
last-command (v ∷ more) u e = last-command more v e

-- ---- a unit and its text

is-none : {X : Type 0} (o : Option X) → not (not (is_none o)) ≡ true → o ≡ None
is-none None e = refl
is-none (Some s) e = absurd cc

free-first : (a b : Bool) → (a && b) ≡ true → (a ≡ true) × (b ≡ true)
free-first true b e = (refl, e)
free-first false b e = absurd cc

free-last : (xs : List PlainPiece) (x : PlainPiece) → are_free (map (λ (y : PlainPiece). y.name) (xs ++ x ∷ [])) ≡ true → program_scope.phrases x.name ≡ None
free-last [] x e = is-none (program_scope.phrases x.name) (free-first (not (is_provided x.name)) true e).0
free-last (y ∷ xs) x e = free-last xs x (free-first _ _ (free-first _ _ e).1).1

own-fresh : (tokens : List Token) (header : PlainHeader) → header_of tokens ≡ Some header → program_scope.phrases header.own.name ≡ None
own-fresh tokens header e = free-last header.imports header.own (header-cut tokens header e).free

-- the unit's text, with its names in the list
pub text-unit : (names : List Bytes) (value : UnitValue) (u : PlainUnit) (part : TextPart) → IsUnitOf names value u → IsTextPart names value.source part → TextUnit names
text-unit names value u part h k =
    let s = h.said in
    let headed : HasHeader names value.source names s.tokens s.header = headed-later h.before h.after names value.source s.tokens s.header s.headed h.kept in
    let again : HasHeader names value.source names k.tokens k.header = headed-later k.before k.after names value.source k.tokens k.header k.headed k.kept in
    let same = headed-same names value.source names names s.tokens k.tokens s.header k.header headed again in
    let back : k.header ≡ s.header = sym same.one_header in
    let tail : IsTail value.source s.header.equals_at part.tail = subst (λ (hd : PlainHeader). IsTail value.source hd.equals_at part.tail) back k.tail in
    let behind : IsReadBehind names s.header part.tail = read-behind names names value.source s.tokens s.header part.tail headed.lexed.read headed.is tail in
    let known : IsKnown names s.header.own.name =
    own-known names s.tokens s.header (tokens-known names value.source s.tokens names names headed.lexed.read (HasAdded-none names)) headed.is in
    let named : slice_get names s.header.own.name ≡ Some part.name = subst (λ (hd : PlainHeader). slice_get names hd.own.name ≡ Some part.name) back k.name in
    let text : part.name ≡ known.piece = known-text names s.header.own.name part.name known named in
    let own : u.source.own.name ≡ s.header.own.name = s.said.own.name in
    record {
      source = record {
        unit = u;
        tail = behind.own;
        end_at = behind.last.spot.place;
        rest_at = s.said.program.spelled.0;
        alone = s.said.alone;
        inside = behind.inside;
        spelled = subst (λ (ts : List Token). SpellsBefore Level.phrase s.said.alone ts (token kind.End s.said.program.spelled.0 ∷ [])) behind.is s.said.program.spelled.1;
        meant = source-meant names names value.source s.tokens s.header u.source headed s.said;
        fresh = subst (λ n. program_scope.phrases n ≡ None) (sym own) (own-fresh s.tokens s.header headed.is);
      };
      part = part;
      identifier = subst (λ (l : Bytes). IsTrue (is_identifier l)) (sym text) known.identifier;
      number = own ∙ (known.number ∙ ap (number_of names) (sym text));
      known = subst (λ (l : Bytes). with_name names l ≡ names) (sym text) known.stays;
      old = behind.old;
      last = behind.last;
      rest = behind.rest;
      steps = behind.steps;
      ended = behind.ended;
      added = subst (λ (l : List Bytes). HasAdded l names) (sym behind.named) (HasAdded-none names);
      read = behind.taken;
    }

-- units with their texts
record HasTexts (names : List Bytes) (units : List PlainUnit) (parts : List TextPart) : Type 0 where
  all : List (TextUnit names)
  units_are : units_of (sources_in all) ≡ units
  parts_are : parts_in all ≡ parts

units-texts : (names : List Bytes) (values : List UnitValue) (units : List PlainUnit) (parts : List TextPart) →
    AreUnitsOf names values units → AreTextParts names values parts → HasTexts names units parts
unfolding text-unit
units-texts names [] [] [] h k = record { all = []; units_are = refl; parts_are = refl }
units-texts names [] (u ∷ units) parts h k = absurd h
units-texts names [] [] (part ∷ parts) h k = absurd k
units-texts names (value ∷ values) [] parts h k = absurd h
units-texts names (value ∷ values) (u ∷ units) [] h k = absurd k
units-texts names (value ∷ values) (u ∷ units) (part ∷ parts) h k =
    let more = units-texts names values units parts h.1 k.1 in
    record {
      all = text-unit names value u part h.0 k.0 ∷ more.all;
      units_are = ap (λ (us : List PlainUnit). u ∷ us) more.units_are;
      parts_are = ap (λ (ps : List TextPart). part ∷ ps) more.parts_are;
    }

units-typed : (names : List Bytes) (values : List UnitValue) (units : List PlainUnit) → AreUnitsOf names values units → AreTyped units
units-typed names [] [] h = tt
units-typed names [] (u ∷ units) h = absurd h
units-typed names (value ∷ values) [] h = absurd h
units-typed names (value ∷ values) (u ∷ units) h = (h.0.typed, units-typed names values units h.1)

unit-shallow : (names : List Bytes) (value : UnitValue) (u : PlainUnit) → IsUnitOf names value u → AreShallow u.source.imports
unit-shallow names value u h = imports-shallow h.before h.after value.source h.said.tokens h.said.header u.source h.said.headed h.said.said

units-shallow : (names : List Bytes) (values : List UnitValue) (units : List PlainUnit) → AreUnitsOf names values units → AreShallowUnits units
units-shallow names [] [] h = tt
units-shallow names [] (u ∷ units) h = absurd h
units-shallow names (value ∷ values) [] h = absurd h
units-shallow names (value ∷ values) (u ∷ units) h = (h.0.typed, unit-shallow names value u h.0, units-shallow names values units h.1)

-- ---- the law

-- the tokens of a judged text are a program of the phrase
record HasProgram (tokens : List Token) (p : Tree) : Type 0 where
  tree : written.Tree
  program : IsProgram tree tokens
  core : core_of tree ≡ Ok p

judged-program : (names : List Bytes) (text : Bytes) (tokens : List Token) (p : Tree) → IsTokensOf names text tokens names → IsJudgedFrom names text (Ok p) → HasProgram tokens p
judged-program names text tokens p h (expanded {tokens = others} {tree = tree} k a e) =
    record { tree = tree; program = subst (IsProgram tree) (tokens_same names text others tokens k.after names k.read h).0 a.spelled; core = e }

texts-linked : (names : List Bytes) (all : List (TextUnit names)) (text : Bytes) (p : Tree) → AreTyped (units_of (sources_in all)) →
    link_fault (sources_of (units_of (sources_in all))) ≡ None → text ≡ joined_text (parts_in all) → IsJudgedFrom names text (Ok p) →
    conclusion_of p (composed_derivation (units_of (sources_in all))) ≡ concludes (atom Comm)
texts-linked names [] text p t f e j = absurd cc
texts-linked names (u ∷ more) text p t f e j =
    let units = units_of (sources_in more) in
    let h = first-none (units_fault 0 [] (sources_of (u.source.unit ∷ units))) (main_fault (sources_of (u.source.unit ∷ units))) f in
    let read = joined-read names u more in
    let found = judged-program names (joined_text (u.part ∷ parts_in more)) read.tokens p read.read (subst (λ (l : Bytes). IsJudgedFrom names l (Ok p)) e j) in
    linked-concludes u.source (sources_in more) read.tokens found.tree p (units-linked units 0 [] u.source.unit t h.0) read.joined found.program found.core
    ∙ ap concludes (last-command units u.source.unit h.1)

units-accepted : (names : List Bytes) (values : List UnitValue) (units : List PlainUnit) (text : Bytes) (p : Tree) →
    AreUnitsOf names values units → link_fault (sources_of units) ≡ None → IsJoinedText names values text →
    IsJudgedFrom names text (Ok p) → conclusion_of p (composed_derivation units) ≡ concludes (atom Comm)
units-accepted names values units text p h f t j =
    let texts = units-texts names values units t.parts h t.are in
    let back : units ≡ units_of (sources_in texts.all) = sym texts.units_are in
    subst (λ (us : List PlainUnit). conclusion_of p (composed_derivation us) ≡ concludes (atom Comm)) texts.units_are
    (texts-linked names texts.all text p (subst AreTyped back (units-typed names values units h))
    (subst (λ (us : List PlainUnit). link_fault (sources_of us) ≡ None) back f) (t.is ∙ ap joined_text (sym texts.parts_are)) j)

pub units_linked : UnitsAreLinked
units_linked = record {
  accepted = units-accepted;
  shallow = λ names values units h. composed-within units (units-shallow names values units h);
}
