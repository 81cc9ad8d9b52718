-- The program that the tokens of units put together spell.
use Rattle.std.proofs.Common.{ℕ, ◌≡◌, Bool, true, false, ◌||◌, cond, eqb, List, [], ◌∷◌, ◌++◌, Option, Some, None, nat_lt, refl, sym, ◌∙◌, subst}
use Rattle.std.specs.Prelude.{IsTrue, Ok, Err}
use Rattle.std.specs.List.{list_any}
use Rattle.fy_base.specs.declared.data.Place.{Place}
use Rattle.fy_types.specs.Types.{PlainType}
use Rattle.fy_lexer.specs.declared.token.Token.{Token}
use Rattle.fy_lexer.specs.declared.token.TokenKind.TheVariants as kind
use Rattle.fy_lexer.specs.declared.token.Keyword.TheVariants as word
use Rattle.fy_lexer.specs.declared.token.Symbol.TheVariants as symbol
use Rattle.fy_lexer.specs.Again.{kinds, HaveNoEnd}
use Rattle.fy_syntax.specs.Trees as written
use Rattle.fy_syntax.specs.Trees.{Defs}
use Rattle.fy_syntax.specs.Signs.{token, word_at, symbol_at, ident_at, Level}
use Rattle.fy_syntax.specs.Spells.{SpellsBefore, IsProgram, Prefixes, Dots, MoreTrees, MoreLinks, MoreArguments, MoreDefs}
use Rattle.fy_syntax.specs.Places.{without_places}
use Rattle.fy_syntax.specs.Again.{IsSpelledAgain}
use Rattle.fy_syntax.proofs.PlaceLemmas.{placed_as, places_of, tree_moved}
use Rattle.fy_syntax.proofs.Unique.{unambiguous}
use Rattle.fy_phrase.specs.Alike.{Alike}
use Rattle.fy_phrase.specs.Sizes.{nesting}
use Rattle.fy_phrase.specs.CoreLimits.{size_of, visits_of}
use Rattle.fy_phrase.specs.Tree.{Tree}
use Rattle.fy_expand.specs.declared.error.ExpandError.{ExpandError}
use Rattle.fy_expand.specs.declared.error.ExpandError.TheVariants as errors
use Rattle.fy_expand.specs.Scope.{program_scope}
use Rattle.fy_expand.specs.Front.{front}
use Rattle.fy_expand.specs.Core.{core, in_prelude}
use Rattle.fy_expand.specs.Faults.{◌before◌, fault}
use Rattle.fy_expand.specs.Sizes.{limited}
use Rattle.fy_expand.specs.Imports.{scope_in, AreAmong, HideNothing}
use Rattle.fy_expand.specs.Expansion.{unless, within_limits, core_of}
use Rattle.fy_expand.proofs.ClearLemmas.{both-none, phrases_mean_the_same}
use Rattle.fy_derive.specs.Judging.{conclusion_of, concludes}
use Rattle.fy_link.specs.Sources.{Named}
use Rattle.fy_link.specs.Units.{PlainUnit}
use Rattle.fy_link.specs.Composed.{type_named, composed_derivation}
use Rattle.fy_link.proofs.Meanings.{IsMeant}
use Rattle.fy_link.proofs.ComposedLemmas.{names_of, imports_of, numbered, IsLinked, AreLinked, AreUnits, IsNest, last_type, composed-concludes}

-- a unit with the tokens behind its header, the phrase that they spell, and what this means under its imports
pub record SourceUnit : Type 0 where
  pub unit : PlainUnit
  pub tail : List Token
  pub end_at : Place
  pub rest_at : Place
  pub alone : written.Tree
  pub inside : HaveNoEnd tail
  pub spelled : SpellsBefore Level.phrase alone (tail ++ token kind.End end_at ∷ []) (token kind.End rest_at ∷ [])
  pub meant : IsMeant alone unit.source
  pub fresh : program_scope.phrases unit.source.own.name ≡ None

abbrev pub units_of : List SourceUnit → List PlainUnit
units_of [] = []
units_of (u ∷ more) = u.unit ∷ units_of more

-- the tokens of `let NAME == ( .. ) in ` for each unit but the last, and of `( .. )` for the last
abbrev pub IsJoined : SourceUnit → List SourceUnit → List Token → Type 0
IsJoined u [] ts =
    (o c e : Place) × (us : List Token) × (kinds u.tail ≡ kinds us) × (ts ≡ symbol_at symbol.OpenParen o ∷ (us ++ symbol_at symbol.CloseParen c ∷ token kind.End e ∷ []))
IsJoined u (v ∷ more) ts =
    (p n q o c i : Place) × (us rest : List Token) × (kinds u.tail ≡ kinds us) × IsJoined v more rest ×
    (ts ≡ word_at word.Let p ∷ ident_at u.unit.source.own.name n ∷ symbol_at symbol.EqualsEquals q ∷ symbol_at symbol.OpenParen o
    ∷ (us ++ symbol_at symbol.CloseParen c ∷ word_at word.In i ∷ rest))

-- ---- names

named-among : (name : ℕ) (E : List Named) (A : PlainType) → IsLinked (type_named name E) A → IsTrue (list_any (λ other. eqb name other) (names_of E))
named-among name [] A l = absurd l
named-among name (x ∷ E) A l = by (eqb name x.name) (named-among name E A) l
  where
    by : (b : Bool) → (IsLinked (type_named name E) A → IsTrue (list_any (λ other. eqb name other) (names_of E))) → IsLinked (cond b (Some x.type) (type_named name E)) A → (b || list_any (λ other. eqb name other) (names_of E)) ≡ true
    by true go l = refl
    by false go l = go l

among-linked : (I E : List Named) → AreLinked I E → AreAmong (names_of I) (names_of E)
among-linked [] E l = tt
among-linked (x ∷ I) E l = (named-among x.name E x.type l.0, among-linked I E l.1)

linked-first : (E : List Named) (u : PlainUnit) (more : List PlainUnit) → AreUnits E u more → AreLinked (imports_of u) E
linked-first E u [] h = h.1
linked-first E u (v ∷ more) h = h.1

-- ---- a unit's phrase

-- a phrase in parentheses is a term
group-term : {t : written.Tree} {ts r : List Token} {p : Place} → SpellsBefore Level.primary (written.Tree.group t p) ts r → SpellsBefore Level.term (written.Tree.group t p) ts r
group-term h =
    SpellsBefore.no_assign (SpellsBefore.either (SpellsBefore.both (SpellsBefore.no_relation (SpellsBefore.sum (SpellsBefore.product (SpellsBefore.prefixed Prefixes.no_prefixes
    (SpellsBefore.apply (SpellsBefore.select h Dots.no_dots) MoreArguments.no_arguments)) MoreLinks.no_links) MoreLinks.no_links)) MoreLinks.no_links) MoreLinks.no_links)

-- tokens of the same kinds spell the phrase again, before any rest
spelled-again : (tree : written.Tree) (at rest_at : Place) (ts us z : List Token) → HaveNoEnd ts → kinds ts ≡ kinds us →
    SpellsBefore Level.phrase tree (ts ++ token kind.End at ∷ []) (token kind.End rest_at ∷ []) → IsSpelledAgain tree (us ++ z) z
spelled-again tree at rest_at ts us z inside e x =
    let end : List Token = token kind.End at ∷ [] in
    let moved = tree_moved (places_of 1 us) z x in
    record {
      other = moved.tree;
      spelled = subst (λ l. SpellsBefore Level.phrase moved.tree l z) (placed_as z end ts us inside e (λ g. refl)) moved.spells;
      same = moved.same;
    }

-- the phrase of a unit, where it stands
record Part (E : List Named) (u : SourceUnit) (us z : List Token) : Type 0 where
  tree : written.Tree
  spelled : SpellsBefore Level.phrase tree (us ++ z) z
  means : Alike (numbered (imports_of u.unit) E) u.unit.source.phrase (core (scope_in (names_of E)) tree)
  clear : fault (scope_in (names_of E)) tree ≡ None

part : (E : List Named) (u : SourceUnit) (us z : List Token) → AreLinked (imports_of u.unit) E → HideNothing (names_of E) → kinds u.tail ≡ kinds us → Part E u us z
part E u us z l h k =
    let I : List ℕ = names_of (imports_of u.unit) in
    let F : List ℕ = names_of E in
    let m = spelled-again u.alone u.end_at u.rest_at u.tail us z u.inside k u.spelled in
    let same : without_places u.meant.tree ≡ without_places m.other = u.meant.same ∙ sym m.same in
    let among = among-linked (imports_of u.unit) E l in
    record {
      tree = m.other;
      spelled = m.spelled;
      means = subst (λ (p : Tree). Alike (numbered (imports_of u.unit) E) p (core (scope_in F) m.other)) (sym u.meant.phrase)
          (phrases_mean_the_same.means I F u.meant.tree m.other among h u.meant.clear same);
      clear = phrases_mean_the_same.clear I F u.meant.tree m.other among h u.meant.clear same;
    }

-- ---- the program

record Program (E : List Named) (u : SourceUnit) (more : List SourceUnit) (ts : List Token) : Type 0 where
  tree : written.Tree
  at : Place
  spelled : SpellsBefore Level.term tree ts (token kind.End at ∷ [])
  nest : IsNest E u.unit (units_of more) (core (scope_in (names_of E)) tree)
  clear : fault (scope_in (names_of E)) tree ≡ None

program-of : (more : List SourceUnit) (E : List Named) (u : SourceUnit) (ts : List Token) → AreUnits E u.unit (units_of more) → HideNothing (names_of E) →
    IsJoined u more ts → Program E u more ts
program-of [] E u ts a h j =
    let z = symbol_at symbol.CloseParen j.1 ∷ token kind.End j.2 ∷ [] in
    let x = part E u j.3 z a.1 h j.4 in
    record {
      tree = written.Tree.group x.tree j.0;
      at = j.2;
      spelled = subst (λ l. SpellsBefore Level.term (written.Tree.group x.tree j.0) l (token kind.End j.2 ∷ [])) (sym j.5) (group-term (SpellsBefore.group x.spelled));
      nest = x.means;
      clear = x.clear;
    }
program-of (v ∷ more) E u ts a h j =
    let z = symbol_at symbol.CloseParen j.4 ∷ word_at word.In j.5 ∷ j.7 in
    let x = part E u j.6 z a.1 h j.8 in
    let own = u.unit.source.own in
    let y = program-of more (own ∷ E) v j.7 a.2 (u.fresh, h) j.9 in
    let defs = Defs.and_def own.name j.1 (written.Tree.group x.tree j.3) Defs.no_defs in
    let s = scope_in (names_of E) in
    let inner = scope_in (names_of (own ∷ E)) in
    record {
      tree = written.Tree.let_in defs y.tree j.0;
      at = y.at;
      spelled = subst (λ l. SpellsBefore Level.term (written.Tree.let_in defs y.tree j.0) l (token kind.End y.at ∷ [])) (sym j.10)
          (SpellsBefore.let_in (group-term (SpellsBefore.group x.spelled)) MoreDefs.no_defs y.spelled);
      nest = (s.depth, core s x.tree, core inner y.tree, j.0, refl, x.means, y.nest);
      clear = both-none (fault s x.tree before None) (fault inner y.tree) (both-none (fault s x.tree) None x.clear refl) y.clear;
    }

whole : (u : SourceUnit) (more : List SourceUnit) (ts : List Token) (a : Program [] u more ts) → IsProgram a.tree ts
whole u more ts a = (a.at, SpellsBefore.phrase (SpellsBefore.sequence a.spelled MoreTrees.no_trees) MoreTrees.no_trees)

limited-same : (p q : Tree) → limited p ≡ Ok q → p ≡ q
limited-same p q e = one (nat_lt 512 (nesting p)) (nat_lt 65536 (size_of p)) (nat_lt 65536 (visits_of p)) e
  where
    one : (a b c : Bool) → cond a (Err errors.TooDeep) (cond b (Err errors.TooLarge) (cond c (Err errors.TooManyVisits) (Ok p))) ≡ Ok q → p ≡ q
    one true b c e = absurd cc
    one false true c e = absurd cc
    one false false true e = absurd cc
    one false false false e = cc

unless-same : (f : Option ExpandError) (p q : Tree) → within_limits (unless f p) ≡ Ok q → p ≡ q
unless-same None p q e = limited-same p q e
unless-same (Some x) p q e = absurd cc

-- whatever tree of a program the tokens spell, its core phrase has the last unit's type by the composed derivation
pub linked-concludes : (u : SourceUnit) (more : List SourceUnit) (tokens : List Token) (tree : written.Tree) (p : Tree) →
    AreUnits [] u.unit (units_of more) → IsJoined u more tokens → IsProgram tree tokens → core_of tree ≡ Ok p →
    conclusion_of p (composed_derivation (u.unit ∷ units_of more)) ≡ concludes (last_type u.unit (units_of more))
linked-concludes u more ts t p a j s e =
    let y = program-of more [] u ts a tt j in
    let same : y.tree ≡ t = unambiguous.of_programs ts y.tree t (whole u more ts y) s in
    let n : IsNest [] u.unit (units_of more) (core program_scope t) = subst (λ x. IsNest [] u.unit (units_of more) (core program_scope x)) same y.nest in
    subst (λ q. conclusion_of q (composed_derivation (u.unit ∷ units_of more)) ≡ concludes (last_type u.unit (units_of more)))
    (unless-same (fault program_scope t) (in_prelude (front t) (core program_scope t)) p e)
    (composed-concludes u.unit (units_of more) (core program_scope t) (front t) a n)
