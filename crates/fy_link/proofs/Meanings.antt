-- What the programs that are judged for a source mean: the type of a piece, and the phrase of a unit.
use Rattle.std.proofs.Common.{◌≡◌, ◌≤◌, ℕ, suc, List, [], ◌∷◌, ◌++◌, length, map, Bool, true, false, nat_lt, reverse, refl, sym, ap, ◌∙◌, subst, arith}
use Rattle.std.specs.Prelude.{◌||◌, if◌then◌else◌, Option, Some, None, Ok, Err}
use Rattle.std.specs.List.{flat_map}
use Rattle.std.proofs.lemmas.Bool.{ltb-false}
use Rattle.std.proofs.lemmas.List.{append_assoc, append-nil, map-append, reverse-append}
use Rattle.fy_base.specs.Outside.{Bytes}
use Rattle.fy_base.specs.declared.data.Place.{Place}
use Rattle.fy_types.specs.Types.{PlainType, PlainTypes}
use Rattle.fy_types.specs.Nested.{type_nodes, type_nesting}
use Rattle.fy_lexer.specs.declared.token.Token.{Token}
use Rattle.fy_lexer.specs.declared.token.TokenKind.TheVariants as kind
use Rattle.fy_lexer.specs.declared.token.Symbol.TheVariants as symbol
use Rattle.fy_syntax.specs.Trees.{TypeTree}
use Rattle.fy_syntax.specs.Trees as written
use Rattle.fy_syntax.specs.Signs.{token, symbol_at, front as first_place_of, Level}
use Rattle.fy_syntax.specs.Spells.{SpellsBefore, IsProgram}
use Rattle.fy_syntax.specs.Places.{without_places}
use Rattle.fy_syntax.proofs.PlaceLemmas.{tree_moved, places_of, placed_as}
use Rattle.fy_grammar.specs.Program.{IsEnded}
use Rattle.fy_grammar.proofs.Lexed.{lexed_ended}
use Rattle.fy_phrase.specs.Tree.{Tree, let_in, lam}
use Rattle.fy_phrase.specs.Sizes.{nesting}
use Rattle.fy_phrase.specs.CoreLimits.{size_of, visits_of, KeepsCoreLimits}
use Rattle.fy_expand.specs.declared.error.ExpandError.{ExpandError}
use Rattle.fy_expand.specs.declared.error.ExpandError.TheVariants.{TooDeep, TooLarge, TooManyVisits}
use Rattle.fy_expand.specs.Types.{type_of, predefined, is_large_type}
use Rattle.fy_expand.specs.Scope.{Scope, under, program_scope}
use Rattle.fy_expand.specs.Imports.{scope_in}
use Rattle.fy_expand.specs.Front.{front}
use Rattle.fy_expand.specs.Core.{core, in_prelude}
use Rattle.fy_expand.specs.Faults.{◌before◌, fault, fault_if, unknown, type_fault}
use Rattle.fy_expand.specs.Expansion.{unless, within_limits, core_of}
use Rattle.fy_expand.proofs.ExpansionLemmas.{core_of-limits}
use Rattle.fy_link.specs.Header.{PlainPiece, PlainHeader, pieces_in, inside, abstraction_over}
use Rattle.fy_link.specs.Sources.{Named, PlainSource, HasHeader, Names, NameAll, IsSaid, IsSource, below_abstractions, without_prelude, domain_of}
use Rattle.fy_link.proofs.Ends.{header-inside, have_from_all, inside-of}
use Rattle.fy_link.proofs.CleanPieces.{AreClean, header-clean, clean-front, clean-last}
use Rattle.fy_link.proofs.TypeParts.{IsClean}
use Rattle.fy_link.proofs.Shapes.{TypeOf, type-of, lam_of, lam-term, primary-term, term-program, type-tree}

-- ---- expansion backwards

limited-is : (a b c : Bool) (x y z : ExpandError) (p q : Tree) → (if a then Err x else (if b then Err y else (if c then Err z else Ok p))) ≡ Ok q → p ≡ q
limited-is true b c x y z p q e = absurd (cc)
limited-is false true c x y z p q e = absurd (cc)
limited-is false false true x y z p q e = absurd (cc)
limited-is false false false x y z p q e = cc

unless-is : (f : Option ExpandError) (p q : Tree) → within_limits (unless f p) ≡ Ok q → (f ≡ None) × (p ≡ q)
unless-is None p q e = (refl, limited-is (nat_lt 512 (nesting p)) (nat_lt 65536 (size_of p)) (nat_lt 65536 (visits_of p)) TooDeep TooLarge TooManyVisits p q e)
unless-is (Some x) p q e = absurd (cc)

-- a program that means a core phrase has no fault, and the phrase is that of the program inside the prelude
core-is : (tree : written.Tree) (p : Tree) → core_of tree ≡ Ok p → (fault program_scope tree ≡ None) × (in_prelude (front tree) (core program_scope tree) ≡ p)
core-is tree p e = unless-is (fault program_scope tree) (in_prelude (front tree) (core program_scope tree)) p e

before-none : (a b : Option ExpandError) → (a before b) ≡ None → (a ≡ None) × (b ≡ None)
before-none None b e = (refl, e)
before-none (Some x) b e = absurd (cc)

if-none : (b : Bool) (e : ExpandError) → fault_if b e ≡ None → b ≡ false
if-none true e h = absurd (cc)
if-none false e h = refl

second-false : (a b : Bool) → (a || b) ≡ false → b ≡ false
second-false true b e = absurd (cc)
second-false false b e = e

-- the first type of an abstraction without a fault nests at most 256
type-nests : (types : ℕ → Option PlainType) (a : TypeTree) → type_fault types a ≡ None → type_nesting (type_of types a) ≤ 256
type-nests types a e =
    let A = type_of types a in
    let large : is_large_type A ≡ false = if-none (is_large_type A) _ (before-none (unknown types a) _ e).1 in
    ltb-false 256 (type_nesting A) (second-false (nat_lt 4096 (type_nodes A)) (nat_lt 256 (type_nesting A)) large)

-- an abstraction of one type without a fault
lam-clear : (s : Scope) (at : Place) (name : ℕ) (a : TypeTree) (t : written.Tree) → fault s (lam_of at name a t) ≡ None → (type_fault s.types a ≡ None) × (fault (under name s) t ≡ None)
lam-clear s at name a t e =
    let first = before-none (type_fault s.types a before None) (fault (under name s) t) e in
    ((before-none (type_fault s.types a) None first.0).0, first.1)

-- ---- the type of a piece

pub record HasShallowType (x : PlainPiece) (named : Named) : Type 0 where
  pub type : TypeOf x
  pub is : named.type ≡ type_of predefined type.a
  pub shallow : type_nesting named.type ≤ 256

pub named-shallow : (at : Place) (x : PlainPiece) (named : Named) → IsClean x.type → Names at x named → HasShallowType x named
named-shallow at x named clean h =
    let f = type-of at x named clean h in
    let tree : written.Tree = lam_of at x.name f.a (written.Tree.skip at) in
    let same : tree ≡ h.means.tree = type-tree at x named f h in
    let means : core_of tree ≡ Ok h.phrase = ap core_of same ∙ h.means.core in
    let expanded = core-is tree h.phrase means in
    let is : named.type ≡ type_of predefined f.a = h.type ∙ ap (λ (p : Tree). domain_of (without_prelude p)) (sym expanded.1) in
    let nests = type-nests predefined f.a (lam-clear program_scope at x.name f.a (written.Tree.skip at) expanded.0).0 in
    record { type = f; is = is; shallow = subst (λ A. type_nesting A ≤ 256) (sym is) nests }

-- ---- the phrase of a unit

-- the names of a source's imports, the innermost first
abbrev pub import_names : PlainSource → List ℕ
import_names u = map (λ (x : Named). x.name) (reverse u.imports)

abbrev pub AreShallow : List Named → Type 0
AreShallow [] = Unit {0}
AreShallow (x ∷ more) = (type_nesting x.type ≤ 256) × AreShallow more

-- the phrase is what the tail means under the imports, where it has no fault
pub record IsMeant (alone : written.Tree) (u : PlainSource) : Type 0 where
  pub tree : written.Tree
  pub same : without_places tree ≡ without_places alone
  pub phrase : u.phrase ≡ core (scope_in (import_names u)) tree
  pub clear : fault (scope_in (import_names u)) tree ≡ None

-- a name with a written type
record Typed : Type 0 where
  pub name : ℕ
  pub a : TypeTree

-- a phrase in the imports' abstractions, the first outermost
abbrev around : Place → List Typed → written.Tree → written.Tree
around at [] t = t
around at (x ∷ xs) t = lam_of at x.name x.a (around at xs t)

-- the names of the imports, the innermost first, in front of others
abbrev onto_names : List Typed → List ℕ → List ℕ
onto_names [] names = names
onto_names (x ∷ xs) names = onto_names xs (x.name ∷ names)

record Abstractions (at : Place) (xs : List PlainPiece) (named : List Named) : Type 0 where
  pub all : List Typed
  pub names : map (λ (x : Typed). x.name) all ≡ map (λ (x : Named). x.name) named
  pub spells : (t : written.Tree) (ts r : List Token) → SpellsBefore Level.term t ts r → SpellsBefore Level.term (around at all t) (flat_map (abstraction_over at) xs ++ ts) r

abstractions : (at : Place) (xs : List PlainPiece) (named : List Named) → AreClean xs → NameAll at xs named → Abstractions at xs named
abstractions at [] [] clean h = record { all = []; names = refl; spells = λ t ts r k. k }
abstractions at [] (n ∷ named) clean h = absurd h
abstractions at (x ∷ xs) [] clean h = absurd h
abstractions at (x ∷ xs) (n ∷ named) clean h =
    let f = type-of at x n clean.0 h.0 in
    let more = abstractions at xs named clean.1 h.1 in
    let name : x.name ≡ n.name = sym h.0.name in
    record {
      all = record { name = x.name; a = f.a } ∷ more.all;
      names = ap (λ (k : ℕ). k ∷ map (λ (y : Typed). y.name) more.all) name ∙ ap (λ (ks : List ℕ). n.name ∷ ks) more.names;
      spells = λ t ts r k.
          subst (λ us. SpellsBefore Level.term (lam_of at x.name f.a (around at more.all t)) us r)
          (sym (append_assoc (abstraction_over at x) (flat_map (abstraction_over at) xs) ts))
          (lam-term x at f (more.spells t ts r k));
    }

-- what stands below the abstractions
around-core : (at : Place) (xs : List Typed) (names : List ℕ) (t : written.Tree) →
    below_abstractions (length xs) (core (scope_in names) (around at xs t)) ≡ core (scope_in (onto_names xs names)) t
around-core at [] names t = refl
around-core at (x ∷ xs) names t = around-core at xs (x.name ∷ names) t

around-clear : (at : Place) (xs : List Typed) (names : List ℕ) (t : written.Tree) →
    fault (scope_in names) (around at xs t) ≡ None → fault (scope_in (onto_names xs names)) t ≡ None
around-clear at [] names t e = e
around-clear at (x ∷ xs) names t e = around-clear at xs (x.name ∷ names) t (lam-clear (scope_in names) at x.name x.a (around at xs t) e).1

-- a body keeps the limits that the phrase keeps
lam-limits : (d : ℕ) (A : PlainType) (b : Tree) (at : Place) → KeepsCoreLimits (lam d (PlainTypes.and_type A PlainTypes.no_types) b at) → KeepsCoreLimits b
lam-limits d A b at h = record { shallow = omega (arith, h.shallow); small = omega (arith, h.small); few_visits = omega (arith, h.few_visits); written = h.written }

let-limits : (d : ℕ) (p b : Tree) (at : Place) → KeepsCoreLimits (let_in d p b at) → KeepsCoreLimits b
let-limits d p b at h = record { shallow = omega (arith, h.shallow); small = omega (arith, h.small); few_visits = omega (arith, h.few_visits); written = omega (arith, h.written) }

prelude-limits : (at : Place) (p : Tree) → KeepsCoreLimits (in_prelude at p) → KeepsCoreLimits p
prelude-limits at p h = let-limits 4 _ p at (let-limits 3 _ _ at (let-limits 2 _ _ at (let-limits 1 _ _ at (let-limits 0 _ _ at h))))

around-limits : (at : Place) (xs : List Typed) (names : List ℕ) (t : written.Tree) →
    KeepsCoreLimits (core (scope_in names) (around at xs t)) → KeepsCoreLimits (core (scope_in (onto_names xs names)) t)
around-limits at [] names t h = h
around-limits at (x ∷ xs) names t h = around-limits at xs (x.name ∷ names) t (lam-limits _ _ _ _ h)

-- ---- the tail in parentheses

record Enclosed (at : Place) (header : PlainHeader) (alone : written.Tree) : Type 0 where
  pub tree : written.Tree
  pub same : without_places tree ≡ without_places alone
  pub spelled : SpellsBefore Level.term (written.Tree.group tree at) (symbol_at symbol.OpenParen at ∷ (inside header ++ symbol_at symbol.CloseParen at ∷ token kind.End at ∷ [])) (token kind.End at ∷ [])

enclosed : (at : Place) (header : PlainHeader) (alone : written.Tree) → IsEnded header.tail → IsProgram alone header.tail → Enclosed at header alone
enclosed at header alone ended h =
    let own : List Token = ended.before in
    let end : List Token = token kind.End ended.at ∷ [] in
    let z : List Token = symbol_at symbol.CloseParen at ∷ token kind.End at ∷ [] in
    let g = places_of 1 own in
    let program : SpellsBefore Level.phrase alone (own ++ end) (token kind.End h.0 ∷ []) = subst (λ ts. SpellsBefore Level.phrase alone ts (token kind.End h.0 ∷ [])) ended.is h.1 in
    let moved = tree_moved g z program in
    let placed = placed_as z end own own (have_from_all own ended.no_other) refl (λ f. refl) in
    let spelled : SpellsBefore Level.phrase moved.tree (own ++ z) z = subst (λ l. SpellsBefore Level.phrase moved.tree l z) placed moved.spells in
    let inner : SpellsBefore Level.phrase moved.tree (inside header ++ z) z = subst (λ ts. SpellsBefore Level.phrase moved.tree (ts ++ z) z) (sym (inside-of header ended)) spelled in
    record { tree = moved.tree; same = moved.same; spelled = primary-term (SpellsBefore.group inner) }

-- ---- the unit

record UnitTree (at : Place) (header : PlainHeader) (u : PlainSource) (said : IsSaid at header u) : Type 0 where
  pub all : List Typed
  pub names : map (λ (x : Typed). x.name) all ≡ map (λ (x : Named). x.name) u.imports
  pub tree : written.Tree
  pub same : without_places tree ≡ without_places said.alone
  pub whole : around at all (written.Tree.group tree at) ≡ said.means.tree

unit-tree : (at : Place) (header : PlainHeader) (u : PlainSource) (said : IsSaid at header u) → IsEnded header.tail → AreClean (pieces_in header) → UnitTree at header u said
unit-tree at header u said ended clean =
    let tail = enclosed at header said.alone ended said.program.spelled in
    let outer = abstractions at header.imports u.imports (clean-front header.imports (header.own ∷ []) clean) said.imports in
    record {
      all = outer.all;
      names = outer.names;
      tree = tail.tree;
      same = tail.same;
      whole = said.means.program.only _ (term-program at (outer.spells (written.Tree.group tail.tree at) _ _ tail.spelled));
    }

names-length : (xs : List Typed) (named : List Named) → map (λ (x : Typed). x.name) xs ≡ map (λ (x : Named). x.name) named → length xs ≡ length named
names-length [] [] e = refl
names-length [] (n ∷ named) e = absurd (cc)
names-length (x ∷ xs) [] e = absurd (cc)
names-length (x ∷ xs) (n ∷ named) e = let later : map (λ (y : Typed). y.name) xs ≡ map (λ (y : Named). y.name) named = cc in ap suc (names-length xs named later)

onto-named : (xs : List Typed) (named : List Named) (names : List ℕ) → map (λ (x : Typed). x.name) xs ≡ map (λ (x : Named). x.name) named →
    onto_names xs names ≡ map (λ (x : Named). x.name) (reverse named) ++ names
onto-named [] [] names e = refl
onto-named [] (n ∷ named) names e = absurd (cc)
onto-named (x ∷ xs) [] names e = absurd (cc)
onto-named (x ∷ xs) (n ∷ named) names e =
    let name_of : Named → ℕ = λ (y : Named). y.name in
    let later : map (λ (y : Typed). y.name) xs ≡ map name_of named = cc in
    let first : x.name ≡ n.name = cc in
    onto-named xs named (x.name ∷ names) later
    ∙ (ap (λ (k : ℕ). map name_of (reverse named) ++ k ∷ names) first
    ∙ (sym (append_assoc (map name_of (reverse named)) (n.name ∷ []) names)
    ∙ ap (λ (ks : List ℕ). ks ++ names) (sym (map-append name_of (reverse named) (n ∷ [])) ∙ ap (map name_of) (sym (reverse-append (n ∷ []) named)))))

names-are : (u : PlainSource) (all : List Typed) → map (λ (x : Typed). x.name) all ≡ map (λ (x : Named). x.name) u.imports → onto_names all [] ≡ import_names u
names-are u all e = onto-named all u.imports [] e ∙ append-nil (import_names u)

record Expanded (at : Place) (header : PlainHeader) (u : PlainSource) (said : IsSaid at header u) : Type 0 where
  pub tree : written.Tree
  pub same : without_places tree ≡ without_places said.alone
  pub phrase : core (scope_in (import_names u)) tree ≡ u.phrase
  pub clear : fault (scope_in (import_names u)) tree ≡ None
  pub limits : KeepsCoreLimits (core (scope_in (import_names u)) tree)

unit-expanded : (at : Place) (header : PlainHeader) (u : PlainSource) (said : IsSaid at header u) → UnitTree at header u said → Expanded at header u said
unit-expanded at header u said t =
    let tree : written.Tree = around at t.all (written.Tree.group t.tree at) in
    let means : core_of tree ≡ Ok said.whole = ap core_of t.whole ∙ said.means.core in
    let expanded = core-is tree said.whole means in
    let names = names-are u t.all t.names in
    let count = names-length t.all u.imports t.names in
    let limits : KeepsCoreLimits (in_prelude (front tree) (core program_scope tree)) = subst KeepsCoreLimits (sym expanded.1) (core_of-limits tree said.whole means) in
    let below : core (scope_in (onto_names t.all [])) t.tree ≡ u.phrase =
    sym (around-core at t.all [] (written.Tree.group t.tree at))
    ∙ (ap (λ (n : ℕ). below_abstractions n (core program_scope tree)) count
    ∙ (ap (λ (p : Tree). below_abstractions (length u.imports) (without_prelude p)) expanded.1 ∙ sym said.phrase)) in
    record {
      tree = t.tree;
      same = t.same;
      phrase = subst (λ (ns : List ℕ). core (scope_in ns) t.tree ≡ u.phrase) names below;
      clear = subst (λ (ns : List ℕ). fault (scope_in ns) t.tree ≡ None) names (around-clear at t.all [] (written.Tree.group t.tree at) expanded.0);
      limits = subst (λ (ns : List ℕ). KeepsCoreLimits (core (scope_in ns) t.tree)) names
          (around-limits at t.all [] (written.Tree.group t.tree at) (prelude-limits (front tree) (core program_scope tree) limits));
    }

source-expanded : (names after : List Bytes) (source : Bytes) (tokens : List Token) (header : PlainHeader) (u : PlainSource) →
    HasHeader names source after tokens header → (said : IsSaid (first_place_of tokens) header u) → Expanded (first_place_of tokens) header u said
source-expanded names after source tokens header u headed said =
    let inside = header-inside tokens header (lexed_ended names source tokens after headed.lexed.read) headed.is in
    unit-expanded (first_place_of tokens) header u said (unit-tree (first_place_of tokens) header u said inside.tail (header-clean tokens header headed.is))

pub source-meant : (names after : List Bytes) (source : Bytes) (tokens : List Token) (header : PlainHeader) (u : PlainSource) →
    HasHeader names source after tokens header → (said : IsSaid (first_place_of tokens) header u) → IsMeant said.alone u
source-meant names after source tokens header u headed said =
    let x = source-expanded names after source tokens header u headed said in
    record { tree = x.tree; same = x.same; phrase = sym x.phrase; clear = x.clear }

all-shallow : (at : Place) (xs : List PlainPiece) (named : List Named) → AreClean xs → NameAll at xs named → AreShallow named
all-shallow at [] [] clean h = tt
all-shallow at [] (n ∷ named) clean h = absurd h
all-shallow at (x ∷ xs) [] clean h = absurd h
all-shallow at (x ∷ xs) (n ∷ named) clean h = ((named-shallow at x n clean.0 h.0).shallow, all-shallow at xs named clean.1 h.1)

-- the type of each import nests at most 256
pub imports-shallow : (names after : List Bytes) (source : Bytes) (tokens : List Token) (header : PlainHeader) (u : PlainSource) →
    HasHeader names source after tokens header → IsSaid (first_place_of tokens) header u → AreShallow u.imports
imports-shallow names after source tokens header u headed said =
    all-shallow (first_place_of tokens) header.imports u.imports (clean-front header.imports (header.own ∷ []) (header-clean tokens header headed.is)) said.imports

-- and so does that of the unit itself
pub own-shallow : (names after : List Bytes) (source : Bytes) (u : PlainSource) → IsSource names source after u → type_nesting u.own.type ≤ 256
own-shallow names after source u s =
    (named-shallow (first_place_of s.tokens) s.header.own u.own (clean-last s.header.imports s.header.own (header-clean s.tokens s.header s.headed.is)) s.said.own).shallow

-- the phrase of a source keeps the core limits
pub source-limits : (names after : List Bytes) (source : Bytes) (u : PlainSource) → IsSource names source after u → KeepsCoreLimits u.phrase
source-limits names after source u s =
    let x = source-expanded names after source s.tokens s.header u s.headed s.said in
    subst KeepsCoreLimits x.phrase x.limits
