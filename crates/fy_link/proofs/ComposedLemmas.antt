-- What the composed derivation concludes.
use Rattle.std.proofs.Common.{ℕ, zero, suc, ◌+◌, ◌≡◌, Bool, true, false, List, [], ◌∷◌, ◌++◌, map, reverse, cond, eqb, Option, Some, None, slice_get, refl, sym, ap, ◌∙◌, subst}
use Rattle.fy_base.specs.declared.data.Place.{Place}
use Rattle.fy_base.specs.declared.data.PutKind.TheVariants as kinds
use Rattle.fy_types.specs.declared.types.Atom.TheVariants.{Int, Bool as Truth, Char, Comm, IntAcc}
use Rattle.fy_types.specs.Types.{PlainType, atom, arrow}
use Rattle.fy_phrase.specs.Alike.{Alike}
use Rattle.fy_phrase.specs.Tree.{Tree, var, put, read, lam, let_in}
use Rattle.fy_expand.specs.Core.{cell_maker, in_prelude, one_type}
use Rattle.fy_expand.specs.Imports.{index_of, past_all, renumbered}
use Rattle.fy_derive.specs.Derivations.{PlainDerivation, rule, no_derivations, and_derivation, nodes}
use Rattle.fy_derive.specs.Judging.{judged, concludes, conclusion_of}
use Rattle.fy_derive.specs.Placed.{FitsAt, Fits}
use Rattle.fy_derive.specs.Rules.{nothing, first, same_type}
use Rattle.fy_derive.specs.Subsumption.{is_below}
use Rattle.fy_derive.proofs.PlacedLemmas.{placed-concludes, plain-rule, others-outer}
use Rattle.fy_derive.proofs.RuleLemmas.{same_type-true}
use Rattle.fy_link.specs.Sources.{Named}
use Rattle.fy_link.specs.Units.{PlainUnit, maker_type, prelude_types}
use Rattle.fy_link.specs.Composed.{type_named, wanted_at, wanted, placed_unit, units_derivation, provided_derivation, behind_provided, maker_derivation, behind_maker, composed_derivation}

abbrev pub names_of : List Named → List ℕ
names_of xs = map (λ (x : Named). x.name) xs

abbrev pub types_of : List Named → List PlainType
types_of xs = map (λ (x : Named). x.type) xs

-- a unit's imports, the innermost first
abbrev pub imports_of : PlainUnit → List Named
imports_of u = reverse u.source.imports

-- the context of names, the innermost first
abbrev pub context_in : List Named → List PlainType
context_in xs = types_of xs ++ reverse prelude_types

-- each import is the name of an earlier unit whose type is below the import's
abbrev pub IsLinked : Option PlainType → PlainType → Type 0
IsLinked None A = ⊥
IsLinked (Some B) A = is_below B A ≡ true

abbrev pub AreLinked : List Named → List Named → Type 0
AreLinked [] earlier = Unit {0}
AreLinked (x ∷ imports) earlier = IsLinked (type_named x.name earlier) x.type × AreLinked imports earlier

-- the unit's derivation concludes its type where its imports are the innermost names
abbrev pub IsJudgedIn : PlainUnit → Type 0
IsJudgedIn u = judged u.derivation 0 (context_in (imports_of u)) u.source.phrase ≡ concludes u.source.own.type

-- the units are typed and linked, one behind another
abbrev pub AreUnits : List Named → PlainUnit → List PlainUnit → Type 0
AreUnits earlier u [] = IsJudgedIn u × AreLinked (imports_of u) earlier
AreUnits earlier u (v ∷ more) = IsJudgedIn u × AreLinked (imports_of u) earlier × AreUnits (u.source.own ∷ earlier) v more

abbrev pub numbered : List Named → List Named → ℕ → ℕ
numbered imports earlier = renumbered (names_of imports) (names_of earlier)

-- the phrase is the nest of `let`s of the units' phrases, each with its variables renumbered
abbrev pub IsNest : List Named → PlainUnit → List PlainUnit → Tree → Type 0
IsNest earlier u [] q = Alike (numbered (imports_of u) earlier) u.source.phrase q
IsNest earlier u (v ∷ more) q =
    (d : ℕ) × (p : Tree) × (b : Tree) × (at : Place) × (q ≡ let_in d p b at) × Alike (numbered (imports_of u) earlier) u.source.phrase p
    × IsNest (u.source.own ∷ earlier) v more b

abbrev pub last_type : PlainUnit → List PlainUnit → PlainType
last_type u [] = u.source.own.type
last_type u (v ∷ more) = last_type v more

-- ---- contexts

past-get : (E : List Named) (X : List PlainType) (k : ℕ) → slice_get (types_of E ++ X) (past_all (names_of E) k) ≡ slice_get X k
past-get [] X k = refl
past-get (x ∷ E) X k = past-get E X k

index-get : (name : ℕ) (E : List Named) (X : List PlainType) (B : PlainType) → type_named name E ≡ Some B → slice_get (types_of E ++ X) (index_of name (names_of E)) ≡ Some B
index-get name [] X B e = absurd cc
index-get name (x ∷ E) X B e = by (eqb name x.name) (λ h. index-get name E X B h) e
  where
    by : (b : Bool) → (type_named name E ≡ Some B → slice_get (types_of E ++ X) (index_of name (names_of E)) ≡ Some B) →
        cond b (Some x.type) (type_named name E) ≡ Some B → slice_get (x.type ∷ (types_of E ++ X)) (cond b 0 (suc (index_of name (names_of E)))) ≡ Some B
    by true go e = e
    by false go e = go e

link-fits : (o : Option PlainType) (A : PlainType) (r : Option PlainType) → ((B : PlainType) → o ≡ Some B → r ≡ Some B) → IsLinked o A → FitsAt (wanted_at o A) A r
link-fits None A r g l = absurd l
link-fits (Some B) A r g l = by (same_type B A) refl
  where
    by : (b : Bool) → same_type B A ≡ b → FitsAt (cond b None (Some A)) A r
    by true s = g B refl ∙ ap Some (same_type-true B A s)
    by false s = (refl, (B, g B refl, l))

fits-linked : (I E : List Named) → AreLinked I E → Fits (numbered I E) (wanted I E) (context_in I) (context_in E)
fits-linked I E l = record { each = at I l }
  where
    at : (I : List Named) → AreLinked I E → (k : ℕ) (A : PlainType) → slice_get (context_in I) k ≡ Some A → FitsAt (wanted I E k) A (slice_get (context_in E) (numbered I E k))
    at [] l k A e = past-get E (reverse prelude_types) k ∙ e
    at (x ∷ I) l zero A e =
        subst (λ C. FitsAt (wanted_at (type_named x.name E) x.type) C (slice_get (context_in E) (index_of x.name (names_of E)))) (some_same e)
        (link-fits (type_named x.name E) x.type (slice_get (context_in E) (index_of x.name (names_of E))) (index-get x.name E (reverse prelude_types)) l.0)
      where
        some_same : {X : Type 0} {x y : X} → Some x ≡ Some y → x ≡ y
        some_same e = cc
    at (x ∷ I) l (suc k) A e = at I l.1 k A e

-- ---- the nest

let-judged : (a b : PlainDerivation) (m : ℕ) (G : List PlainType) (d : ℕ) (p q : Tree) (at : Place) (A C : PlainType) →
    ((n : ℕ) → judged a n G p ≡ concludes A) → ((n : ℕ) → judged b n (A ∷ G) q ≡ concludes C) →
    judged (rule (and_derivation a (and_derivation b no_derivations))) m G (let_in d p q at) ≡ concludes C
let-judged a b m G d p q at A C h k =
    plain-rule (let_in d p q at) G (and_derivation a (and_derivation b no_derivations)) m ((nothing, p) ∷ (first, q) ∷ []) (A ∷ C ∷ []) C refl refl
    (others-outer (judged a (m + 1) G p) _ (A ∷ C ∷ []) A (h (m + 1)) (others-outer (judged b (m + 1 + nodes a) (A ∷ G) q) _ (A ∷ C ∷ []) C (k (m + 1 + nodes a)) refl)) refl

unit-judged : (E : List Named) (u : PlainUnit) (q : Tree) (n : ℕ) → IsJudgedIn u → AreLinked (imports_of u) E → Alike (numbered (imports_of u) E) u.source.phrase q →
    judged (placed_unit E u) n (context_in E) q ≡ concludes u.source.own.type
unit-judged E u q n t l h =
    placed-concludes (numbered (imports_of u) E) (wanted (imports_of u) E) (context_in (imports_of u)) (context_in E) u.source.phrase q u.source.own.type
    u.derivation 0 n h (fits-linked (imports_of u) E l) t

nest-judged : (more : List PlainUnit) (E : List Named) (u : PlainUnit) (q : Tree) → AreUnits E u more → IsNest E u more q → (n : ℕ) →
    judged (units_derivation E (u ∷ more)) n (context_in E) q ≡ concludes (last_type u more)
nest-judged [] E u q t h n = unit-judged E u q n t.0 t.1 h
nest-judged (v ∷ more) E u q t h n =
    subst (λ r. judged (units_derivation E (u ∷ v ∷ more)) n (context_in E) r ≡ concludes (last_type v more)) (sym h.4)
    (let-judged (placed_unit E u) (units_derivation (u.source.own ∷ E) (v ∷ more)) n (context_in E) h.0 h.1 h.2 h.3 u.source.own.type (last_type v more)
    (λ m. unit-judged E u h.1 m t.0 t.1 h.5)
    (nest-judged more (u.source.own ∷ E) v h.2 t.2 h.6))

-- the derivation of the units together concludes the last one's type for the program
pub composed-concludes : (u : PlainUnit) (more : List PlainUnit) (q : Tree) (at : Place) → AreUnits [] u more → IsNest [] u more q →
    conclusion_of (in_prelude at q) (composed_derivation (u ∷ more)) ≡ concludes (last_type u more)
composed-concludes u more q at t h =
    let by = nest-judged more [] u q t h in
    let d = units_derivation [] (u ∷ more) in
    let C = last_type u more in
    let p0 : Tree = lam 0 (one_type Int) (put kinds.Int (var 0 at) at) at in
    let p1 : Tree = lam 1 (one_type Char) (put kinds.Char (var 0 at) at) at in
    let p2 : Tree = lam 2 (one_type Truth) (put kinds.Bool (var 0 at) at) at in
    let p3 : Tree = lam 3 (one_type IntAcc) (read (var 0 at) at) at in
    let p4 : Tree = cell_maker at in
    let q4 : Tree = let_in 4 p4 q at in
    let q3 : Tree = let_in 3 p3 q4 at in
    let q2 : Tree = let_in 2 p2 q3 at in
    let q1 : Tree = let_in 1 p1 q2 at in
    let T0 = arrow (atom Int) (atom Comm) in
    let T1 = arrow (atom Char) (atom Comm) in
    let T2 = arrow (atom Truth) (atom Comm) in
    let T3 = arrow (atom IntAcc) (atom Comm) in
    let-judged provided_derivation (behind_provided (behind_provided (behind_provided (behind_maker d)))) 0 [] 0 p0 q1 at T0 C (λ n. refl)
    (λ n. let-judged provided_derivation (behind_provided (behind_provided (behind_maker d))) n (T0 ∷ []) 1 p1 q2 at T1 C (λ n. refl)
    (λ n. let-judged provided_derivation (behind_provided (behind_maker d)) n (T1 ∷ T0 ∷ []) 2 p2 q3 at T2 C (λ n. refl)
    (λ n. let-judged provided_derivation (behind_maker d) n (T2 ∷ T1 ∷ T0 ∷ []) 3 p3 q4 at T3 C (λ n. refl)
    (λ n. let-judged maker_derivation d n (T3 ∷ T2 ∷ T1 ∷ T0 ∷ []) 4 p4 q at maker_type C (λ n. refl) by))))
