-- How deep the types in the composed derivation are.
use Rattle.std.proofs.Common.{◌≡◌, ℕ, zero, suc, ◌≤◌, Bool, true, false, cond, List, [], ◌∷◌, ◌++◌, replicate, reverse, Option, Some, None, refl, sym, ap, subst, arith}
use Rattle.std.proofs.lemmas.List.{reverse-append}
use Rattle.fy_types.specs.Nested.{type_nesting}
use Rattle.fy_types.specs.Types.{PlainType}
use Rattle.fy_phrase.specs.Tree.{Tree, var}
use Rattle.fy_derive.specs.Derivations.{PlainDerivation, PlainDerivations, by_ns, sub, meets, alt, left, right, rule, no_derivations, and_derivation, count}
use Rattle.fy_derive.specs.Limits.{deepest_type, deepest_of_all, most_type_nesting}
use Rattle.fy_derive.specs.Placed.{Wanted, behind, behind_binder, raised, raised_use, those_of, body_of, left_of, right_of, placed, all_placed}
use Rattle.fy_derive.specs.Rules.{Binder, nothing, first, given, Premise, premises, same_type}
use Rattle.fy_link.specs.Sources.{Named}
use Rattle.fy_link.specs.Units.{PlainUnit, IsTyped}
use Rattle.fy_link.specs.Composed.{type_named, wanted_at, wanted, placed_unit, units_derivation, composed_derivation}
use Rattle.fy_link.proofs.Meanings.{AreShallow}

-- each type that is wanted is no deeper
abbrev AreWantedWithin : ℕ → Wanted → Type 0
AreWantedWithin n w = (k : ℕ) (T : PlainType) → w k ≡ Some T → type_nesting T ≤ n

within-behind : (n : ℕ) (w : Wanted) → AreWantedWithin n w → AreWantedWithin n (behind w)
within-behind n w h zero T e = absurd cc
within-behind n w h (suc k) T e = h k T e

within-binder : (n : ℕ) (w : Wanted) (b : Binder) → AreWantedWithin n w → AreWantedWithin n (behind_binder b w)
within-binder n w nothing h = h
within-binder n w first h = within-behind n w h
within-binder n w (given T) h = within-behind n w h

raised-within : (n : ℕ) (o : Option PlainType) (d : PlainDerivation) → ((T : PlainType) → o ≡ Some T → type_nesting T ≤ n) → deepest_type d ≤ n → deepest_type (raised o d) ≤ n
raised-within n None d h l = l
raised-within n (Some T) d h l = omega (arith, l, h T refl)

use-within : (n : ℕ) (w : Wanted) (p : Tree) (d : PlainDerivation) → AreWantedWithin n w → deepest_type d ≤ n → deepest_type (raised_use w p d) ≤ n
use-within n w (var k at) d h l = raised-within n (w k) d (h k) l
use-within n w p d h l = l

mutual
  placed-within : (d : PlainDerivation) (n : ℕ) (w : Wanted) (p : Tree) → AreWantedWithin n w → deepest_type d ≤ n → deepest_type (placed w p d) ≤ n
  placed-within by_ns n w p h l = l
  placed-within (sub B d) n w p h l = omega (arith, l, placed-within d n w p h (omega (arith, l)))
  placed-within (meets ds) n w p h l = all-within ds n w (replicate (count ds) (nothing, p)) h l
  placed-within (alt i d) n w p h l = placed-within d n (behind w) (body_of p) (within-behind n w h) l
  placed-within (left d) n w p h l = placed-within d n w (left_of p) h l
  placed-within (right d) n w p h l = placed-within d n w (right_of p) h l
  placed-within (rule ds) n w p h l = use-within n w p (rule (all_placed w (those_of (premises p)) ds)) h (all-within ds n w (those_of (premises p)) h l)

  all-within : (ds : PlainDerivations) (n : ℕ) (w : Wanted) (Ps : List Premise) → AreWantedWithin n w → deepest_of_all ds ≤ n → deepest_of_all (all_placed w Ps ds) ≤ n
  all-within no_derivations n w Ps h l = l
  all-within (and_derivation d ds) n w [] h l = l
  all-within (and_derivation d ds) n w (P ∷ Ps) h l =
      omega (arith, placed-within d n (behind_binder P.0 w) P.1 (within-binder n w P.0 h) (omega (arith, l)), all-within ds n w Ps h (omega (arith, l)))

-- ---- imports

shallow-append : (I J : List Named) → AreShallow I → AreShallow J → AreShallow (I ++ J)
shallow-append [] J h k = k
shallow-append (x ∷ I) J h k = (h.0, shallow-append I J h.1 k)

shallow-reverse : (I : List Named) → AreShallow I → AreShallow (reverse I)
shallow-reverse [] h = tt
shallow-reverse (x ∷ I) h = subst AreShallow (sym (reverse-append (x ∷ []) I)) (shallow-append (reverse I) (x ∷ []) (shallow-reverse I h.1) (h.0, tt))

wanted_at-within : (o : Option PlainType) (A T : PlainType) → type_nesting A ≤ 256 → wanted_at o A ≡ Some T → type_nesting T ≤ most_type_nesting
wanted_at-within None A T l e = absurd cc
wanted_at-within (Some B) A T l e = by (same_type B A) e
  where
    by : (b : Bool) → cond b None (Some A) ≡ Some T → type_nesting T ≤ most_type_nesting
    by true e = absurd cc
    by false e = let k : A ≡ T = cc in omega (arith, l, ap type_nesting k)

wanted-within : (I E : List Named) → AreShallow I → AreWantedWithin most_type_nesting (wanted I E)
wanted-within [] E h k T e = absurd cc
wanted-within (x ∷ I) E h zero T e = wanted_at-within (type_named x.name E) x.type T h.0 e
wanted-within (x ∷ I) E h (suc k) T e = wanted-within I E h.1 k T e

-- ---- units

-- each unit's derivation keeps its limits, and its imports' types are shallow
abbrev pub AreShallowUnits : List PlainUnit → Type 0
AreShallowUnits [] = Unit {0}
AreShallowUnits (u ∷ units) = IsTyped u × AreShallow u.source.imports × AreShallowUnits units

unit-within : (E : List Named) (u : PlainUnit) → IsTyped u → AreShallow u.source.imports → deepest_type (placed_unit E u) ≤ most_type_nesting
unit-within E u t h =
    placed-within u.derivation most_type_nesting (wanted (reverse u.source.imports) E) u.source.phrase
    (wanted-within (reverse u.source.imports) E (shallow-reverse u.source.imports h)) t.limits.types

units-within : (units : List PlainUnit) (E : List Named) → AreShallowUnits units → deepest_type (units_derivation E units) ≤ most_type_nesting
units-within [] E h = omega arith
units-within (u ∷ []) E h = unit-within E u h.0 h.1
units-within (u ∷ v ∷ more) E h = omega (arith, unit-within E u h.0 h.1, units-within (v ∷ more) (u.source.own ∷ E) h.2)

-- no type in the composed derivation is deeper than its limit
pub composed-within : (units : List PlainUnit) → AreShallowUnits units → deepest_type (composed_derivation units) ≤ most_type_nesting
composed-within units h = omega (arith, units-within units [] h)
