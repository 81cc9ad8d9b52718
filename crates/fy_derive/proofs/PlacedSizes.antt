-- How large a placed derivation is.
use Rattle.std.proofs.Common.{ℕ, ◌+◌, ◌*◌, ◌≤◌, ◌≡◌, List, [], ◌∷◌, replicate, Option, Some, None, refl, sym, subst, arith}
use Rattle.fy_base.specs.declared.data.Place.{Place}
use Rattle.fy_types.specs.Types.{PlainType}
use Rattle.fy_phrase.specs.Tree.{Tree, var}
use Rattle.fy_derive.specs.Derivations.{PlainDerivation, PlainDerivations, by_ns, sub, meets, alt, left, right, rule, no_derivations, and_derivation, count, nodes, all_nodes, nesting, all_nesting}
use Rattle.fy_derive.specs.Rules.{nothing, Premise, premises}
use Rattle.fy_derive.specs.Placed.{Wanted, raised, raised_use, behind, behind_binder, those_of, body_of, left_of, right_of, placed, all_placed, PlacedIsSmall}

use-nodes : (w : Wanted) (p : Tree) (d : PlainDerivation) → nodes (raised_use w p d) ≤ nodes d + 1
use-nodes w (var k at) d = by (w k)
  where
    by : (o : Option PlainType) → nodes (raised o d) ≤ nodes d + 1
    by None = omega arith
    by (Some T) = omega arith
use-nodes w p d = omega arith

mutual
  placed-few : (d : PlainDerivation) (w : Wanted) (p : Tree) → nodes (placed w p d) ≤ 2 * nodes d
  placed-few by_ns w p = omega arith
  placed-few (sub B d) w p = omega (arith, placed-few d w p)
  placed-few (meets ds) w p = omega (arith, all-few ds w (replicate (count ds) (nothing, p)))
  placed-few (alt i d) w p = omega (arith, placed-few d (behind w) (body_of p))
  placed-few (left d) w p = omega (arith, placed-few d w (left_of p))
  placed-few (right d) w p = omega (arith, placed-few d w (right_of p))
  placed-few (rule ds) w p = omega (arith, all-few ds w (those_of (premises p)), use-nodes w p (rule (all_placed w (those_of (premises p)) ds)))

  all-few : (ds : PlainDerivations) (w : Wanted) (Ps : List Premise) → all_nodes (all_placed w Ps ds) ≤ 2 * all_nodes ds
  all-few no_derivations w Ps = omega arith
  all-few (and_derivation d ds) w [] = omega arith
  all-few (and_derivation d ds) w (P ∷ Ps) = omega (arith, placed-few d (behind_binder P.0 w) P.1, all-few ds w Ps)

-- only a use, which nests one, gains a level, and an application of a rule to more premises than it has
leaf-nesting : (w : Wanted) (p : Tree) (es : PlainDerivations) → nesting (raised_use w p (rule es)) ≤ nesting (rule es) + 1
leaf-nesting w (var k at) es = by (w k)
  where
    by : (o : Option PlainType) → nesting (raised o (rule es)) ≤ nesting (rule es) + 1
    by None = omega arith
    by (Some T) = omega arith
leaf-nesting w p es = omega arith

no-premise : (k : ℕ) (at : Place) (w : Wanted) (ds : PlainDerivations) → all_placed w (those_of (premises (var k at))) ds ≡ ds
no-premise k at w no_derivations = refl
no-premise k at w (and_derivation d ds) = refl

mutual
  placed-flat : (d : PlainDerivation) (w : Wanted) (p : Tree) → nesting (placed w p d) ≤ nesting d + 1
  placed-flat by_ns w p = omega arith
  placed-flat (sub B d) w p = omega (arith, placed-flat d w p)
  placed-flat (meets ds) w p = omega (arith, all-flat ds w (replicate (count ds) (nothing, p)))
  placed-flat (alt i d) w p = omega (arith, placed-flat d (behind w) (body_of p))
  placed-flat (left d) w p = omega (arith, placed-flat d w (left_of p))
  placed-flat (right d) w p = omega (arith, placed-flat d w (right_of p))
  placed-flat (rule ds) w (var k at) =
      subst (λ es. nesting (raised_use w (var k at) (rule es)) ≤ nesting (rule ds) + 1) (sym (no-premise k at w ds)) (leaf-nesting w (var k at) ds)
  placed-flat (rule ds) w p = omega (arith, all-flat ds w (those_of (premises p)))

  all-flat : (ds : PlainDerivations) (w : Wanted) (Ps : List Premise) → all_nesting (all_placed w Ps ds) ≤ all_nesting ds + 1
  all-flat no_derivations w Ps = omega arith
  all-flat (and_derivation d ds) w [] = omega arith
  all-flat (and_derivation d ds) w (P ∷ Ps) = omega (arith, placed-flat d (behind_binder P.0 w) P.1, all-flat ds w Ps)

pub placed-small : PlacedIsSmall
placed-small = record { few = λ w p d. placed-few d w p; flat = λ w p d. placed-flat d w p }
