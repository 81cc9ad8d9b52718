-- Where a whole is shallow, so are its parts, with the binders around them.
use Rattle.std.proofs.Common.{ℕ, zero, suc, ◌+◌, ◌/◌, ◌≤◌, max, List, [], ◌∷◌, length, take, drop, arith, length-drop}
use Rattle.std.proofs.lemmas.List.{length-take}
use Rattle.fy_base.specs.declared.data.Place.{Place}
use Rattle.fy_syntax.specs.declared.surface.Prefixed.{Prefixed}
use Rattle.fy_syntax.specs.Trees.{Defs, Links}
use Rattle.fy_syntax.specs.Trees as written
use Rattle.fy_phrase.specs.Tree.{Tree, sel}
use Rattle.fy_expand.specs.Scope.{Scope, behind, depth_under, under_defs}
use Rattle.fy_expand.specs.Core.{core, linked, applied, lets, prefixed, selected, sequence, Item, one_after, no_item, by_halves}
use Rattle.fy_phrase.specs.Sizes.{nesting}
use Rattle.fy_expand.specs.Built.{IsShallow, items_nesting}
use Rattle.fy_expand.proofs.NestingLemmas.{nesting-linked, nesting-applied}

nesting-lets : (s : Scope) (at : Place) (defs : Defs) (body : Tree) → depth_under s.depth defs + nesting body ≤ s.depth + nesting (lets s at defs body)
nesting-lets s at Defs.no_defs body = omega arith
nesting-lets s at (Defs.and_def x here p more) body = let h = nesting-lets (behind s) at more body in omega arith

nesting-prefixed : (operators : List Prefixed) (p : Tree) → nesting p ≤ nesting (prefixed operators p)
nesting-prefixed [] p = omega arith
nesting-prefixed (o ∷ operators) p = let h = nesting-prefixed operators p in omega arith

nesting-selected : (at : Place) (p : Tree) (names : List ℕ) → nesting p ≤ nesting (selected at p names)
nesting-selected at p [] = omega arith
nesting-selected at p (i ∷ names) = let h = nesting-selected at (sel p i at) names in omega arith

items_nesting-split : (k : ℕ) (items : List Item) → items_nesting items ≤ max (items_nesting (take k items)) (items_nesting (drop k items))
items_nesting-split zero items = omega arith
items_nesting-split (suc k) [] = omega arith
items_nesting-split (suc k) (item ∷ more) = let h = items_nesting-split k more in omega arith

nesting-halves : (at : Place) (fuel : ℕ) (items : List Item) → length items ≤ fuel → items_nesting items ≤ nesting (by_halves one_after (no_item at) fuel items).phrase
nesting-halves at fuel [] h = omega arith
nesting-halves at fuel (x ∷ []) h = omega arith
nesting-halves at zero (x ∷ y ∷ more) h = absurd (omega arith)
nesting-halves at (suc fuel) (x ∷ y ∷ more) h =
    let items = x ∷ y ∷ more in
    let half = length items / 2 in
    let first = nesting-halves at fuel (take half items) (omega (arith, length-take half items)) in
    let rest = nesting-halves at fuel (drop half items) (omega (arith, length-drop half items)) in
    let split = items_nesting-split half items in
    omega arith

pub shallow-sequence : (s : Scope) (at : Place) (items : List Item) → IsShallow s (sequence at items) → s.depth + items_nesting items ≤ 1024
shallow-sequence s at items h = let k = nesting-halves at (length items) items (omega arith) in omega arith

pub shallow-lets : (s : Scope) (at : Place) (defs : Defs) (body : Tree) → IsShallow s (lets s at defs body) → depth_under s.depth defs + nesting body ≤ 1024
shallow-lets s at defs body h = let k = nesting-lets s at defs body in omega arith

pub shallow-prefixed : (s : Scope) (operators : List Prefixed) (p : Tree) → IsShallow s (prefixed operators p) → IsShallow s p
shallow-prefixed s operators p h = let k = nesting-prefixed operators p in record { bound = omega arith }

pub shallow-selected : (s : Scope) (at : Place) (p : Tree) (names : List ℕ) → IsShallow s (selected at p names) → IsShallow s p
shallow-selected s at p names h = let k = nesting-selected at p names in record { bound = omega arith }

pub shallow-linked : (s : Scope) (p : Tree) (links : Links) → IsShallow s (linked s p links) → IsShallow s p
shallow-linked s p links h = let k = nesting-linked s p links in record { bound = omega arith }

pub shallow-applied : (s : Scope) (at : Place) (p : Tree) (arguments : written.Trees) → IsShallow s (applied s at p arguments) → IsShallow s p
shallow-applied s at p arguments h = let k = nesting-applied s at p arguments in record { bound = omega arith }

-- the body of a `let`
pub shallow-let : (s : Scope) (at : Place) (defs : Defs) (body : written.Tree) → IsShallow s (lets s at defs (core (under_defs defs s) body)) → IsShallow (under_defs defs s) (core (under_defs defs s) body)
shallow-let s at defs body h = let k = shallow-lets s at defs (core (under_defs defs s) body) h in record { bound = omega arith }
