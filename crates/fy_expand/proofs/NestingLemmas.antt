-- The nesting of parts is below that of the whole.
use Rattle.std.proofs.Common.{◌≤◌, arith}
use Rattle.fy_base.specs.declared.data.Place.{Place}
use Rattle.fy_syntax.specs.Trees.{Defs, Links}
use Rattle.fy_syntax.specs.Trees as written
use Rattle.fy_phrase.specs.Tree.{Tree, binary, app, merge, field}
use Rattle.fy_expand.specs.Scope.{Scope}
use Rattle.fy_expand.specs.Core.{core, linked, applied, merged, with_fields}
use Rattle.fy_phrase.specs.Sizes.{nesting}

pub nesting-linked : (s : Scope) (p : Tree) (links : Links) → nesting p ≤ nesting (linked s p links)
nesting-linked s p Links.no_links = omega arith
nesting-linked s p (Links.and_link op at q more) = let h = nesting-linked s (binary op p (core s q) at) more in omega arith

pub nesting-applied : (s : Scope) (at : Place) (p : Tree) (arguments : written.Trees) → nesting p ≤ nesting (applied s at p arguments)
nesting-applied s at p written.Trees.no_trees = omega arith
nesting-applied s at p (written.Trees.and_tree q more) = let h = nesting-applied s at (app p (core s q) at) more in omega arith

pub nesting-merged : (s : Scope) (at : Place) (p : Tree) (members : written.Trees) → nesting p ≤ nesting (merged s at p members)
nesting-merged s at p written.Trees.no_trees = omega arith
nesting-merged s at p (written.Trees.and_tree q more) = let h = nesting-merged s at (merge p (core s q) at) more in omega arith

pub nesting-with_fields : (s : Scope) (at : Place) (p : Tree) (defs : Defs) → nesting p ≤ nesting (with_fields s at p defs)
nesting-with_fields s at p Defs.no_defs = omega arith
nesting-with_fields s at p (Defs.and_def f here q more) = let h = nesting-with_fields s at (merge p (field f (core s q) here) at) more in omega arith
