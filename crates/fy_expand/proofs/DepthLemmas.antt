-- Each binder of a program's core phrase carries the number of binders around it.
use Rattle.std.proofs.Common.{ℕ, zero, suc, ◌+◌, ◌/◌, ◌<◌, ◌≤◌, List, [], ◌∷◌, length, take, drop, Option, Some, None, refl, arith}
use Rattle.fy_base.specs.Outside.{Bytes}
use Rattle.fy_base.specs.declared.data.Place.{Place}
use Rattle.fy_syntax.specs.declared.surface.Prefixed.{Prefixed}
use Rattle.fy_syntax.specs.Trees.{Defs, Links}
use Rattle.fy_syntax.specs.Trees as written
use Rattle.fy_phrase.specs.Sizes.{depth, all_depth}
use Rattle.fy_phrase.specs.Tree.{Tree, Trees, var, lit, unary, binary, cond, case, lam, app, field, sel, merge, let_in, rec, skip, seq, assign, while_do, forever, new, cells, escape, accept, put, read, mark, no_trees, and_tree}
use Rattle.fy_expand.specs.declared.frame.Standing.{Standing}
use Rattle.fy_expand.specs.declared.frame.Standing.TheVariants.{Variable, Member}
use Rattle.fy_expand.specs.Scope.{Scope, behind, under, under_defs, under_members, with_type, depth_under, program_scope}
use Rattle.fy_expand.specs.Front.{front}
use Rattle.fy_phrase.specs.Sizes.{nesting, all_nesting}
use Rattle.fy_expand.specs.Core.{core, linked, applied, items_of, merged_all, merged, lets, all_fields, with_fields, parts_of, prefixed, selected, used, Item, one_after, no_item, by_halves, letters, text_parts, cell_maker, in_prelude}
use Rattle.fy_phrase.specs.WellMade.{HasDepthsUnder, HaveDepthsUnder, HasDepths}

-- a name where it is used
depths-used : (d x : ℕ) (at : Place) (o : Option Standing) → HasDepthsUnder d (used d x at o)
depths-used d x at None = tt
depths-used d x at (Some (Variable b)) = tt
depths-used d x at (Some (Member b)) = tt

depths-prefixed : (n : ℕ) (operators : List Prefixed) (p : Tree) → HasDepthsUnder n p → HasDepthsUnder n (prefixed operators p)
depths-prefixed n [] p h = h
depths-prefixed n (o ∷ operators) p h = depths-prefixed n operators p h

depths-selected : (n : ℕ) (at : Place) (p : Tree) (names : List ℕ) → HasDepthsUnder n p → HasDepthsUnder n (selected at p names)
depths-selected n at p [] h = h
depths-selected n at p (i ∷ names) h = depths-selected n at (sel p i at) names h

-- items of a sequence
abbrev HaveDepthItems : ℕ → List Item → Type 0
HaveDepthItems n [] = Unit {0}
HaveDepthItems n (item ∷ more) = HasDepthsUnder n item.phrase × HaveDepthItems n more

depths-take : (n k : ℕ) (items : List Item) → HaveDepthItems n items → HaveDepthItems n (take k items)
depths-take n zero items h = tt
depths-take n (suc k) [] h = tt
depths-take n (suc k) (item ∷ more) h = (h.0, depths-take n k more h.1)

depths-drop : (n k : ℕ) (items : List Item) → HaveDepthItems n items → HaveDepthItems n (drop k items)
depths-drop n zero items h = h
depths-drop n (suc k) [] h = tt
depths-drop n (suc k) (item ∷ more) h = depths-drop n k more h.1

depths-halves : (n : ℕ) (at : Place) (fuel : ℕ) (items : List Item) → HaveDepthItems n items → HasDepthsUnder n (by_halves one_after (no_item at) fuel items).phrase
depths-halves n at fuel [] h = tt
depths-halves n at fuel (x ∷ []) h = h.0
depths-halves n at zero (x ∷ y ∷ more) h = h.0
depths-halves n at (suc fuel) (x ∷ y ∷ more) h =
    let items = x ∷ y ∷ more in
    let half = length items / 2 in
    (depths-halves n at fuel (take half items) (depths-take n half items h), depths-halves n at fuel (drop half items) (depths-drop n half items h))

depths-letters : (n : ℕ) (at : Place) (bytes : Bytes) → HaveDepthsUnder n (letters at bytes)
depths-letters n at [] = tt
depths-letters n at (byte ∷ bytes) = (tt, depths-letters n at bytes)

depths-text : (n : ℕ) (at : Place) (bytes : Bytes) → HaveDepthsUnder n (text_parts at bytes)
depths-text n at [] = (tt, tt)
depths-text n at (byte ∷ bytes) = depths-letters n at (byte ∷ bytes)

mutual
  depths-core : (s : Scope) (p : written.Tree) → HasDepthsUnder s.depth (core s p)
  depths-core s (written.Tree.merge members at) = depths-merged_all s at members
  depths-core s (written.Tree.sequence items at) = depths-halves s.depth at (length (items_of s items)) (items_of s items) (depths-items s items)
  depths-core s (written.Tree.lam x alternatives p at) = (refl, depths-core (under x s) p)
  depths-core s (written.Tree.let_in defs p at) = depths-lets s at defs (core (under_defs defs s) p) (depths-core (under_defs defs s) p)
  depths-core s (written.Tree.letrec decls defs in_at p at) =
      (refl, (refl, depths-all_fields (under_members decls s) at defs), depths-core (under_members decls s) p)
  depths-core s (written.Tree.let_type x a p at) = depths-core (with_type x a s) p
  depths-core s (written.Tree.new x kind p q at) = (refl, depths-core s p, depths-core (under x s) q)
  depths-core s (written.Tree.escape x p at) = (refl, depths-core (under x s) p)
  depths-core s (written.Tree.accept x kind p at) = (refl, depths-core (under x s) p)
  depths-core s (written.Tree.cond b p q at) = (depths-core s b, depths-core s p, depths-core s q)
  depths-core s (written.Tree.while_do b p at) = (depths-core s b, depths-core s p)
  depths-core s (written.Tree.loop p at) = depths-core s p
  depths-core s (written.Tree.field i p at) = depths-core s p
  depths-core s (written.Tree.assign p becomes_at q at) = (depths-core s p, depths-core s q)
  depths-core s (written.Tree.chain p links at) = depths-linked s (core s p) links (depths-core s p)
  depths-core s (written.Tree.prefixed operators p at) = depths-prefixed s.depth operators (core s p) (depths-core s p)
  depths-core s (written.Tree.apply p arguments at) = depths-applied s at (core s p) arguments (depths-core s p)
  depths-core s (written.Tree.select p names at) = depths-selected s.depth at (core s p) names (depths-core s p)
  depths-core s (written.Tree.ident x at) = depths-used s.depth x at (s.phrases x)
  depths-core s (written.Tree.number v at) = tt
  depths-core s (written.Tree.letter c at) = tt
  depths-core s (written.Tree.string bytes at) = ((refl, (tt, depths-text (suc s.depth) at bytes)), tt)
  depths-core s (written.Tree.truth b at) = tt
  depths-core s (written.Tree.skip at) = tt
  depths-core s (written.Tree.group p at) = depths-core s p
  depths-core s (written.Tree.seq_of parts at) = ((refl, (tt, depths-parts (behind s) parts)), tt)

  depths-linked : (s : Scope) (left : Tree) (links : Links) → HasDepthsUnder s.depth left → HasDepthsUnder s.depth (linked s left links)
  depths-linked s left Links.no_links k = k
  depths-linked s left (Links.and_link op at p more) k = depths-linked s (binary op left (core s p) at) more (k, depths-core s p)

  depths-applied : (s : Scope) (at : Place) (left : Tree) (arguments : written.Trees) → HasDepthsUnder s.depth left → HasDepthsUnder s.depth (applied s at left arguments)
  depths-applied s at left written.Trees.no_trees k = k
  depths-applied s at left (written.Trees.and_tree p more) k = depths-applied s at (app left (core s p) at) more (k, depths-core s p)

  depths-items : (s : Scope) (items : written.Trees) → HaveDepthItems s.depth (items_of s items)
  depths-items s written.Trees.no_trees = tt
  depths-items s (written.Trees.and_tree p more) = (depths-core s p, depths-items s more)

  depths-merged_all : (s : Scope) (at : Place) (members : written.Trees) → HasDepthsUnder s.depth (merged_all s at members)
  depths-merged_all s at written.Trees.no_trees = tt
  depths-merged_all s at (written.Trees.and_tree p more) = depths-merged s at (core s p) more (depths-core s p)

  depths-merged : (s : Scope) (at : Place) (left : Tree) (members : written.Trees) → HasDepthsUnder s.depth left → HasDepthsUnder s.depth (merged s at left members)
  depths-merged s at left written.Trees.no_trees k = k
  depths-merged s at left (written.Trees.and_tree p more) k = depths-merged s at (merge left (core s p) at) more (k, depths-core s p)

  depths-lets : (s : Scope) (at : Place) (defs : Defs) (body : Tree) → HasDepthsUnder (depth_under s.depth defs) body → HasDepthsUnder s.depth (lets s at defs body)
  depths-lets s at Defs.no_defs body k = k
  depths-lets s at (Defs.and_def x here p more) body k = (refl, depths-core s p, depths-lets (behind s) at more body k)

  depths-all_fields : (s : Scope) (at : Place) (defs : Defs) → HasDepthsUnder s.depth (all_fields s at defs)
  depths-all_fields s at Defs.no_defs = tt
  depths-all_fields s at (Defs.and_def f here p more) = depths-with_fields s here (field f (core s p) here) more (depths-core s p)

  depths-with_fields : (s : Scope) (at : Place) (left : Tree) (defs : Defs) → HasDepthsUnder s.depth left → HasDepthsUnder s.depth (with_fields s at left defs)
  depths-with_fields s at left Defs.no_defs k = k
  depths-with_fields s at left (Defs.and_def f here p more) k = depths-with_fields s at (merge left (field f (core s p) here) at) more (k, depths-core s p)

  depths-parts : (s : Scope) (parts : written.Trees) → HaveDepthsUnder s.depth (parts_of s parts)
  depths-parts s written.Trees.no_trees = tt
  depths-parts s (written.Trees.and_tree p more) = (depths-core s p, depths-parts s more)

-- the whole inside the prelude
pub depths-whole : (tree : written.Tree) → HasDepths (in_prelude (front tree) (core program_scope tree))
depths-whole tree =
    let body = depths-core program_scope tree in
    let maker : HasDepthsUnder 4 (cell_maker (front tree)) = (refl, (refl, (refl, tt, (tt, tt)))) in
    (refl, (refl, tt), (refl, (refl, tt), (refl, (refl, tt), (refl, (refl, tt), (refl, maker, body)))))

-- ---- depths are below the nesting

mutual
  pub depth-below : (n : ℕ) (p : Tree) → HasDepthsUnder n p → depth p < n + nesting p
  depth-below n (var k at) h = omega arith
  depth-below n (lit v at) h = omega arith
  depth-below n (unary op p at) h = let x = depth-below n p h in omega arith
  depth-below n (binary op p q at) h = let x = depth-below n p h.0 in let y = depth-below n q h.1 in omega arith
  depth-below n (cond b p q at) h = let x = depth-below n b h.0 in let y = depth-below n p h.1 in let z = depth-below n q h.2 in omega arith
  depth-below n (case e parts at) h = let x = depth-below n e h.0 in let y = depths-below n parts h.1 in omega arith
  depth-below n (lam d alternatives p at) h = let e = h.0 in let x = depth-below (suc n) p h.1 in omega arith
  depth-below n (app p q at) h = let x = depth-below n p h.0 in let y = depth-below n q h.1 in omega arith
  depth-below n (field i p at) h = let x = depth-below n p h in omega arith
  depth-below n (sel p i at) h = let x = depth-below n p h in omega arith
  depth-below n (merge p q at) h = let x = depth-below n p h.0 in let y = depth-below n q h.1 in omega arith
  depth-below n (let_in d p q at) h = let e = h.0 in let x = depth-below n p h.1 in let y = depth-below (suc n) q h.2 in omega arith
  depth-below n (rec d T p at) h = let e = h.0 in let x = depth-below (suc n) p h.1 in omega arith
  depth-below n (skip at) h = omega arith
  depth-below n (seq p q at) h = let x = depth-below n p h.0 in let y = depth-below n q h.1 in omega arith
  depth-below n (assign p q at) h = let x = depth-below n p h.0 in let y = depth-below n q h.1 in omega arith
  depth-below n (while_do b p at) h = let x = depth-below n b h.0 in let y = depth-below n p h.1 in omega arith
  depth-below n (forever p at) h = let x = depth-below n p h in omega arith
  depth-below n (new d D p q at) h = let e = h.0 in let x = depth-below n p h.1 in let y = depth-below (suc n) q h.2 in omega arith
  depth-below n (cells d p q at) h = let e = h.0 in let x = depth-below n p h.1 in let y = depth-below (suc n) q h.2 in omega arith
  depth-below n (escape d p at) h = let e = h.0 in let x = depth-below (suc n) p h.1 in omega arith
  depth-below n (accept d D p at) h = let e = h.0 in let x = depth-below (suc n) p h.1 in omega arith
  depth-below n (put kind p at) h = let x = depth-below n p h in omega arith
  depth-below n (read p at) h = let x = depth-below n p h in omega arith
  depth-below n (mark m at) h = omega arith

  pub depths-below : (n : ℕ) (parts : Trees) → HaveDepthsUnder n parts → all_depth parts ≤ n + all_nesting parts
  depths-below n no_trees h = omega arith
  depths-below n (and_tree p more) h = let x = depth-below n p h.0 in let y = depths-below n more h.1 in omega arith
