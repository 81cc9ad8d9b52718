-- The core phrase of a program has no variable without its binder.
use Rattle.std.proofs.Common.{ℕ, zero, suc, ◌/◌, ◌<◌, ◌≤◌, ◌==◌, if◌then◌else◌, true, false, List, [], ◌∷◌, length, take, drop, Option, Some, None, arith}
use Rattle.fy_base.specs.Outside.{Bytes}
use Rattle.fy_base.specs.declared.data.Place.{Place}
use Rattle.fy_syntax.specs.declared.surface.Prefixed.{Prefixed}
use Rattle.fy_syntax.specs.Trees.{DeclTree, Defs, Links}
use Rattle.fy_syntax.specs.Trees as written
use Rattle.fy_phrase.specs.Tree.{Tree, binary, app, merge, field, sel}
use Rattle.fy_expand.specs.declared.frame.Standing.{Standing}
use Rattle.fy_expand.specs.declared.frame.Standing.TheVariants.{Variable, Member}
use Rattle.fy_expand.specs.Types.{with}
use Rattle.fy_expand.specs.Scope.{Scope, behind, under, under_defs, under_members, with_type, with_defs, with_members, depth_under, program_scope}
use Rattle.fy_expand.specs.Front.{front}
use Rattle.fy_expand.specs.Core.{core, linked, applied, items_of, merged_all, merged, lets, all_fields, with_fields, parts_of, prefixed, selected, used, Item, one_after, no_item, by_halves, letters, text_parts, in_prelude}
use Rattle.fy_phrase.specs.WellMade.{IsClosedUnder, AreClosedUnder, IsClosed}

-- the binder that a name stands for, where it stands for one, is among so many
abbrev IsBelow : ℕ → Option Standing → Type 0
IsBelow d None = Unit {0}
IsBelow d (Some (Variable b)) = b < d
IsBelow d (Some (Member b)) = b < d

IsBelow-more : (d e : ℕ) (o : Option Standing) → d ≤ e → IsBelow d o → IsBelow e o
IsBelow-more d e None h k = tt
IsBelow-more d e (Some (Variable b)) h k = omega arith
IsBelow-more d e (Some (Member b)) h k = omega arith

-- each name stands for one of the binders around
pub record IsBound (d : ℕ) (phrases : ℕ → Option Standing) : Type 0 where
  pub below : (n : ℕ) → IsBelow d (phrases n)

IsBelow-with : (d x n : ℕ) (new : Standing) (older : ℕ → Option Standing) → IsBelow d (Some new) → IsBelow d (older n) → IsBelow d (with x new older n)
IsBelow-with d x n new older h k =
    elim (n == x) as (λ b. IsBelow d (if b then Some new else older n)) [ true ↦ h | false ↦ k ]

IsBound-behind : (d : ℕ) (phrases : ℕ → Option Standing) → IsBound d phrases → IsBound (suc d) phrases
IsBound-behind d phrases h = record { below = λ n. IsBelow-more d (suc d) (phrases n) (omega arith) (h.below n) }

IsBound-under : (x d : ℕ) (phrases : ℕ → Option Standing) → IsBound d phrases → IsBound (suc d) (with x (Variable d) phrases)
IsBound-under x d phrases h =
    let fits : d < suc d = omega arith in
    record { below = λ n. IsBelow-with (suc d) x n (Variable d) phrases fits (IsBelow-more d (suc d) (phrases n) (omega arith) (h.below n)) }

depth_under-more : (d : ℕ) (defs : Defs) → d ≤ depth_under d defs
depth_under-more d Defs.no_defs = omega arith
depth_under-more d (Defs.and_def x at p more) = let e = depth_under-more (suc d) more in omega arith

IsBelow-defs : (d n : ℕ) (defs : Defs) (phrases : ℕ → Option Standing) → IsBelow d (phrases n) → IsBelow (depth_under d defs) (with_defs d defs phrases n)
IsBelow-defs d n Defs.no_defs phrases h = h
IsBelow-defs d n (Defs.and_def x at p more) phrases h =
    let deep = depth_under-more (suc d) more in
    let fits : d < depth_under (suc d) more = omega arith in
    IsBelow-with (depth_under (suc d) more) x n (Variable d) (with_defs (suc d) more phrases) fits
    (IsBelow-defs (suc d) n more phrases (IsBelow-more d (suc d) (phrases n) (omega arith) h))

IsBound-defs : (d : ℕ) (defs : Defs) (phrases : ℕ → Option Standing) → IsBound d phrases → IsBound (depth_under d defs) (with_defs d defs phrases)
IsBound-defs d defs phrases h = record { below = λ n. IsBelow-defs d n defs phrases (h.below n) }

IsBelow-members : (d n : ℕ) (decls : List DeclTree) (phrases : ℕ → Option Standing) → IsBelow d (phrases n) → IsBelow (suc d) (with_members d decls phrases n)
IsBelow-members d n [] phrases h = IsBelow-more d (suc d) (phrases n) (omega arith) h
IsBelow-members d n (decl ∷ more) phrases h =
    let fits : d < suc d = omega arith in
    IsBelow-with (suc d) decl.name n (Member d) (with_members d more phrases) fits (IsBelow-members d n more phrases h)

IsBound-members : (d : ℕ) (decls : List DeclTree) (phrases : ℕ → Option Standing) → IsBound d phrases → IsBound (suc d) (with_members d decls phrases)
IsBound-members d decls phrases h = record { below = λ n. IsBelow-members d n decls phrases (h.below n) }

-- a name where it is used
closed-used : (d x : ℕ) (at : Place) (o : Option Standing) → IsBelow d o → IsClosedUnder d (used d x at o)
closed-used d x at None h = tt
closed-used d x at (Some (Variable b)) h = omega arith
closed-used d x at (Some (Member b)) h = omega arith

closed-prefixed : (n : ℕ) (operators : List Prefixed) (p : Tree) → IsClosedUnder n p → IsClosedUnder n (prefixed operators p)
closed-prefixed n [] p h = h
closed-prefixed n (o ∷ operators) p h = closed-prefixed n operators p h

closed-selected : (n : ℕ) (at : Place) (p : Tree) (names : List ℕ) → IsClosedUnder n p → IsClosedUnder n (selected at p names)
closed-selected n at p [] h = h
closed-selected n at p (i ∷ names) h = closed-selected n at (sel p i at) names h

-- items of a sequence
abbrev AreClosedItems : ℕ → List Item → Type 0
AreClosedItems n [] = Unit {0}
AreClosedItems n (item ∷ more) = IsClosedUnder n item.phrase × AreClosedItems n more

closed-take : (n k : ℕ) (items : List Item) → AreClosedItems n items → AreClosedItems n (take k items)
closed-take n zero items h = tt
closed-take n (suc k) [] h = tt
closed-take n (suc k) (item ∷ more) h = (h.0, closed-take n k more h.1)

closed-drop : (n k : ℕ) (items : List Item) → AreClosedItems n items → AreClosedItems n (drop k items)
closed-drop n zero items h = h
closed-drop n (suc k) [] h = tt
closed-drop n (suc k) (item ∷ more) h = closed-drop n k more h.1

closed-halves : (n : ℕ) (at : Place) (fuel : ℕ) (items : List Item) → AreClosedItems n items → IsClosedUnder n (by_halves one_after (no_item at) fuel items).phrase
closed-halves n at fuel [] h = tt
closed-halves n at fuel (x ∷ []) h = h.0
closed-halves n at zero (x ∷ y ∷ more) h = h.0
closed-halves n at (suc fuel) (x ∷ y ∷ more) h =
    let items = x ∷ y ∷ more in
    let half = length items / 2 in
    (closed-halves n at fuel (take half items) (closed-take n half items h), closed-halves n at fuel (drop half items) (closed-drop n half items h))

closed-letters : (n : ℕ) (at : Place) (bytes : Bytes) → AreClosedUnder n (letters at bytes)
closed-letters n at [] = tt
closed-letters n at (byte ∷ bytes) = (tt, closed-letters n at bytes)

closed-text : (n : ℕ) (at : Place) (bytes : Bytes) → AreClosedUnder n (text_parts at bytes)
closed-text n at [] = (tt, tt)
closed-text n at (byte ∷ bytes) = closed-letters n at (byte ∷ bytes)

below_next : (n : ℕ) → 0 < suc n
below_next n = omega arith

below_second : (n : ℕ) → 1 < suc (suc n)
below_second n = omega arith

mutual
  closed-core : (s : Scope) (p : written.Tree) → IsBound s.depth s.phrases → IsClosedUnder s.depth (core s p)
  closed-core s (written.Tree.merge members at) h = closed-merged_all s at members h
  closed-core s (written.Tree.sequence items at) h = closed-halves s.depth at (length (items_of s items)) (items_of s items) (closed-items s items h)
  closed-core s (written.Tree.lam x alternatives p at) h = closed-core (under x s) p (IsBound-under x s.depth s.phrases h)
  closed-core s (written.Tree.let_in defs p at) h =
      closed-lets s at defs (core (under_defs defs s) p) h (closed-core (under_defs defs s) p (IsBound-defs s.depth defs s.phrases h))
  closed-core s (written.Tree.letrec decls defs in_at p at) h =
      (closed-all_fields (under_members decls s) at defs (IsBound-members s.depth decls s.phrases h), closed-core (under_members decls s) p (IsBound-members s.depth decls s.phrases h))
  closed-core s (written.Tree.let_type x a p at) h = closed-core (with_type x a s) p h
  closed-core s (written.Tree.new x kind p q at) h = (closed-core s p h, closed-core (under x s) q (IsBound-under x s.depth s.phrases h))
  closed-core s (written.Tree.escape x p at) h = closed-core (under x s) p (IsBound-under x s.depth s.phrases h)
  closed-core s (written.Tree.accept x kind p at) h = closed-core (under x s) p (IsBound-under x s.depth s.phrases h)
  closed-core s (written.Tree.cond b p q at) h = (closed-core s b h, closed-core s p h, closed-core s q h)
  closed-core s (written.Tree.while_do b p at) h = (closed-core s b h, closed-core s p h)
  closed-core s (written.Tree.loop p at) h = closed-core s p h
  closed-core s (written.Tree.field i p at) h = closed-core s p h
  closed-core s (written.Tree.assign p becomes_at q at) h = (closed-core s p h, closed-core s q h)
  closed-core s (written.Tree.chain p links at) h = closed-linked s (core s p) links h (closed-core s p h)
  closed-core s (written.Tree.prefixed operators p at) h = closed-prefixed s.depth operators (core s p) (closed-core s p h)
  closed-core s (written.Tree.apply p arguments at) h = closed-applied s at (core s p) arguments h (closed-core s p h)
  closed-core s (written.Tree.select p names at) h = closed-selected s.depth at (core s p) names (closed-core s p h)
  closed-core s (written.Tree.ident x at) h = closed-used s.depth x at (s.phrases x) (h.below x)
  closed-core s (written.Tree.number v at) h = tt
  closed-core s (written.Tree.letter c at) h = tt
  closed-core s (written.Tree.string bytes at) h = ((below_next s.depth, closed-text (suc s.depth) at bytes), tt)
  closed-core s (written.Tree.truth b at) h = tt
  closed-core s (written.Tree.skip at) h = tt
  closed-core s (written.Tree.group p at) h = closed-core s p h
  closed-core s (written.Tree.seq_of parts at) h = ((below_next s.depth, closed-parts (behind s) parts (IsBound-behind s.depth s.phrases h)), tt)

  closed-linked : (s : Scope) (left : Tree) (links : Links) → IsBound s.depth s.phrases → IsClosedUnder s.depth left → IsClosedUnder s.depth (linked s left links)
  closed-linked s left Links.no_links h k = k
  closed-linked s left (Links.and_link op at p more) h k = closed-linked s (binary op left (core s p) at) more h (k, closed-core s p h)

  closed-applied : (s : Scope) (at : Place) (left : Tree) (arguments : written.Trees) → IsBound s.depth s.phrases → IsClosedUnder s.depth left → IsClosedUnder s.depth (applied s at left arguments)
  closed-applied s at left written.Trees.no_trees h k = k
  closed-applied s at left (written.Trees.and_tree p more) h k = closed-applied s at (app left (core s p) at) more h (k, closed-core s p h)

  closed-items : (s : Scope) (items : written.Trees) → IsBound s.depth s.phrases → AreClosedItems s.depth (items_of s items)
  closed-items s written.Trees.no_trees h = tt
  closed-items s (written.Trees.and_tree p more) h = (closed-core s p h, closed-items s more h)

  closed-merged_all : (s : Scope) (at : Place) (members : written.Trees) → IsBound s.depth s.phrases → IsClosedUnder s.depth (merged_all s at members)
  closed-merged_all s at written.Trees.no_trees h = tt
  closed-merged_all s at (written.Trees.and_tree p more) h = closed-merged s at (core s p) more h (closed-core s p h)

  closed-merged : (s : Scope) (at : Place) (left : Tree) (members : written.Trees) → IsBound s.depth s.phrases → IsClosedUnder s.depth left → IsClosedUnder s.depth (merged s at left members)
  closed-merged s at left written.Trees.no_trees h k = k
  closed-merged s at left (written.Trees.and_tree p more) h k = closed-merged s at (merge left (core s p) at) more h (k, closed-core s p h)

  closed-lets : (s : Scope) (at : Place) (defs : Defs) (body : Tree) → IsBound s.depth s.phrases → IsClosedUnder (depth_under s.depth defs) body → IsClosedUnder s.depth (lets s at defs body)
  closed-lets s at Defs.no_defs body h k = k
  closed-lets s at (Defs.and_def x here p more) body h k = (closed-core s p h, closed-lets (behind s) at more body (IsBound-behind s.depth s.phrases h) k)

  closed-all_fields : (s : Scope) (at : Place) (defs : Defs) → IsBound s.depth s.phrases → IsClosedUnder s.depth (all_fields s at defs)
  closed-all_fields s at Defs.no_defs h = tt
  closed-all_fields s at (Defs.and_def f here p more) h = closed-with_fields s here (field f (core s p) here) more h (closed-core s p h)

  closed-with_fields : (s : Scope) (at : Place) (left : Tree) (defs : Defs) → IsBound s.depth s.phrases → IsClosedUnder s.depth left → IsClosedUnder s.depth (with_fields s at left defs)
  closed-with_fields s at left Defs.no_defs h k = k
  closed-with_fields s at left (Defs.and_def f here p more) h k = closed-with_fields s at (merge left (field f (core s p) here) at) more h (k, closed-core s p h)

  closed-parts : (s : Scope) (parts : written.Trees) → IsBound s.depth s.phrases → AreClosedUnder s.depth (parts_of s parts)
  closed-parts s written.Trees.no_trees h = tt
  closed-parts s (written.Trees.and_tree p more) h = (closed-core s p h, closed-parts s more h)

bound-program : IsBound program_scope.depth program_scope.phrases
bound-program =
    IsBound-under 11 4 _ (IsBound-under 4 3 _ (IsBound-under 3 2 _ (IsBound-under 2 1 _ (IsBound-under 1 0 (λ n. None) (record { below = λ n. tt })))))

-- the whole inside the prelude
pub closed-whole : (tree : written.Tree) → IsClosed (in_prelude (front tree) (core program_scope tree))
closed-whole tree =
    let body = closed-core program_scope tree bound-program in
    (below_next 0, (below_next 1, (below_next 2, (below_next 3, ((below_second 4, (below_second 5, below_next 6)), body)))))
