-- Phrases while they are built.
use Rattle.std.specs.Prelude.{ℕ, Bool, true, false, ◌+◌, ◌-◌, ◌≤◌, max, List, [], ◌∷◌, length, drop}
use Rattle.fy_base.specs.declared.data.Place.{Place}
use Rattle.fy_syntax.specs.Trees.{Trees, Defs}
use Rattle.fy_phrase.specs.Tree.{Tree, field, merge}
use Rattle.fy_phrase.specs.Reads.{reads}
use Rattle.fy_expand.specs.declared.build.Item as built
use Rattle.fy_expand.specs.Scope.{Scope}
use Rattle.fy_expand.specs.Core.{Item, core, by_halves, one_after, no_item, merged, with_fields}
use Rattle.fy_phrase.specs.Sizes.{nesting}

-- the phrase and the binders around it are so few that all depths are numbers of 32 bits
pub record IsShallow (s : Scope) (p : Tree) : Type 0 where
  pub bound : s.depth + nesting p ≤ 1024

abbrev pub item_of : built.Item → Item
item_of i = record { phrase = reads i.phrase; front = i.front }

-- a field beside what is merged so far, if it isn't the first; a merge stands at the first field
abbrev pub with_field : Bool → Item → Tree → Place → Item
with_field true merged p at = record { phrase = p; front = at }
with_field false merged p at = record { phrase = merge merged.phrase p merged.front; front = merged.front }

abbrev pub items_nesting : List Item → ℕ
items_nesting [] = 0
items_nesting (item ∷ more) = max (nesting item.phrase) (items_nesting more)

-- the sequence of the last so many items
abbrev pub last_joined : Place → ℕ → List Item → Item
last_joined at n items = by_halves one_after (no_item at) n (drop (length items - n) items)

-- the members of a merge from here on, behind what is merged so far, where the first may be the first of all
abbrev pub rest_merged : Bool → Scope → Place → Tree → Trees → Tree
rest_merged true s at left Trees.no_trees = left
rest_merged true s at left (Trees.and_tree p more) = merged s at (core s p) more
rest_merged false s at left members = merged s at left members

-- the fields of a `letrec` likewise
abbrev pub rest_fields : Bool → Scope → Place → Tree → Defs → Tree
rest_fields true s at left Defs.no_defs = left
rest_fields true s at left (Defs.and_def f here p more) = with_fields s here (field f (core s p) here) more
rest_fields false s at left defs = with_fields s at left defs
