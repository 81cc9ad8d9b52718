-- The core phrase that is meant by a written one: rules 1 to 9 of expansion. Where a fault stands, nothing is meant, and some phrase stands in.
use Rattle.std.specs.Prelude.{ℕ, zero, suc, ◌-◌, ◌/◌, pos, negsuc, Option, Some, None, List, [], ◌∷◌, length, take, drop}
use Rattle.fy_base.specs.Outside.{Bytes}
use Rattle.fy_base.specs.declared.data.Place.{Place}
use Rattle.fy_base.specs.declared.data.Datum.TheVariants as datum
use Rattle.fy_base.specs.declared.data.UnOp.TheVariants as unary_op
use Rattle.fy_base.specs.declared.data.PutKind.TheVariants as kind
use Rattle.fy_types.specs.declared.types.Atom.{Atom}
use Rattle.fy_types.specs.declared.types.Atom.TheVariants as atom
use Rattle.fy_types.specs.Types.{PlainType, PlainTypes}
use Rattle.fy_syntax.specs.declared.surface.Prefixed.{Prefixed}
use Rattle.fy_syntax.specs.Trees.{DeclTree, Defs, Links}
use Rattle.fy_syntax.specs.Trees as written
use Rattle.fy_phrase.specs.declared.phrase.DataTy.{DataTy}
use Rattle.fy_phrase.specs.declared.phrase.DataTy.TheVariants as data_type
use Rattle.fy_phrase.specs.Tree.{Tree, Trees, var, lit, unary, binary, cond, case, lam, app, field, sel, merge, let_in, rec, skip, seq, assign, while_do, forever, new, cells, escape, accept, put, read, no_trees, and_tree}
use Rattle.fy_expand.specs.Types.{type_of, types_of, variable_sequence}
use Rattle.fy_expand.specs.declared.frame.Standing.{Standing}
use Rattle.fy_expand.specs.declared.frame.Standing.TheVariants.{Variable, Member}
use Rattle.fy_expand.specs.Scope.{Scope, behind, under, under_defs, under_members, with_type}
use Rattle.fy_expand.specs.Front.{front}

-- the variable whose binder has depth d, under that many binders: variables count binders outward from 0
abbrev pub variable : ℕ → ℕ → Place → Tree
variable depth d at = var (depth - d - 1) at

-- a name where it is used, under that many binders
abbrev pub used : ℕ → ℕ → Place → Option Standing → Tree
used depth name at None = skip at
used depth name at (Some (Variable d)) = variable depth d at
used depth name at (Some (Member d)) = sel (variable depth d at) name at

-- a data type that is written; the grammar has no other than these three
abbrev pub data_of : Atom → DataTy
data_of atom.Bool = data_type.Bool
data_of atom.Char = data_type.Char
data_of _ = data_type.Int

-- `int` alone
abbrev pub one_type : Atom → PlainTypes
one_type a = PlainTypes.and_type (PlainType.atom a) PlainTypes.no_types

abbrev pub trees_count : Trees → ℕ
trees_count no_trees = 0
trees_count (and_tree p more) = suc (trees_count more)

-- rule 1: of several prefix operators the last one binds first; each stands at its own place
abbrev pub prefixed : List Prefixed → Tree → Tree
prefixed [] p = p
prefixed (o ∷ operators) p = unary o.op (prefixed operators p) o.at

-- rule 1: selections group to the left
abbrev pub selected : Place → Tree → List ℕ → Tree
selected at p [] = p
selected at p (i ∷ names) = selected at (sel p i at) names

-- an item of a sequence, with the place of its first token
pub record Item : Type 0 where
  pub phrase : Tree
  pub front : Place

-- things joined by halves: the first n / 2 of n, and the rest. The number is that of the things or more, and `none` is for no things.
abbrev pub by_halves : {A : Type 0} → (A → A → A) → A → ℕ → List A → A
by_halves join none n [] = none
by_halves join none n (x ∷ []) = x
by_halves join none zero (x ∷ y ∷ more) = x
by_halves join none (suc n) (x ∷ y ∷ more) =
    let half = length (x ∷ y ∷ more) / 2 in
    join (by_halves join none n (take half (x ∷ y ∷ more))) (by_halves join none n (drop half (x ∷ y ∷ more)))

-- one item and then another, at the place of the first item's first token
abbrev pub one_after : Item → Item → Item
one_after a b = record { phrase = seq a.phrase b.phrase a.front; front = a.front }

abbrev pub no_item : Place → Item
no_item at = record { phrase = skip at; front = at }

-- rule 2: a sequence of one item is that item; n items are the sequence of the first n / 2 and the sequence of the rest
abbrev pub sequence : Place → List Item → Tree
sequence at items = (by_halves one_after (no_item at) (length items) items).phrase

-- rule 5: the meet of the declared fields, or the one field
abbrev pub declared : (ℕ → Option PlainType) → List DeclTree → PlainTypes
declared types [] = PlainTypes.no_types
declared types (d ∷ more) = PlainTypes.and_type (PlainType.field d.name (type_of types d.type)) (declared types more)

abbrev pub meet_of : PlainTypes → PlainType
meet_of PlainTypes.no_types = PlainType.meet PlainTypes.no_types
meet_of (PlainTypes.and_type A PlainTypes.no_types) = A
meet_of (PlainTypes.and_type A (PlainTypes.and_type B more)) = PlainType.meet (PlainTypes.and_type A (PlainTypes.and_type B more))

-- rule 7: the parts by their index, under an abstraction at that depth, and their number as the field `len`, whose name has the number 0
abbrev pub indexed : ℕ → Place → ℕ → Trees → Tree
indexed d at n parts =
    merge (lam d (one_type atom.Int) (case (var 0 at) parts at) at) (field 0 (lit (datum.Int (pos n)) at) at) at

-- rule 7: the characters of a string
abbrev pub letters : Place → Bytes → Trees
letters at [] = no_trees
letters at (byte ∷ bytes) = and_tree (lit (datum.Char byte) at) (letters at bytes)

-- rule 7: the one part of the empty string faults at each index
abbrev pub text_parts : Place → Bytes → Trees
text_parts at [] = and_tree (unary unary_op.Chr (lit (datum.Int (negsuc 0)) at) at) no_trees
text_parts at (byte ∷ bytes) = letters at (byte ∷ bytes)

abbrev mutual
  -- the core phrase, by what the names stand for
  pub core : Scope → written.Tree → Tree
  core s (written.Tree.merge members at) = merged_all s at members
  core s (written.Tree.sequence items at) = sequence at (items_of s items)
  core s (written.Tree.lam x alternatives p at) = lam s.depth (types_of s.types alternatives) (core (under x s) p) at
  -- rule 4
  core s (written.Tree.let_in defs p at) = lets s at defs (core (under_defs defs s) p)
  -- rule 5
  core s (written.Tree.letrec decls defs in_at p at) =
      let_in s.depth (rec s.depth (meet_of (declared s.types decls)) (all_fields (under_members decls s) at defs) at) (core (under_members decls s) p) at
  -- rule 6
  core s (written.Tree.let_type x a p at) = core (with_type x a s) p
  core s (written.Tree.new x kind p q at) = new s.depth (data_of kind) (core s p) (core (under x s) q) at
  core s (written.Tree.escape x p at) = escape s.depth (core (under x s) p) at
  core s (written.Tree.accept x kind p at) = accept s.depth (data_of kind) (core (under x s) p) at
  core s (written.Tree.cond b p q at) = cond (core s b) (core s p) (core s q) at
  core s (written.Tree.while_do b p at) = while_do (core s b) (core s p) at
  core s (written.Tree.loop p at) = forever (core s p) at
  core s (written.Tree.field i p at) = field i (core s p) at
  core s (written.Tree.assign p becomes_at q at) = assign (core s p) (core s q) becomes_at
  -- rule 1
  core s (written.Tree.chain p links at) = linked s (core s p) links
  core s (written.Tree.prefixed operators p at) = prefixed operators (core s p)
  core s (written.Tree.apply p arguments at) = applied s at (core s p) arguments
  core s (written.Tree.select p names at) = selected at (core s p) names
  core s (written.Tree.ident x at) = used s.depth x at (s.phrases x)
  core s (written.Tree.number v at) = lit (datum.Int v) at
  core s (written.Tree.letter c at) = lit (datum.Char c) at
  -- rule 7
  core s (written.Tree.string bytes at) = indexed s.depth at (length bytes) (text_parts at bytes)
  core s (written.Tree.truth b at) = lit (datum.Bool b) at
  core s (written.Tree.skip at) = skip at
  core s (written.Tree.group p at) = core s p
  -- rule 7
  core s (written.Tree.seq_of parts at) = indexed s.depth at (trees_count (parts_of (behind s) parts)) (parts_of (behind s) parts)

  -- rule 1: operators of one level group to the left; each phrase stands at its operator
  pub linked : Scope → Tree → Links → Tree
  linked s left Links.no_links = left
  linked s left (Links.and_link op at p more) = linked s (binary op left (core s p) at) more

  -- rule 1: applications group to the left
  pub applied : Scope → Place → Tree → written.Trees → Tree
  applied s at left written.Trees.no_trees = left
  applied s at left (written.Trees.and_tree p more) = applied s at (app left (core s p) at) more

  -- rule 2: the items of a sequence
  pub items_of : Scope → written.Trees → List Item
  items_of s written.Trees.no_trees = []
  items_of s (written.Trees.and_tree p more) = record { phrase = core s p; front = front p } ∷ items_of s more

  -- rule 3: a merge groups to the left
  pub merged_all : Scope → Place → written.Trees → Tree
  merged_all s at written.Trees.no_trees = skip at
  merged_all s at (written.Trees.and_tree p more) = merged s at (core s p) more

  pub merged : Scope → Place → Tree → written.Trees → Tree
  merged s at left written.Trees.no_trees = left
  merged s at left (written.Trees.and_tree p more) = merged s at (merge left (core s p) at) more

  -- rule 4: each definition with the outer names, under the binders of those before it, around the body
  pub lets : Scope → Place → Defs → Tree → Tree
  lets s at Defs.no_defs body = body
  lets s at (Defs.and_def x here p more) body = let_in s.depth (core s p) (lets (behind s) at more body) at

  -- rule 5: the merge of the fields, or the one field; a merge stands at the first field
  pub all_fields : Scope → Place → Defs → Tree
  all_fields s at Defs.no_defs = skip at
  all_fields s at (Defs.and_def f here p more) = with_fields s here (field f (core s p) here) more

  pub with_fields : Scope → Place → Tree → Defs → Tree
  with_fields s at left Defs.no_defs = left
  with_fields s at left (Defs.and_def f here p more) = with_fields s at (merge left (field f (core s p) here) at) more

  -- rule 7: the parts of `seq`
  pub parts_of : Scope → written.Trees → Trees
  parts_of s written.Trees.no_trees = no_trees
  parts_of s (written.Trees.and_tree p more) = and_tree (core s p) (parts_of s more)

-- rule 9: one name of the prelude, defined at that depth by what it does with its argument of this type
abbrev pub provided : ℕ → Atom → Tree → Tree → Place → Tree
provided d a does p at = let_in d (lam d (one_type a) does at) p at

-- rule 9: what `newintseq` stands for: a procedure of a sequence of new cells, as many as a number says
abbrev pub cell_maker : Place → Tree
cell_maker at =
    lam 4 (one_type atom.Int)
    (lam 5 (PlainTypes.and_type (PlainType.arrow variable_sequence (PlainType.atom atom.Comm)) PlainTypes.no_types)
    (cells 6 (var 1 at) (app (var 1 at) (var 0 at) at) at) at) at

-- rule 9: the whole inside the prelude
abbrev pub in_prelude : Place → Tree → Tree
in_prelude at p =
    provided 0 atom.Int (put kind.Int (var 0 at) at)
    (provided 1 atom.Char (put kind.Char (var 0 at) at)
    (provided 2 atom.Bool (put kind.Bool (var 0 at) at)
    (provided 3 atom.IntAcc (read (var 0 at) at) (let_in 4 (cell_maker at) p at) at) at) at) at
