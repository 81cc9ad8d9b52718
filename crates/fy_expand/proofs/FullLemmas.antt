-- Each meet in the types that a program's core phrase is written with has two members or more.
use Rattle.std.proofs.Common.{ℕ, zero, suc, ◌/◌, ◌==◌, if◌then◌else◌, Bool, true, false, List, [], ◌∷◌, length, take, drop, Option, Some, None}
use Rattle.fy_base.specs.Outside.{Bytes}
use Rattle.fy_base.specs.declared.data.Place.{Place}
use Rattle.fy_types.specs.declared.types.Atom.TheVariants as atom
use Rattle.fy_types.specs.Types.{PlainType}
use Rattle.fy_types.specs.Subtyping.{both_of}
use Rattle.fy_types.specs.Fields.{AreSome, HasFullMeets, HaveFullMeets}
use Rattle.fy_syntax.specs.declared.surface.Prefixed.{Prefixed}
use Rattle.fy_syntax.specs.Trees.{TypeTree, TypeTrees, DeclTree, Defs, Links}
use Rattle.fy_syntax.specs.Trees as written
use Rattle.fy_phrase.specs.Tree.{Tree, Trees, binary, app, merge, field, sel}
use Rattle.fy_phrase.specs.PhraseNames.{HasFullTypes, HaveFullTypes}
use Rattle.fy_expand.specs.declared.frame.Standing.{Standing}
use Rattle.fy_expand.specs.declared.frame.Standing.TheVariants.{Variable, Member}
use Rattle.fy_expand.specs.Types.{with, named_type, fields, type_of, types_of, sequence_of, integer_variable, variable_sequence, predefined}
use Rattle.fy_expand.specs.Scope.{Scope, behind, under, under_defs, under_members, with_type, program_scope}
use Rattle.fy_expand.specs.Front.{front}
use Rattle.fy_expand.specs.Core.{core, linked, applied, items_of, merged_all, merged, lets, all_fields, with_fields, parts_of, prefixed, selected, used, Item, one_after, no_item, by_halves, letters, text_parts, indexed, trees_count, declared, meet_of, cell_maker, in_prelude}

-- ---- written types

-- two written types or more
abbrev AreSeveral : TypeTrees → Type 0
AreSeveral TypeTrees.no_types = ⊥
AreSeveral (TypeTrees.and_type a TypeTrees.no_types) = ⊥
AreSeveral (TypeTrees.and_type a (TypeTrees.and_type b more)) = Unit {0}

-- each written meet has two members or more
abbrev mutual
  pub IsFullType : TypeTree → Type 0
  IsFullType (TypeTree.arrow a b at) = IsFullType a × IsFullType b
  IsFullType (TypeTree.meet members at) = AreSeveral members × AreFullTypes members
  IsFullType (TypeTree.field names a at) = IsFullType a
  IsFullType (TypeTree.ns at) = Unit {0}
  IsFullType (TypeTree.atom a at) = Unit {0}
  IsFullType (TypeTree.ident name at) = Unit {0}
  IsFullType (TypeTree.group a at) = IsFullType a

  pub AreFullTypes : TypeTrees → Type 0
  AreFullTypes TypeTrees.no_types = Unit {0}
  AreFullTypes (TypeTrees.and_type a more) = IsFullType a × AreFullTypes more

abbrev pub AreFullDecls : List DeclTree → Type 0
AreFullDecls [] = Unit {0}
AreFullDecls (d ∷ more) = IsFullType d.type × AreFullDecls more

-- a declaration, and each is full
abbrev pub HasFullDecls : List DeclTree → Type 0
HasFullDecls [] = ⊥
HasFullDecls (d ∷ more) = IsFullType d.type × AreFullDecls more

-- each type that the program is written with is full
abbrev mutual
  pub IsFull : written.Tree → Type 0
  IsFull (written.Tree.merge members at) = AreFull members
  IsFull (written.Tree.sequence items at) = AreFull items
  IsFull (written.Tree.lam x alternatives p at) = AreFullTypes alternatives × IsFull p
  IsFull (written.Tree.let_in defs p at) = AreFullDefs defs × IsFull p
  IsFull (written.Tree.letrec decls defs in_at p at) = HasFullDecls decls × AreFullDefs defs × IsFull p
  IsFull (written.Tree.let_type x a p at) = IsFullType a × IsFull p
  IsFull (written.Tree.new x kind p q at) = IsFull p × IsFull q
  IsFull (written.Tree.escape x p at) = IsFull p
  IsFull (written.Tree.accept x kind p at) = IsFull p
  IsFull (written.Tree.cond b p q at) = IsFull b × IsFull p × IsFull q
  IsFull (written.Tree.while_do b p at) = IsFull b × IsFull p
  IsFull (written.Tree.loop p at) = IsFull p
  IsFull (written.Tree.field i p at) = IsFull p
  IsFull (written.Tree.assign p becomes_at q at) = IsFull p × IsFull q
  IsFull (written.Tree.chain p links at) = IsFull p × AreFullLinks links
  IsFull (written.Tree.prefixed operators p at) = IsFull p
  IsFull (written.Tree.apply p arguments at) = IsFull p × AreFull arguments
  IsFull (written.Tree.select p names at) = IsFull p
  IsFull (written.Tree.ident x at) = Unit {0}
  IsFull (written.Tree.number v at) = Unit {0}
  IsFull (written.Tree.letter c at) = Unit {0}
  IsFull (written.Tree.string bytes at) = Unit {0}
  IsFull (written.Tree.truth b at) = Unit {0}
  IsFull (written.Tree.skip at) = Unit {0}
  IsFull (written.Tree.group p at) = IsFull p
  IsFull (written.Tree.seq_of parts at) = AreFull parts

  pub AreFull : written.Trees → Type 0
  AreFull written.Trees.no_trees = Unit {0}
  AreFull (written.Trees.and_tree p more) = IsFull p × AreFull more

  pub AreFullDefs : Defs → Type 0
  AreFullDefs Defs.no_defs = Unit {0}
  AreFullDefs (Defs.and_def x at p more) = IsFull p × AreFullDefs more

  pub AreFullLinks : Links → Type 0
  AreFullLinks Links.no_links = Unit {0}
  AreFullLinks (Links.and_link op at p more) = IsFull p × AreFullLinks more

-- each named type is full
abbrev NamesAreFull : (ℕ → Option PlainType) → Type 0
NamesAreFull types = (n : ℕ) → HasFullMeets (named_type (types n))

full-choice : (b : Bool) (A : PlainType) (o : Option PlainType) → HasFullMeets A → HasFullMeets (named_type o) → HasFullMeets (named_type (if b then Some A else o))
full-choice true A o h k = h
full-choice false A o h k = k

full-with : (x : ℕ) (A : PlainType) (types : ℕ → Option PlainType) → HasFullMeets A → NamesAreFull types → NamesAreFull (with x A types)
full-with x A types h k = λ n. full-choice (n == x) A (types n) h (k n)

full-sequence : HasFullMeets variable_sequence
full-sequence = (tt, ((tt, (tt, (tt, (tt, tt)))), (tt, tt)))

full-predefined : NamesAreFull predefined
full-predefined = λ n.
    let seven : Option PlainType = if n == 12 then Some variable_sequence else None in
    let six : Option PlainType = if n == 10 then Some (sequence_of (PlainType.atom atom.Char)) else seven in
    let five : Option PlainType = if n == 9 then Some (sequence_of (PlainType.atom atom.Bool)) else six in
    let four : Option PlainType = if n == 8 then Some (sequence_of (PlainType.atom atom.Int)) else five in
    let three : Option PlainType = if n == 7 then Some (both_of (PlainType.atom atom.Char) (PlainType.atom atom.CharAcc)) else four in
    let two : Option PlainType = if n == 6 then Some (both_of (PlainType.atom atom.Bool) (PlainType.atom atom.BoolAcc)) else three in
    full-choice (n == 5) integer_variable two (tt, (tt, (tt, tt)))
    (full-choice (n == 6) (both_of (PlainType.atom atom.Bool) (PlainType.atom atom.BoolAcc)) three (tt, (tt, (tt, tt)))
    (full-choice (n == 7) (both_of (PlainType.atom atom.Char) (PlainType.atom atom.CharAcc)) four (tt, (tt, (tt, tt)))
    (full-choice (n == 8) (sequence_of (PlainType.atom atom.Int)) five (tt, ((tt, tt), (tt, tt)))
    (full-choice (n == 9) (sequence_of (PlainType.atom atom.Bool)) six (tt, ((tt, tt), (tt, tt)))
    (full-choice (n == 10) (sequence_of (PlainType.atom atom.Char)) seven (tt, ((tt, tt), (tt, tt)))
    (full-choice (n == 12) variable_sequence None full-sequence tt))))))

full-fields : (names : List ℕ) (A : PlainType) → HasFullMeets A → HasFullMeets (fields names A)
full-fields [] A h = h
full-fields (i ∷ names) A h = full-fields names A h

several-types : (types : ℕ → Option PlainType) (members : TypeTrees) → AreSeveral members → AreSome (types_of types members)
several-types types TypeTrees.no_types h = h
several-types types (TypeTrees.and_type a TypeTrees.no_types) h = h
several-types types (TypeTrees.and_type a (TypeTrees.and_type b more)) h = tt

mutual
  full-type : (types : ℕ → Option PlainType) → NamesAreFull types → (a : TypeTree) → IsFullType a → HasFullMeets (type_of types a)
  full-type types g (TypeTree.arrow a b at) h = (full-type types g a h.0, full-type types g b h.1)
  full-type types g (TypeTree.meet members at) h = (several-types types members h.0, full-types types g members h.1)
  full-type types g (TypeTree.field names a at) h = full-fields names (type_of types a) (full-type types g a h)
  full-type types g (TypeTree.ns at) h = tt
  full-type types g (TypeTree.atom a at) h = tt
  full-type types g (TypeTree.ident name at) h = g name
  full-type types g (TypeTree.group a at) h = full-type types g a h

  full-types : (types : ℕ → Option PlainType) → NamesAreFull types → (members : TypeTrees) → AreFullTypes members → HaveFullMeets (types_of types members)
  full-types types g TypeTrees.no_types h = tt
  full-types types g (TypeTrees.and_type a more) h = (full-type types g a h.0, full-types types g more h.1)

full-declared : (types : ℕ → Option PlainType) → NamesAreFull types → (decls : List DeclTree) → AreFullDecls decls → HaveFullMeets (declared types decls)
full-declared types g [] h = tt
full-declared types g (d ∷ more) h = (full-type types g d.type h.0, full-declared types g more h.1)

full-meet_of : (types : ℕ → Option PlainType) → NamesAreFull types → (decls : List DeclTree) → HasFullDecls decls → HasFullMeets (meet_of (declared types decls))
full-meet_of types g [] h = absurd h
full-meet_of types g (d ∷ []) h = full-type types g d.type h.0
full-meet_of types g (d ∷ e ∷ more) h = (tt, (full-type types g d.type h.0, full-declared types g (e ∷ more) h.1))

-- ---- phrases

full-used : (d x : ℕ) (at : Place) (o : Option Standing) → HasFullTypes (used d x at o)
full-used d x at None = tt
full-used d x at (Some (Variable b)) = tt
full-used d x at (Some (Member b)) = tt

full-prefixed : (operators : List Prefixed) (p : Tree) → HasFullTypes p → HasFullTypes (prefixed operators p)
full-prefixed [] p h = h
full-prefixed (o ∷ operators) p h = full-prefixed operators p h

full-selected : (at : Place) (p : Tree) (names : List ℕ) → HasFullTypes p → HasFullTypes (selected at p names)
full-selected at p [] h = h
full-selected at p (i ∷ names) h = full-selected at (sel p i at) names h

abbrev AreFullItems : List Item → Type 0
AreFullItems [] = Unit {0}
AreFullItems (item ∷ more) = HasFullTypes item.phrase × AreFullItems more

full-take : (k : ℕ) (items : List Item) → AreFullItems items → AreFullItems (take k items)
full-take zero items h = tt
full-take (suc k) [] h = tt
full-take (suc k) (item ∷ more) h = (h.0, full-take k more h.1)

full-drop : (k : ℕ) (items : List Item) → AreFullItems items → AreFullItems (drop k items)
full-drop zero items h = h
full-drop (suc k) [] h = tt
full-drop (suc k) (item ∷ more) h = full-drop k more h.1

full-halves : (at : Place) (fuel : ℕ) (items : List Item) → AreFullItems items → HasFullTypes (by_halves one_after (no_item at) fuel items).phrase
full-halves at fuel [] h = tt
full-halves at fuel (x ∷ []) h = h.0
full-halves at zero (x ∷ y ∷ more) h = h.0
full-halves at (suc fuel) (x ∷ y ∷ more) h =
    let items = x ∷ y ∷ more in
    let half = length items / 2 in
    (full-halves at fuel (take half items) (full-take half items h), full-halves at fuel (drop half items) (full-drop half items h))

full-letters : (at : Place) (bytes : Bytes) → HaveFullTypes (letters at bytes)
full-letters at [] = tt
full-letters at (byte ∷ bytes) = (tt, full-letters at bytes)

full-text : (at : Place) (bytes : Bytes) → HaveFullTypes (text_parts at bytes)
full-text at [] = (tt, tt)
full-text at (byte ∷ bytes) = full-letters at (byte ∷ bytes)

full-indexed : (d : ℕ) (at : Place) (n : ℕ) (parts : Trees) → HaveFullTypes parts → HasFullTypes (indexed d at n parts)
full-indexed d at n parts h = (((tt, tt), (tt, h)), tt)

mutual
  full-core : (s : Scope) → NamesAreFull s.types → (p : written.Tree) → IsFull p → HasFullTypes (core s p)
  full-core s g (written.Tree.merge members at) h = full-merged_all s g at members h
  full-core s g (written.Tree.sequence items at) h = full-halves at (length (items_of s items)) (items_of s items) (full-items s g items h)
  full-core s g (written.Tree.lam x alternatives p at) h = (full-types s.types g alternatives h.0, full-core (under x s) g p h.1)
  full-core s g (written.Tree.let_in defs p at) h =
      full-lets s g at defs (core (under_defs defs s) p) h.0 (full-core (under_defs defs s) g p h.1)
  full-core s g (written.Tree.letrec decls defs in_at p at) h =
      let inner = under_members decls s in
      ((full-meet_of s.types g decls h.0, full-all_fields inner g at defs h.1), full-core inner g p h.2)
  full-core s g (written.Tree.let_type x a p at) h =
      full-core (with_type x a s) (full-with x (type_of s.types a) s.types (full-type s.types g a h.0) g) p h.1
  full-core s g (written.Tree.new x kind p q at) h = (full-core s g p h.0, full-core (under x s) g q h.1)
  full-core s g (written.Tree.escape x p at) h = full-core (under x s) g p h
  full-core s g (written.Tree.accept x kind p at) h = full-core (under x s) g p h
  full-core s g (written.Tree.cond b p q at) h = (full-core s g b h.0, full-core s g p h.1, full-core s g q h.2)
  full-core s g (written.Tree.while_do b p at) h = (full-core s g b h.0, full-core s g p h.1)
  full-core s g (written.Tree.loop p at) h = full-core s g p h
  full-core s g (written.Tree.field i p at) h = full-core s g p h
  full-core s g (written.Tree.assign p becomes_at q at) h = (full-core s g p h.0, full-core s g q h.1)
  full-core s g (written.Tree.chain p links at) h = full-linked s g (core s p) links h.1 (full-core s g p h.0)
  full-core s g (written.Tree.prefixed operators p at) h = full-prefixed operators (core s p) (full-core s g p h)
  full-core s g (written.Tree.apply p arguments at) h = full-applied s g at (core s p) arguments h.1 (full-core s g p h.0)
  full-core s g (written.Tree.select p names at) h = full-selected at (core s p) names (full-core s g p h)
  full-core s g (written.Tree.ident x at) h = full-used s.depth x at (s.phrases x)
  full-core s g (written.Tree.number v at) h = tt
  full-core s g (written.Tree.letter c at) h = tt
  full-core s g (written.Tree.string bytes at) h = full-indexed s.depth at (length bytes) (text_parts at bytes) (full-text at bytes)
  full-core s g (written.Tree.truth b at) h = tt
  full-core s g (written.Tree.skip at) h = tt
  full-core s g (written.Tree.group p at) h = full-core s g p h
  full-core s g (written.Tree.seq_of parts at) h =
      full-indexed s.depth at (trees_count (parts_of (behind s) parts)) (parts_of (behind s) parts) (full-parts (behind s) g parts h)

  full-linked : (s : Scope) → NamesAreFull s.types → (left : Tree) (links : Links) → AreFullLinks links → HasFullTypes left → HasFullTypes (linked s left links)
  full-linked s g left Links.no_links h k = k
  full-linked s g left (Links.and_link op at p more) h k = full-linked s g (binary op left (core s p) at) more h.1 (k, full-core s g p h.0)

  full-applied : (s : Scope) → NamesAreFull s.types → (at : Place) (left : Tree) (arguments : written.Trees) → AreFull arguments → HasFullTypes left → HasFullTypes (applied s at left arguments)
  full-applied s g at left written.Trees.no_trees h k = k
  full-applied s g at left (written.Trees.and_tree p more) h k = full-applied s g at (app left (core s p) at) more h.1 (k, full-core s g p h.0)

  full-items : (s : Scope) → NamesAreFull s.types → (items : written.Trees) → AreFull items → AreFullItems (items_of s items)
  full-items s g written.Trees.no_trees h = tt
  full-items s g (written.Trees.and_tree p more) h = (full-core s g p h.0, full-items s g more h.1)

  full-merged_all : (s : Scope) → NamesAreFull s.types → (at : Place) (members : written.Trees) → AreFull members → HasFullTypes (merged_all s at members)
  full-merged_all s g at written.Trees.no_trees h = tt
  full-merged_all s g at (written.Trees.and_tree p more) h = full-merged s g at (core s p) more h.1 (full-core s g p h.0)

  full-merged : (s : Scope) → NamesAreFull s.types → (at : Place) (left : Tree) (members : written.Trees) → AreFull members → HasFullTypes left → HasFullTypes (merged s at left members)
  full-merged s g at left written.Trees.no_trees h k = k
  full-merged s g at left (written.Trees.and_tree p more) h k = full-merged s g at (merge left (core s p) at) more h.1 (k, full-core s g p h.0)

  full-lets : (s : Scope) → NamesAreFull s.types → (at : Place) (defs : Defs) (body : Tree) → AreFullDefs defs → HasFullTypes body → HasFullTypes (lets s at defs body)
  full-lets s g at Defs.no_defs body h k = k
  full-lets s g at (Defs.and_def x here p more) body h k = (full-core s g p h.0, full-lets (behind s) g at more body h.1 k)

  full-all_fields : (s : Scope) → NamesAreFull s.types → (at : Place) (defs : Defs) → AreFullDefs defs → HasFullTypes (all_fields s at defs)
  full-all_fields s g at Defs.no_defs h = tt
  full-all_fields s g at (Defs.and_def x here p more) h = full-with_fields s g here (field x (core s p) here) more h.1 (full-core s g p h.0)

  full-with_fields : (s : Scope) → NamesAreFull s.types → (at : Place) (left : Tree) (defs : Defs) → AreFullDefs defs → HasFullTypes left → HasFullTypes (with_fields s at left defs)
  full-with_fields s g at left Defs.no_defs h k = k
  full-with_fields s g at left (Defs.and_def x here p more) h k =
      full-with_fields s g at (merge left (field x (core s p) here) at) more h.1 (k, full-core s g p h.0)

  full-parts : (s : Scope) → NamesAreFull s.types → (parts : written.Trees) → AreFull parts → HaveFullTypes (parts_of s parts)
  full-parts s g written.Trees.no_trees h = tt
  full-parts s g (written.Trees.and_tree p more) h = (full-core s g p h.0, full-parts s g more h.1)

-- the whole inside the prelude
pub full-whole : (tree : written.Tree) → IsFull tree → HasFullTypes (in_prelude (front tree) (core program_scope tree))
full-whole tree h =
    let body = full-core program_scope full-predefined tree h in
    let maker : HasFullTypes (cell_maker (front tree)) = ((tt, tt), (((full-sequence, tt), tt), (tt, (tt, tt)))) in
    (((tt, tt), tt), (((tt, tt), tt), (((tt, tt), tt), (((tt, tt), tt), (maker, body)))))
