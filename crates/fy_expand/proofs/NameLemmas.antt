-- The names in a program's core phrase are those in the program, and the name `len`.
use Rattle.std.proofs.Common.{ℕ, zero, suc, ◌/◌, ◌==◌, if◌then◌else◌, Bool, true, false, List, [], ◌∷◌, length, take, drop, Option, Some, None}
use Rattle.fy_base.specs.Outside.{Bytes}
use Rattle.fy_base.specs.declared.data.Place.{Place}
use Rattle.fy_types.specs.declared.types.Atom.TheVariants as atom
use Rattle.fy_types.specs.Types.{PlainType, PlainTypes}
use Rattle.fy_types.specs.Subtyping.{both_of}
use Rattle.fy_types.specs.Fields.{AllFields, AllFieldsOf}
use Rattle.fy_syntax.specs.declared.surface.Prefixed.{Prefixed}
use Rattle.fy_syntax.specs.Trees.{TypeTree, TypeTrees, DeclTree, Defs, Links}
use Rattle.fy_syntax.specs.Trees as written
use Rattle.fy_syntax.specs.TreeNames.{AllListed, AllTypeNames, AllNamesOfTypes, AllNamesOfDecls, AllNamesOfDefs, AllNamesOfLinks}
use Rattle.fy_syntax.specs.TreeNames as of_tree
use Rattle.fy_phrase.specs.Tree.{Tree, Trees, binary, app, merge, field, sel}
use Rattle.fy_phrase.specs.PhraseNames.{AllNames, AllNamesOf}
use Rattle.fy_expand.specs.declared.frame.Standing.{Standing}
use Rattle.fy_expand.specs.declared.frame.Standing.TheVariants.{Variable, Member}
use Rattle.fy_expand.specs.Types.{with, named_type, fields, type_of, types_of, sequence_of, integer_variable, variable_sequence, predefined}
use Rattle.fy_expand.specs.Scope.{Scope, behind, under, under_defs, under_members, with_type, program_scope}
use Rattle.fy_expand.specs.Front.{front}
use Rattle.fy_expand.specs.Core.{core, linked, applied, items_of, merged_all, merged, lets, all_fields, with_fields, parts_of, prefixed, selected, used, Item, one_after, no_item, by_halves, letters, text_parts, indexed, trees_count, declared, meet_of, cell_maker, in_prelude}

-- ---- written types

-- the fields of each named type have the property
abbrev NamesHave : (ℕ → Type 0) → (ℕ → Option PlainType) → Type 0
NamesHave P types = (n : ℕ) → AllFields P (named_type (types n))

names-choice : (P : ℕ → Type 0) (b : Bool) (A : PlainType) (o : Option PlainType) → AllFields P A → AllFields P (named_type o) → AllFields P (named_type (if b then Some A else o))
names-choice P true A o h k = h
names-choice P false A o h k = k

names-with : (P : ℕ → Type 0) (x : ℕ) (A : PlainType) (types : ℕ → Option PlainType) → AllFields P A → NamesHave P types → NamesHave P (with x A types)
names-with P x A types h k = λ n. names-choice P (n == x) A (types n) h (k n)

names-sequence : (P : ℕ → Type 0) → P 0 → AllFields P variable_sequence
names-sequence P z = ((tt, (tt, (tt, tt))), ((z, tt), tt))

-- the predefined types have the field `len` alone
names-predefined : (P : ℕ → Type 0) → P 0 → NamesHave P predefined
names-predefined P z = λ n.
    let at : (b : Bool) (A : PlainType) (o : Option PlainType) → AllFields P A → AllFields P (named_type o) → AllFields P (named_type (if b then Some A else o)) = names-choice P in
    let seq : PlainType → PlainType = λ A. sequence_of A in
    let seven : Option PlainType = if n == 12 then Some variable_sequence else None in
    let six : Option PlainType = if n == 10 then Some (seq (PlainType.atom atom.Char)) else seven in
    let five : Option PlainType = if n == 9 then Some (seq (PlainType.atom atom.Bool)) else six in
    let four : Option PlainType = if n == 8 then Some (seq (PlainType.atom atom.Int)) else five in
    let three : Option PlainType = if n == 7 then Some (both_of (PlainType.atom atom.Char) (PlainType.atom atom.CharAcc)) else four in
    let two : Option PlainType = if n == 6 then Some (both_of (PlainType.atom atom.Bool) (PlainType.atom atom.BoolAcc)) else three in
    at (n == 5) integer_variable two (tt, (tt, tt))
    (at (n == 6) (both_of (PlainType.atom atom.Bool) (PlainType.atom atom.BoolAcc)) three (tt, (tt, tt))
    (at (n == 7) (both_of (PlainType.atom atom.Char) (PlainType.atom atom.CharAcc)) four (tt, (tt, tt))
    (at (n == 8) (seq (PlainType.atom atom.Int)) five ((tt, tt), ((z, tt), tt))
    (at (n == 9) (seq (PlainType.atom atom.Bool)) six ((tt, tt), ((z, tt), tt))
    (at (n == 10) (seq (PlainType.atom atom.Char)) seven ((tt, tt), ((z, tt), tt))
    (at (n == 12) variable_sequence None (names-sequence P z) tt))))))

names-fields : (P : ℕ → Type 0) (names : List ℕ) (A : PlainType) → AllListed P names → AllFields P A → AllFields P (fields names A)
names-fields P [] A h k = k
names-fields P (i ∷ names) A h k = (h.0, names-fields P names A h.1 k)

mutual
  names-type : (P : ℕ → Type 0) (types : ℕ → Option PlainType) → NamesHave P types → (a : TypeTree) → AllTypeNames P a → AllFields P (type_of types a)
  names-type P types g (TypeTree.arrow a b at) h = (names-type P types g a h.0, names-type P types g b h.1)
  names-type P types g (TypeTree.meet members at) h = names-types P types g members h
  names-type P types g (TypeTree.field names a at) h = names-fields P names (type_of types a) h.0 (names-type P types g a h.1)
  names-type P types g (TypeTree.ns at) h = tt
  names-type P types g (TypeTree.atom a at) h = tt
  names-type P types g (TypeTree.ident name at) h = g name
  names-type P types g (TypeTree.group a at) h = names-type P types g a h

  names-types : (P : ℕ → Type 0) (types : ℕ → Option PlainType) → NamesHave P types → (members : TypeTrees) → AllNamesOfTypes P members → AllFieldsOf P (types_of types members)
  names-types P types g TypeTrees.no_types h = tt
  names-types P types g (TypeTrees.and_type a more) h = (names-type P types g a h.0, names-types P types g more h.1)

names-declared : (P : ℕ → Type 0) (types : ℕ → Option PlainType) → NamesHave P types → (decls : List DeclTree) → AllNamesOfDecls P decls → AllFieldsOf P (declared types decls)
names-declared P types g [] h = tt
names-declared P types g (d ∷ more) h = ((h.0, names-type P types g d.type h.1), names-declared P types g more h.2)

names-meet_of : (P : ℕ → Type 0) (As : PlainTypes) → AllFieldsOf P As → AllFields P (meet_of As)
names-meet_of P PlainTypes.no_types h = tt
names-meet_of P (PlainTypes.and_type A PlainTypes.no_types) h = h.0
names-meet_of P (PlainTypes.and_type A (PlainTypes.and_type B more)) h = h

-- ---- phrases

names-used : (P : ℕ → Type 0) (d x : ℕ) (at : Place) (o : Option Standing) → P x → AllNames P (used d x at o)
names-used P d x at None h = tt
names-used P d x at (Some (Variable b)) h = tt
names-used P d x at (Some (Member b)) h = (h, tt)

names-prefixed : (P : ℕ → Type 0) (operators : List Prefixed) (p : Tree) → AllNames P p → AllNames P (prefixed operators p)
names-prefixed P [] p h = h
names-prefixed P (o ∷ operators) p h = names-prefixed P operators p h

names-selected : (P : ℕ → Type 0) (at : Place) (p : Tree) (names : List ℕ) → AllNames P p → AllListed P names → AllNames P (selected at p names)
names-selected P at p [] h k = h
names-selected P at p (i ∷ names) h k = names-selected P at (sel p i at) names (k.0, h) k.1

abbrev AreNamedItems : (ℕ → Type 0) → List Item → Type 0
AreNamedItems P [] = Unit {0}
AreNamedItems P (item ∷ more) = AllNames P item.phrase × AreNamedItems P more

names-take : (P : ℕ → Type 0) (k : ℕ) (items : List Item) → AreNamedItems P items → AreNamedItems P (take k items)
names-take P zero items h = tt
names-take P (suc k) [] h = tt
names-take P (suc k) (item ∷ more) h = (h.0, names-take P k more h.1)

names-drop : (P : ℕ → Type 0) (k : ℕ) (items : List Item) → AreNamedItems P items → AreNamedItems P (drop k items)
names-drop P zero items h = h
names-drop P (suc k) [] h = tt
names-drop P (suc k) (item ∷ more) h = names-drop P k more h.1

names-halves : (P : ℕ → Type 0) (at : Place) (fuel : ℕ) (items : List Item) → AreNamedItems P items → AllNames P (by_halves one_after (no_item at) fuel items).phrase
names-halves P at fuel [] h = tt
names-halves P at fuel (x ∷ []) h = h.0
names-halves P at zero (x ∷ y ∷ more) h = h.0
names-halves P at (suc fuel) (x ∷ y ∷ more) h =
    let items = x ∷ y ∷ more in
    let half = length items / 2 in
    (names-halves P at fuel (take half items) (names-take P half items h), names-halves P at fuel (drop half items) (names-drop P half items h))

names-letters : (P : ℕ → Type 0) (at : Place) (bytes : Bytes) → AllNamesOf P (letters at bytes)
names-letters P at [] = tt
names-letters P at (byte ∷ bytes) = (tt, names-letters P at bytes)

names-text : (P : ℕ → Type 0) (at : Place) (bytes : Bytes) → AllNamesOf P (text_parts at bytes)
names-text P at [] = (tt, tt)
names-text P at (byte ∷ bytes) = names-letters P at (byte ∷ bytes)

names-indexed : (P : ℕ → Type 0) → P 0 → (d : ℕ) (at : Place) (n : ℕ) (parts : Trees) → AllNamesOf P parts → AllNames P (indexed d at n parts)
names-indexed P z d at n parts h = (((tt, tt), (tt, h)), (z, tt))

mutual
  names-core : (P : ℕ → Type 0) → P 0 → (s : Scope) → NamesHave P s.types → (p : written.Tree) → of_tree.AllNames P p → AllNames P (core s p)
  names-core P z s g (written.Tree.merge members at) h = names-merged_all P z s g at members h
  names-core P z s g (written.Tree.sequence items at) h = names-halves P at (length (items_of s items)) (items_of s items) (names-items P z s g items h)
  names-core P z s g (written.Tree.lam x alternatives p at) h = (names-types P s.types g alternatives h.1, names-core P z (under x s) g p h.2)
  names-core P z s g (written.Tree.let_in defs p at) h =
      names-lets P z s g at defs (core (under_defs defs s) p) h.0 (names-core P z (under_defs defs s) g p h.1)
  names-core P z s g (written.Tree.letrec decls defs in_at p at) h =
      let inner = under_members decls s in
      ((names-meet_of P (declared s.types decls) (names-declared P s.types g decls h.0), names-all_fields P z inner g at defs h.1), names-core P z inner g p h.2)
  names-core P z s g (written.Tree.let_type x a p at) h =
      names-core P z (with_type x a s) (names-with P x (type_of s.types a) s.types (names-type P s.types g a h.1) g) p h.2
  names-core P z s g (written.Tree.new x kind p q at) h = (names-core P z s g p h.1, names-core P z (under x s) g q h.2)
  names-core P z s g (written.Tree.escape x p at) h = names-core P z (under x s) g p h.1
  names-core P z s g (written.Tree.accept x kind p at) h = names-core P z (under x s) g p h.1
  names-core P z s g (written.Tree.cond b p q at) h = (names-core P z s g b h.0, names-core P z s g p h.1, names-core P z s g q h.2)
  names-core P z s g (written.Tree.while_do b p at) h = (names-core P z s g b h.0, names-core P z s g p h.1)
  names-core P z s g (written.Tree.loop p at) h = names-core P z s g p h
  names-core P z s g (written.Tree.field i p at) h = (h.0, names-core P z s g p h.1)
  names-core P z s g (written.Tree.assign p becomes_at q at) h = (names-core P z s g p h.0, names-core P z s g q h.1)
  names-core P z s g (written.Tree.chain p links at) h = names-linked P z s g (core s p) links h.1 (names-core P z s g p h.0)
  names-core P z s g (written.Tree.prefixed operators p at) h = names-prefixed P operators (core s p) (names-core P z s g p h)
  names-core P z s g (written.Tree.apply p arguments at) h = names-applied P z s g at (core s p) arguments h.1 (names-core P z s g p h.0)
  names-core P z s g (written.Tree.select p names at) h = names-selected P at (core s p) names (names-core P z s g p h.0) h.1
  names-core P z s g (written.Tree.ident x at) h = names-used P s.depth x at (s.phrases x) h
  names-core P z s g (written.Tree.number v at) h = tt
  names-core P z s g (written.Tree.letter c at) h = tt
  names-core P z s g (written.Tree.string bytes at) h = names-indexed P z s.depth at (length bytes) (text_parts at bytes) (names-text P at bytes)
  names-core P z s g (written.Tree.truth b at) h = tt
  names-core P z s g (written.Tree.skip at) h = tt
  names-core P z s g (written.Tree.group p at) h = names-core P z s g p h
  names-core P z s g (written.Tree.seq_of parts at) h =
      names-indexed P z s.depth at (trees_count (parts_of (behind s) parts)) (parts_of (behind s) parts) (names-parts P z (behind s) g parts h)

  names-linked : (P : ℕ → Type 0) → P 0 → (s : Scope) → NamesHave P s.types → (left : Tree) (links : Links) → AllNamesOfLinks P links → AllNames P left → AllNames P (linked s left links)
  names-linked P z s g left Links.no_links h k = k
  names-linked P z s g left (Links.and_link op at p more) h k = names-linked P z s g (binary op left (core s p) at) more h.1 (k, names-core P z s g p h.0)

  names-applied : (P : ℕ → Type 0) → P 0 → (s : Scope) → NamesHave P s.types → (at : Place) (left : Tree) (arguments : written.Trees) → of_tree.AllNamesOf P arguments → AllNames P left → AllNames P (applied s at left arguments)
  names-applied P z s g at left written.Trees.no_trees h k = k
  names-applied P z s g at left (written.Trees.and_tree p more) h k = names-applied P z s g at (app left (core s p) at) more h.1 (k, names-core P z s g p h.0)

  names-items : (P : ℕ → Type 0) → P 0 → (s : Scope) → NamesHave P s.types → (items : written.Trees) → of_tree.AllNamesOf P items → AreNamedItems P (items_of s items)
  names-items P z s g written.Trees.no_trees h = tt
  names-items P z s g (written.Trees.and_tree p more) h = (names-core P z s g p h.0, names-items P z s g more h.1)

  names-merged_all : (P : ℕ → Type 0) → P 0 → (s : Scope) → NamesHave P s.types → (at : Place) (members : written.Trees) → of_tree.AllNamesOf P members → AllNames P (merged_all s at members)
  names-merged_all P z s g at written.Trees.no_trees h = tt
  names-merged_all P z s g at (written.Trees.and_tree p more) h = names-merged P z s g at (core s p) more h.1 (names-core P z s g p h.0)

  names-merged : (P : ℕ → Type 0) → P 0 → (s : Scope) → NamesHave P s.types → (at : Place) (left : Tree) (members : written.Trees) → of_tree.AllNamesOf P members → AllNames P left → AllNames P (merged s at left members)
  names-merged P z s g at left written.Trees.no_trees h k = k
  names-merged P z s g at left (written.Trees.and_tree p more) h k = names-merged P z s g at (merge left (core s p) at) more h.1 (k, names-core P z s g p h.0)

  names-lets : (P : ℕ → Type 0) → P 0 → (s : Scope) → NamesHave P s.types → (at : Place) (defs : Defs) (body : Tree) → AllNamesOfDefs P defs → AllNames P body → AllNames P (lets s at defs body)
  names-lets P z s g at Defs.no_defs body h k = k
  names-lets P z s g at (Defs.and_def x here p more) body h k = (names-core P z s g p h.1, names-lets P z (behind s) g at more body h.2 k)

  names-all_fields : (P : ℕ → Type 0) → P 0 → (s : Scope) → NamesHave P s.types → (at : Place) (defs : Defs) → AllNamesOfDefs P defs → AllNames P (all_fields s at defs)
  names-all_fields P z s g at Defs.no_defs h = tt
  names-all_fields P z s g at (Defs.and_def x here p more) h = names-with_fields P z s g here (field x (core s p) here) more h.2 (h.0, names-core P z s g p h.1)

  names-with_fields : (P : ℕ → Type 0) → P 0 → (s : Scope) → NamesHave P s.types → (at : Place) (left : Tree) (defs : Defs) → AllNamesOfDefs P defs → AllNames P left → AllNames P (with_fields s at left defs)
  names-with_fields P z s g at left Defs.no_defs h k = k
  names-with_fields P z s g at left (Defs.and_def x here p more) h k =
      names-with_fields P z s g at (merge left (field x (core s p) here) at) more h.2 (k, (h.0, names-core P z s g p h.1))

  names-parts : (P : ℕ → Type 0) → P 0 → (s : Scope) → NamesHave P s.types → (parts : written.Trees) → of_tree.AllNamesOf P parts → AllNamesOf P (parts_of s parts)
  names-parts P z s g written.Trees.no_trees h = tt
  names-parts P z s g (written.Trees.and_tree p more) h = (names-core P z s g p h.0, names-parts P z s g more h.1)

-- the whole inside the prelude
pub names-whole : (P : ℕ → Type 0) → P 0 → (tree : written.Tree) → of_tree.AllNames P tree → AllNames P (in_prelude (front tree) (core program_scope tree))
names-whole P z tree h =
    let body = names-core P z program_scope (names-predefined P z) tree h in
    let maker : AllNames P (cell_maker (front tree)) = ((tt, tt), (((names-sequence P z, tt), tt), (z, tt, (tt, tt)))) in
    (((tt, tt), tt), (((tt, tt), tt), (((tt, tt), tt), (((tt, tt), tt), (maker, body)))))
