-- The recursions of a program without a fault are written with types that nest at most 258: meets of fields whose types nest at most 256.
use Rattle.std.proofs.Common.{◌≡◌, ℕ, zero, suc, ◌/◌, ◌≤◌, ◌==◌, ◌||◌, if◌then◌else◌, not, max, Bool, true, false, nat_lt, List, [], ◌∷◌, ◌++◌, length, take, drop, Option, Some, None, refl, sym, ap, subst, arith}
use Rattle.std.proofs.lemmas.Bool.{ltb-false}
use Rattle.fy_base.specs.Outside.{Bytes}
use Rattle.fy_base.specs.declared.data.Place.{Place}
use Rattle.fy_types.specs.Types.{PlainType, PlainTypes}
use Rattle.fy_types.specs.Nested.{type_nodes, type_nesting, types_nesting}
use Rattle.fy_syntax.specs.declared.surface.Prefixed.{Prefixed}
use Rattle.fy_syntax.specs.Trees.{TypeTree, DeclTree, Defs, Links}
use Rattle.fy_syntax.specs.Trees as written
use Rattle.fy_phrase.specs.CoreLimits.{deepest_written, deepest_of_parts}
use Rattle.fy_phrase.specs.Tree.{Tree, binary, app, merge, field, sel}
use Rattle.fy_expand.specs.declared.error.ExpandError.{ExpandError}
use Rattle.fy_expand.specs.declared.error.ExpandError.TheVariants.{DoubleName, LetrecName, TooManyAlternatives, TypeTooLarge}
use Rattle.fy_expand.specs.declared.frame.Standing.{Standing}
use Rattle.fy_expand.specs.declared.frame.Standing.TheVariants.{Variable, Member}
use Rattle.fy_expand.specs.Types.{with, type_of, type_front, is_large_type}
use Rattle.fy_expand.specs.Scope.{Scope, behind, under, under_defs, under_members, with_type, program_scope}
use Rattle.fy_expand.specs.Front.{front}
use Rattle.fy_expand.specs.Core.{core, linked, applied, items_of, merged_all, merged, lets, all_fields, with_fields, parts_of, prefixed, selected, used, Item, one_after, no_item, by_halves, letters, text_parts, declared, meet_of, cell_maker, in_prelude}
use Rattle.fy_expand.specs.Faults.{fault, all_faults, links_fault, members_fault, operands_fault, defs_fault, decls_fault, fields_fault, unknown, type_fault, types_fault, types_count, fault_if, is_among, operand_fault, is_operand, ◌before◌}
use Rattle.fy_expand.proofs.MadeLemmas.{before-left, before-right, first_fine, tested_fine, operand-inside}

-- ---- written types

no_fault_if : (b : Bool) (e : ExpandError) → None ≡ fault_if b e → b ≡ false
no_fault_if true e h = cc
no_fault_if false e h = refl

either-right : (a b : Bool) → (a || b) ≡ false → b ≡ false
either-right true b h = cc
either-right false b h = h

-- a type without a fault isn't too deep
nests-type : (types : ℕ → Option PlainType) (a : TypeTree) → None ≡ type_fault types a → type_nesting (type_of types a) ≤ 256
nests-type types a h =
    let A = type_of types a in
    let large = no_fault_if (is_large_type A) (TypeTooLarge (type_front a)) (before-right (unknown types a) (fault_if (is_large_type A) (TypeTooLarge (type_front a))) h) in
    ltb-false 256 (type_nesting A) (either-right (nat_lt 4096 (type_nodes A)) (nat_lt 256 (type_nesting A)) large)

nests-declared : (types : ℕ → Option PlainType) (seen : List ℕ) (decls : List DeclTree) → None ≡ decls_fault types seen decls → types_nesting (declared types decls) ≤ 257
nests-declared types seen [] h = omega arith
nests-declared types seen (d ∷ more) h =
    let k = tested_fine (fault_if (is_among seen d.name) (DoubleName d.at)) (type_fault types d.type) (decls_fault types (seen ++ d.name ∷ []) more) h in
    let first = nests-type types d.type k.0 in
    let rest = nests-declared types (seen ++ d.name ∷ []) more k.1 in
    omega arith

nests-meet_of : (As : PlainTypes) → types_nesting As ≤ 257 → type_nesting (meet_of As) ≤ 258
nests-meet_of PlainTypes.no_types h = omega arith
nests-meet_of (PlainTypes.and_type A PlainTypes.no_types) h = omega arith
nests-meet_of (PlainTypes.and_type A (PlainTypes.and_type B more)) h = omega arith

-- ---- phrases

abbrev IsWritten : Tree → Type 0
IsWritten p = deepest_written p ≤ 258

both : {a b : ℕ} → a ≤ 258 → b ≤ 258 → max a b ≤ 258
both h k = omega arith

three : {a b c : ℕ} → a ≤ 258 → b ≤ 258 → c ≤ 258 → max a (max b c) ≤ 258
three h k l = omega arith

nothing : 0 ≤ 258
nothing = omega arith

written-used : (d x : ℕ) (at : Place) (o : Option Standing) → IsWritten (used d x at o)
written-used d x at None = nothing
written-used d x at (Some (Variable b)) = nothing
written-used d x at (Some (Member b)) = nothing

written-prefixed : (operators : List Prefixed) (p : Tree) → IsWritten p → IsWritten (prefixed operators p)
written-prefixed [] p h = h
written-prefixed (o ∷ operators) p h = written-prefixed operators p h

written-selected : (at : Place) (p : Tree) (names : List ℕ) → IsWritten p → IsWritten (selected at p names)
written-selected at p [] h = h
written-selected at p (i ∷ names) h = written-selected at (sel p i at) names h

abbrev AreWrittenItems : List Item → Type 0
AreWrittenItems [] = Unit {0}
AreWrittenItems (item ∷ more) = IsWritten item.phrase × AreWrittenItems more

written-take : (k : ℕ) (items : List Item) → AreWrittenItems items → AreWrittenItems (take k items)
written-take zero items h = tt
written-take (suc k) [] h = tt
written-take (suc k) (item ∷ more) h = (h.0, written-take k more h.1)

written-drop : (k : ℕ) (items : List Item) → AreWrittenItems items → AreWrittenItems (drop k items)
written-drop zero items h = h
written-drop (suc k) [] h = tt
written-drop (suc k) (item ∷ more) h = written-drop k more h.1

written-halves : (at : Place) (fuel : ℕ) (items : List Item) → AreWrittenItems items → IsWritten (by_halves one_after (no_item at) fuel items).phrase
written-halves at fuel [] h = nothing
written-halves at fuel (x ∷ []) h = h.0
written-halves at zero (x ∷ y ∷ more) h = h.0
written-halves at (suc fuel) (x ∷ y ∷ more) h =
    let items = x ∷ y ∷ more in
    let half = length items / 2 in
    both (written-halves at fuel (take half items) (written-take half items h)) (written-halves at fuel (drop half items) (written-drop half items h))

written-letters : (at : Place) (bytes : Bytes) → deepest_of_parts (letters at bytes) ≤ 258
written-letters at [] = nothing
written-letters at (byte ∷ bytes) = both nothing (written-letters at bytes)

written-text : (at : Place) (bytes : Bytes) → deepest_of_parts (text_parts at bytes) ≤ 258
written-text at [] = both nothing nothing
written-text at (byte ∷ bytes) = written-letters at (byte ∷ bytes)

-- the faults are looked for in a scope t and the phrase is made in a scope s, whose names of types are the same
mutual
  written-core : (s t : Scope) (p : written.Tree) → s.types ≡ t.types → None ≡ fault t p → IsWritten (core s p)
  written-core s t (written.Tree.merge members at) e h = written-merged_all s t at members e h
  written-core s t (written.Tree.sequence items at) e h = written-halves at (length (items_of s items)) (items_of s items) (written-items s t items e h)
  written-core s t (written.Tree.lam x alternatives p at) e h =
      written-core (under x s) (under x t) p e (tested_fine (fault_if (nat_lt 16 (types_count alternatives)) (TooManyAlternatives at)) (types_fault t.types alternatives) (fault (under x t) p) h).1
  written-core s t (written.Tree.let_in defs p at) e h =
      let k = first_fine (defs_fault t [] defs) (fault (under_defs defs t) p) h in
      written-lets s t at defs (core (under_defs defs s) p) [] e k.0 (written-core (under_defs defs s) (under_defs defs t) p e k.1)
  written-core s t (written.Tree.letrec decls defs in_at p at) e h =
      let k = tested_fine (decls_fault t.types [] decls) (fields_fault (under_members decls t) in_at decls defs) (fault (under_members decls t) p) h in
      let first = before-left (decls_fault t.types [] decls) (fields_fault (under_members decls t) in_at decls defs before fault (under_members decls t) p) h in
      let type = nests-meet_of (declared s.types decls) (subst (λ types. types_nesting (declared types decls) ≤ 257) (sym e) (nests-declared t.types [] decls first)) in
      both (both type (written-all_fields (under_members decls s) (under_members decls t) at in_at decls defs e k.0)) (written-core (under_members decls s) (under_members decls t) p e k.1)
  written-core s t (written.Tree.let_type x a p at) e h =
      written-core (with_type x a s) (with_type x a t) p (ap (λ types. with x (type_of types a) types) e) (first_fine (type_fault t.types a) (fault (with_type x a t) p) h).1
  written-core s t (written.Tree.new x kind p q at) e h =
      let k = first_fine (fault t p) (fault (under x t) q) h in
      both (written-core s t p e k.0) (written-core (under x s) (under x t) q e k.1)
  written-core s t (written.Tree.escape x p at) e h = written-core (under x s) (under x t) p e h
  written-core s t (written.Tree.accept x kind p at) e h = written-core (under x s) (under x t) p e h
  written-core s t (written.Tree.cond b p q at) e h =
      let k = first_fine (fault t b) (fault t p before fault t q) h in
      let l = first_fine (fault t p) (fault t q) k.1 in
      three (written-core s t b e k.0) (written-core s t p e l.0) (written-core s t q e l.1)
  written-core s t (written.Tree.while_do b p at) e h =
      let k = first_fine (fault t b) (fault t p) h in
      both (written-core s t b e k.0) (written-core s t p e k.1)
  written-core s t (written.Tree.loop p at) e h = written-core s t p e h
  written-core s t (written.Tree.field i p at) e h = written-core s t p e h
  written-core s t (written.Tree.assign p becomes_at q at) e h =
      let k = first_fine (fault t p) (fault t q) h in
      both (written-core s t p e k.0) (written-core s t q e k.1)
  written-core s t (written.Tree.chain p links at) e h =
      let k = first_fine (fault t p) (links_fault t links) h in
      written-linked s t (core s p) links e k.1 (written-core s t p e k.0)
  written-core s t (written.Tree.prefixed operators p at) e h = written-prefixed operators (core s p) (written-core s t p e h)
  written-core s t (written.Tree.apply p arguments at) e h =
      let k = first_fine (fault t p) (all_faults t arguments) h in
      written-applied s t at (core s p) arguments e k.1 (written-core s t p e k.0)
  written-core s t (written.Tree.select p names at) e h = written-selected at (core s p) names (written-core s t p e h)
  written-core s t (written.Tree.ident x at) e h = written-used s.depth x at (s.phrases x)
  written-core s t (written.Tree.number v at) e h = nothing
  written-core s t (written.Tree.letter c at) e h = nothing
  written-core s t (written.Tree.string bytes at) e h = both (both nothing (written-text at bytes)) nothing
  written-core s t (written.Tree.truth b at) e h = nothing
  written-core s t (written.Tree.skip at) e h = nothing
  written-core s t (written.Tree.group p at) e h = written-core s t p e h
  written-core s t (written.Tree.seq_of parts at) e h = both (both nothing (written-parts (behind s) t parts e h)) nothing

  written-linked : (s t : Scope) (left : Tree) (links : Links) → s.types ≡ t.types → None ≡ links_fault t links → IsWritten left → IsWritten (linked s left links)
  written-linked s t left Links.no_links e h k = k
  written-linked s t left (Links.and_link op at p more) e h k =
      let l = first_fine (fault t p) (links_fault t more) h in
      written-linked s t (binary op left (core s p) at) more e l.1 (both k (written-core s t p e l.0))

  written-applied : (s t : Scope) (at : Place) (left : Tree) (arguments : written.Trees) → s.types ≡ t.types → None ≡ all_faults t arguments → IsWritten left → IsWritten (applied s at left arguments)
  written-applied s t at left written.Trees.no_trees e h k = k
  written-applied s t at left (written.Trees.and_tree p more) e h k =
      let l = first_fine (fault t p) (all_faults t more) h in
      written-applied s t at (app left (core s p) at) more e l.1 (both k (written-core s t p e l.0))

  written-items : (s t : Scope) (items : written.Trees) → s.types ≡ t.types → None ≡ all_faults t items → AreWrittenItems (items_of s items)
  written-items s t written.Trees.no_trees e h = tt
  written-items s t (written.Trees.and_tree p more) e h =
      let l = first_fine (fault t p) (all_faults t more) h in
      (written-core s t p e l.0, written-items s t more e l.1)

  written-merged_all : (s t : Scope) (at : Place) (members : written.Trees) → s.types ≡ t.types → None ≡ members_fault t members → IsWritten (merged_all s at members)
  written-merged_all s t at written.Trees.no_trees e h = nothing
  written-merged_all s t at (written.Trees.and_tree p more) e h =
      let l = first_fine (fault t p) (operands_fault t more) h in
      written-merged s t at (core s p) more e l.1 (written-core s t p e l.0)

  written-merged : (s t : Scope) (at : Place) (left : Tree) (members : written.Trees) → s.types ≡ t.types → None ≡ operands_fault t members → IsWritten left → IsWritten (merged s at left members)
  written-merged s t at left written.Trees.no_trees e h k = k
  written-merged s t at left (written.Trees.and_tree p more) e h k =
      let l = first_fine (if is_operand p then fault t p else operand_fault (front p) (fault t p)) (operands_fault t more) h in
      written-merged s t at (merge left (core s p) at) more e l.1 (both k (written-core s t p e (operand-inside (front p) (fault t p) (is_operand p) l.0)))

  written-lets : (s t : Scope) (at : Place) (defs : Defs) (body : Tree) (seen : List ℕ) → s.types ≡ t.types → None ≡ defs_fault t seen defs → IsWritten body → IsWritten (lets s at defs body)
  written-lets s t at Defs.no_defs body seen e h k = k
  written-lets s t at (Defs.and_def x here p more) body seen e h k =
      let l = tested_fine (fault_if (is_among seen x) (DoubleName here)) (fault t p) (defs_fault t (seen ++ x ∷ []) more) h in
      both (written-core s t p e l.0) (written-lets (behind s) t at more body (seen ++ x ∷ []) e l.1 k)

  written-all_fields : (s t : Scope) (at in_at : Place) (decls : List DeclTree) (defs : Defs) → s.types ≡ t.types → None ≡ fields_fault t in_at decls defs → IsWritten (all_fields s at defs)
  written-all_fields s t at in_at decls Defs.no_defs e h = nothing
  written-all_fields s t at in_at [] (Defs.and_def x here p more) e h = cc
  written-all_fields s t at in_at (d ∷ decls) (Defs.and_def x here p more) e h =
      let l = tested_fine (fault_if (not (x == d.name)) (LetrecName here)) (fault t p) (fields_fault t in_at decls more) h in
      written-with_fields s t here in_at (field x (core s p) here) decls more e l.1 (written-core s t p e l.0)

  written-with_fields : (s t : Scope) (at in_at : Place) (left : Tree) (decls : List DeclTree) (defs : Defs) → s.types ≡ t.types → None ≡ fields_fault t in_at decls defs → IsWritten left → IsWritten (with_fields s at left defs)
  written-with_fields s t at in_at left decls Defs.no_defs e h k = k
  written-with_fields s t at in_at left [] (Defs.and_def x here p more) e h k = cc
  written-with_fields s t at in_at left (d ∷ decls) (Defs.and_def x here p more) e h k =
      let l = tested_fine (fault_if (not (x == d.name)) (LetrecName here)) (fault t p) (fields_fault t in_at decls more) h in
      written-with_fields s t at in_at (merge left (field x (core s p) here) at) decls more e l.1 (both k (written-core s t p e l.0))

  written-parts : (s t : Scope) (parts : written.Trees) → s.types ≡ t.types → None ≡ all_faults t parts → deepest_of_parts (parts_of s parts) ≤ 258
  written-parts s t written.Trees.no_trees e h = nothing
  written-parts s t (written.Trees.and_tree p more) e h =
      let l = first_fine (fault t p) (all_faults t more) h in
      both (written-core s t p e l.0) (written-parts s t more e l.1)

-- the whole inside the prelude
pub written-whole : (tree : written.Tree) → None ≡ fault program_scope tree → deepest_written (in_prelude (front tree) (core program_scope tree)) ≤ 258
written-whole tree h =
    let maker : deepest_written (cell_maker (front tree)) ≤ 258 = omega arith in
    both nothing (both nothing (both nothing (both nothing (both maker (written-core program_scope program_scope tree refl h)))))
