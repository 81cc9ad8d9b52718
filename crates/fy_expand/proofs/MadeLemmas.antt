-- The core phrase of a program without a fault has a part in each list of parts and a right operand of its kind in each merge.
use Rattle.std.proofs.Common.{◌≡◌, ℕ, zero, suc, ◌/◌, ◌==◌, if◌then◌else◌, not, IsTrue, Bool, true, false, nat_lt, List, [], ◌∷◌, ◌++◌, length, take, drop, Option, Some, None, refl}
use Rattle.fy_base.specs.Outside.{Bytes}
use Rattle.fy_base.specs.declared.data.Place.{Place}
use Rattle.fy_syntax.specs.declared.surface.Prefixed.{Prefixed}
use Rattle.fy_syntax.specs.Trees.{DeclTree, Defs, Links}
use Rattle.fy_syntax.specs.Trees as written
use Rattle.fy_phrase.specs.Tree.{Tree, binary, app, merge, field, sel}
use Rattle.fy_expand.specs.declared.error.ExpandError.{ExpandError}
use Rattle.fy_expand.specs.declared.error.ExpandError.TheVariants.{DoubleName, LetrecName, MergeRight, TooManyAlternatives}
use Rattle.fy_expand.specs.declared.frame.Standing.{Standing}
use Rattle.fy_expand.specs.declared.frame.Standing.TheVariants.{Variable, Member}
use Rattle.fy_expand.specs.Scope.{Scope, behind, under, under_defs, under_members, with_type, program_scope}
use Rattle.fy_expand.specs.Front.{front}
use Rattle.fy_expand.specs.Core.{core, linked, applied, items_of, merged_all, merged, lets, all_fields, with_fields, parts_of, prefixed, selected, used, Item, one_after, no_item, by_halves, letters, text_parts, in_prelude}
use Rattle.fy_expand.specs.Faults.{fault, all_faults, links_fault, members_fault, operands_fault, defs_fault, decls_fault, fields_fault, type_fault, types_fault, types_count, fault_if, is_among, operand_fault, goes_first, is_operand, ◌before◌}
use Rattle.fy_phrase.specs.WellMade.{IsWellMade, AreWellMade, IsOperand, HasPart}

abbrev HasMember : written.Trees → Type 0
HasMember written.Trees.no_trees = ⊥
HasMember (written.Trees.and_tree p more) = Unit {0}

-- each `seq` has a part
abbrev mutual
  pub IsFilled : written.Tree → Type 0
  IsFilled (written.Tree.merge members at) = AreFilled members
  IsFilled (written.Tree.sequence items at) = AreFilled items
  IsFilled (written.Tree.lam x alternatives p at) = IsFilled p
  IsFilled (written.Tree.let_in defs p at) = AreFilledDefs defs × IsFilled p
  IsFilled (written.Tree.letrec decls defs in_at p at) = AreFilledDefs defs × IsFilled p
  IsFilled (written.Tree.let_type x a p at) = IsFilled p
  IsFilled (written.Tree.new x kind p q at) = IsFilled p × IsFilled q
  IsFilled (written.Tree.escape x p at) = IsFilled p
  IsFilled (written.Tree.accept x kind p at) = IsFilled p
  IsFilled (written.Tree.cond b p q at) = IsFilled b × IsFilled p × IsFilled q
  IsFilled (written.Tree.while_do b p at) = IsFilled b × IsFilled p
  IsFilled (written.Tree.loop p at) = IsFilled p
  IsFilled (written.Tree.field i p at) = IsFilled p
  IsFilled (written.Tree.assign p becomes_at q at) = IsFilled p × IsFilled q
  IsFilled (written.Tree.chain p links at) = IsFilled p × AreFilledLinks links
  IsFilled (written.Tree.prefixed operators p at) = IsFilled p
  IsFilled (written.Tree.apply p arguments at) = IsFilled p × AreFilled arguments
  IsFilled (written.Tree.select p names at) = IsFilled p
  IsFilled (written.Tree.ident x at) = Unit {0}
  IsFilled (written.Tree.number v at) = Unit {0}
  IsFilled (written.Tree.letter c at) = Unit {0}
  IsFilled (written.Tree.string bytes at) = Unit {0}
  IsFilled (written.Tree.truth b at) = Unit {0}
  IsFilled (written.Tree.skip at) = Unit {0}
  IsFilled (written.Tree.group p at) = IsFilled p
  IsFilled (written.Tree.seq_of parts at) = HasMember parts × AreFilled parts

  pub AreFilled : written.Trees → Type 0
  AreFilled written.Trees.no_trees = Unit {0}
  AreFilled (written.Trees.and_tree p more) = IsFilled p × AreFilled more

  pub AreFilledDefs : Defs → Type 0
  AreFilledDefs Defs.no_defs = Unit {0}
  AreFilledDefs (Defs.and_def x at p more) = IsFilled p × AreFilledDefs more

  pub AreFilledLinks : Links → Type 0
  AreFilledLinks Links.no_links = Unit {0}
  AreFilledLinks (Links.and_link op at p more) = IsFilled p × AreFilledLinks more

-- a fault that isn't there
pub before-left : (a b : Option ExpandError) → None ≡ (a before b) → None ≡ a
before-left None b h = refl
before-left (Some e) b h = cc

pub before-right : (a b : Option ExpandError) → None ≡ (a before b) → None ≡ b
before-right None b h = h
before-right (Some e) b h = cc

operand_fault-some : (at : Place) (inside : Option ExpandError) → None ≡ operand_fault at inside → ⊥
operand_fault-some at None h = cc
operand_fault-some at (Some e) h =
    elim (goes_first at e) as (λ b. None ≡ (if b then Some e else Some (MergeRight at)) → ⊥) [ true ↦ (λ (k : None ≡ Some e). cc) | false ↦ (λ (k : None ≡ Some (MergeRight at)). cc) ] h

is_operand-holds : (at : Place) (inside : Option ExpandError) (b : Bool) → None ≡ (if b then inside else operand_fault at inside) → IsTrue b
is_operand-holds at inside true h = refl
is_operand-holds at inside false h = absurd (operand_fault-some at inside h)

pub operand-inside : (at : Place) (inside : Option ExpandError) (b : Bool) → None ≡ (if b then inside else operand_fault at inside) → None ≡ inside
operand-inside at inside true h = h
operand-inside at inside false h = absurd (operand_fault-some at inside h)

operand-core : (s : Scope) (p : written.Tree) → IsTrue (is_operand p) → IsOperand (core s p)
operand-core s (written.Tree.lam x alternatives p at) h = tt
operand-core s (written.Tree.field i p at) h = tt
operand-core s (written.Tree.accept x kind p at) h = tt
operand-core s (written.Tree.group p at) h = operand-core s p h
operand-core s (written.Tree.let_type x a p at) h = operand-core (with_type x a s) p h
operand-core s _ h = cc

made-used : (d x : ℕ) (at : Place) (o : Option Standing) → IsWellMade (used d x at o)
made-used d x at None = tt
made-used d x at (Some (Variable b)) = tt
made-used d x at (Some (Member b)) = tt

made-prefixed : (operators : List Prefixed) (p : Tree) → IsWellMade p → IsWellMade (prefixed operators p)
made-prefixed [] p h = h
made-prefixed (o ∷ operators) p h = made-prefixed operators p h

made-selected : (at : Place) (p : Tree) (names : List ℕ) → IsWellMade p → IsWellMade (selected at p names)
made-selected at p [] h = h
made-selected at p (i ∷ names) h = made-selected at (sel p i at) names h

abbrev AreMadeItems : List Item → Type 0
AreMadeItems [] = Unit {0}
AreMadeItems (item ∷ more) = IsWellMade item.phrase × AreMadeItems more

made-take : (k : ℕ) (items : List Item) → AreMadeItems items → AreMadeItems (take k items)
made-take zero items h = tt
made-take (suc k) [] h = tt
made-take (suc k) (item ∷ more) h = (h.0, made-take k more h.1)

made-drop : (k : ℕ) (items : List Item) → AreMadeItems items → AreMadeItems (drop k items)
made-drop zero items h = h
made-drop (suc k) [] h = tt
made-drop (suc k) (item ∷ more) h = made-drop k more h.1

made-halves : (at : Place) (fuel : ℕ) (items : List Item) → AreMadeItems items → IsWellMade (by_halves one_after (no_item at) fuel items).phrase
made-halves at fuel [] h = tt
made-halves at fuel (x ∷ []) h = h.0
made-halves at zero (x ∷ y ∷ more) h = h.0
made-halves at (suc fuel) (x ∷ y ∷ more) h =
    let items = x ∷ y ∷ more in
    let half = length items / 2 in
    (made-halves at fuel (take half items) (made-take half items h), made-halves at fuel (drop half items) (made-drop half items h))

made-letters : (at : Place) (bytes : Bytes) → AreWellMade (letters at bytes)
made-letters at [] = tt
made-letters at (byte ∷ bytes) = (tt, made-letters at bytes)

made-text : (at : Place) (bytes : Bytes) → HasPart (text_parts at bytes) × AreWellMade (text_parts at bytes)
made-text at [] = (tt, (tt, tt))
made-text at (byte ∷ bytes) = (tt, made-letters at (byte ∷ bytes))

part-parts : (s : Scope) (parts : written.Trees) → HasMember parts → HasPart (parts_of s parts)
part-parts s written.Trees.no_trees h = absurd h
part-parts s (written.Trees.and_tree p more) h = tt

-- one phrase and then others have no fault
pub first_fine : (a b : Option ExpandError) → None ≡ (a before b) → (None ≡ a) × (None ≡ b)
first_fine a b h = (before-left a b h, before-right a b h)

-- a test, one phrase and then others
pub tested_fine : (test a b : Option ExpandError) → None ≡ (test before a before b) → (None ≡ a) × (None ≡ b)
tested_fine test a b h = first_fine a b (before-right test (a before b) h)

-- the names around make no difference to the kinds of phrases: the faults are looked for in a scope t, and the phrase is made in a scope s
mutual
  made-core : (s t : Scope) (p : written.Tree) → IsFilled p → None ≡ fault t p → IsWellMade (core s p)
  made-core s t (written.Tree.merge members at) f h = made-merged_all s t at members f h
  made-core s t (written.Tree.sequence items at) f h = made-halves at (length (items_of s items)) (items_of s items) (made-items s t items f h)
  made-core s t (written.Tree.lam x alternatives p at) f h =
      made-core (under x s) (under x t) p f (tested_fine (fault_if (nat_lt 16 (types_count alternatives)) (TooManyAlternatives at)) (types_fault t.types alternatives) (fault (under x t) p) h).1
  made-core s t (written.Tree.let_in defs p at) f h =
      let k = first_fine (defs_fault t [] defs) (fault (under_defs defs t) p) h in
      made-lets s t at defs (core (under_defs defs s) p) [] f.0 k.0 (made-core (under_defs defs s) (under_defs defs t) p f.1 k.1)
  made-core s t (written.Tree.letrec decls defs in_at p at) f h =
      let k = tested_fine (decls_fault t.types [] decls) (fields_fault (under_members decls t) in_at decls defs) (fault (under_members decls t) p) h in
      (made-all_fields (under_members decls s) (under_members decls t) at in_at decls defs f.0 k.0, made-core (under_members decls s) (under_members decls t) p f.1 k.1)
  made-core s t (written.Tree.let_type x a p at) f h = made-core (with_type x a s) (with_type x a t) p f (first_fine (type_fault t.types a) (fault (with_type x a t) p) h).1
  made-core s t (written.Tree.new x kind p q at) f h =
      let k = first_fine (fault t p) (fault (under x t) q) h in
      (made-core s t p f.0 k.0, made-core (under x s) (under x t) q f.1 k.1)
  made-core s t (written.Tree.escape x p at) f h = made-core (under x s) (under x t) p f h
  made-core s t (written.Tree.accept x kind p at) f h = made-core (under x s) (under x t) p f h
  made-core s t (written.Tree.cond b p q at) f h =
      let k = first_fine (fault t b) (fault t p before fault t q) h in
      let l = first_fine (fault t p) (fault t q) k.1 in
      (made-core s t b f.0 k.0, made-core s t p f.1 l.0, made-core s t q f.2 l.1)
  made-core s t (written.Tree.while_do b p at) f h =
      let k = first_fine (fault t b) (fault t p) h in
      (made-core s t b f.0 k.0, made-core s t p f.1 k.1)
  made-core s t (written.Tree.loop p at) f h = made-core s t p f h
  made-core s t (written.Tree.field i p at) f h = made-core s t p f h
  made-core s t (written.Tree.assign p becomes_at q at) f h =
      let k = first_fine (fault t p) (fault t q) h in
      (made-core s t p f.0 k.0, made-core s t q f.1 k.1)
  made-core s t (written.Tree.chain p links at) f h =
      let k = first_fine (fault t p) (links_fault t links) h in
      made-linked s t (core s p) links f.1 k.1 (made-core s t p f.0 k.0)
  made-core s t (written.Tree.prefixed operators p at) f h = made-prefixed operators (core s p) (made-core s t p f h)
  made-core s t (written.Tree.apply p arguments at) f h =
      let k = first_fine (fault t p) (all_faults t arguments) h in
      made-applied s t at (core s p) arguments f.1 k.1 (made-core s t p f.0 k.0)
  made-core s t (written.Tree.select p names at) f h = made-selected at (core s p) names (made-core s t p f h)
  made-core s t (written.Tree.ident x at) f h = made-used s.depth x at (s.phrases x)
  made-core s t (written.Tree.number v at) f h = tt
  made-core s t (written.Tree.letter c at) f h = tt
  made-core s t (written.Tree.string bytes at) f h =
      let parts = made-text at bytes in
      ((tt, parts.0, parts.1), tt, tt)
  made-core s t (written.Tree.truth b at) f h = tt
  made-core s t (written.Tree.skip at) f h = tt
  made-core s t (written.Tree.group p at) f h = made-core s t p f h
  made-core s t (written.Tree.seq_of parts at) f h = ((tt, part-parts (behind s) parts f.0, made-parts (behind s) t parts f.1 h), tt, tt)

  made-linked : (s t : Scope) (left : Tree) (links : Links) → AreFilledLinks links → None ≡ links_fault t links → IsWellMade left → IsWellMade (linked s left links)
  made-linked s t left Links.no_links f h k = k
  made-linked s t left (Links.and_link op at p more) f h k =
      let l = first_fine (fault t p) (links_fault t more) h in
      made-linked s t (binary op left (core s p) at) more f.1 l.1 (k, made-core s t p f.0 l.0)

  made-applied : (s t : Scope) (at : Place) (left : Tree) (arguments : written.Trees) → AreFilled arguments → None ≡ all_faults t arguments → IsWellMade left → IsWellMade (applied s at left arguments)
  made-applied s t at left written.Trees.no_trees f h k = k
  made-applied s t at left (written.Trees.and_tree p more) f h k =
      let l = first_fine (fault t p) (all_faults t more) h in
      made-applied s t at (app left (core s p) at) more f.1 l.1 (k, made-core s t p f.0 l.0)

  made-items : (s t : Scope) (items : written.Trees) → AreFilled items → None ≡ all_faults t items → AreMadeItems (items_of s items)
  made-items s t written.Trees.no_trees f h = tt
  made-items s t (written.Trees.and_tree p more) f h =
      let l = first_fine (fault t p) (all_faults t more) h in
      (made-core s t p f.0 l.0, made-items s t more f.1 l.1)

  made-merged_all : (s t : Scope) (at : Place) (members : written.Trees) → AreFilled members → None ≡ members_fault t members → IsWellMade (merged_all s at members)
  made-merged_all s t at written.Trees.no_trees f h = tt
  made-merged_all s t at (written.Trees.and_tree p more) f h =
      let l = first_fine (fault t p) (operands_fault t more) h in
      made-merged s t at (core s p) more f.1 l.1 (made-core s t p f.0 l.0)

  made-merged : (s t : Scope) (at : Place) (left : Tree) (members : written.Trees) → AreFilled members → None ≡ operands_fault t members → IsWellMade left → IsWellMade (merged s at left members)
  made-merged s t at left written.Trees.no_trees f h k = k
  made-merged s t at left (written.Trees.and_tree p more) f h k =
      let l = first_fine (if is_operand p then fault t p else operand_fault (front p) (fault t p)) (operands_fault t more) h in
      made-merged s t at (merge left (core s p) at) more f.1 l.1
      (k, operand-core s p (is_operand-holds (front p) (fault t p) (is_operand p) l.0), made-core s t p f.0 (operand-inside (front p) (fault t p) (is_operand p) l.0))

  made-lets : (s t : Scope) (at : Place) (defs : Defs) (body : Tree) (seen : List ℕ) → AreFilledDefs defs → None ≡ defs_fault t seen defs → IsWellMade body → IsWellMade (lets s at defs body)
  made-lets s t at Defs.no_defs body seen f h k = k
  made-lets s t at (Defs.and_def x here p more) body seen f h k =
      let l = tested_fine (fault_if (is_among seen x) (DoubleName here)) (fault t p) (defs_fault t (seen ++ x ∷ []) more) h in
      (made-core s t p f.0 l.0, made-lets (behind s) t at more body (seen ++ x ∷ []) f.1 l.1 k)

  made-all_fields : (s t : Scope) (at in_at : Place) (decls : List DeclTree) (defs : Defs) → AreFilledDefs defs → None ≡ fields_fault t in_at decls defs → IsWellMade (all_fields s at defs)
  made-all_fields s t at in_at decls Defs.no_defs f h = tt
  made-all_fields s t at in_at [] (Defs.and_def x here p more) f h = cc
  made-all_fields s t at in_at (d ∷ decls) (Defs.and_def x here p more) f h =
      let l = tested_fine (fault_if (not (x == d.name)) (LetrecName here)) (fault t p) (fields_fault t in_at decls more) h in
      made-with_fields s t here in_at (field x (core s p) here) decls more f.1 l.1 (made-core s t p f.0 l.0)

  made-with_fields : (s t : Scope) (at in_at : Place) (left : Tree) (decls : List DeclTree) (defs : Defs) → AreFilledDefs defs → None ≡ fields_fault t in_at decls defs → IsWellMade left → IsWellMade (with_fields s at left defs)
  made-with_fields s t at in_at left decls Defs.no_defs f h k = k
  made-with_fields s t at in_at left [] (Defs.and_def x here p more) f h k = cc
  made-with_fields s t at in_at left (d ∷ decls) (Defs.and_def x here p more) f h k =
      let l = tested_fine (fault_if (not (x == d.name)) (LetrecName here)) (fault t p) (fields_fault t in_at decls more) h in
      made-with_fields s t at in_at (merge left (field x (core s p) here) at) decls more f.1 l.1 (k, tt, made-core s t p f.0 l.0)

  made-parts : (s t : Scope) (parts : written.Trees) → AreFilled parts → None ≡ all_faults t parts → AreWellMade (parts_of s parts)
  made-parts s t written.Trees.no_trees f h = tt
  made-parts s t (written.Trees.and_tree p more) f h =
      let l = first_fine (fault t p) (all_faults t more) h in
      (made-core s t p f.0 l.0, made-parts s t more f.1 l.1)

-- the whole inside the prelude
pub made-whole : (tree : written.Tree) → IsFilled tree → None ≡ fault program_scope tree → IsWellMade (in_prelude (front tree) (core program_scope tree))
made-whole tree f h = (tt, (tt, (tt, (tt, ((tt, (tt, tt)), made-core program_scope program_scope tree f h)))))
