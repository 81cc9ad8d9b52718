-- The core phrase of a written phrase without a fault is one of the forms that the grammar has.
use Rattle.std.proofs.Common.{◌≡◌, ◌≢◌, ℕ, zero, suc, ◌+◌, ◌/◌, ◌<◌, ◌≤◌, ◌==◌, not, nat_lt, if◌then◌else◌, Bool, true, false, Option, Some, None, is_none, List, [], ◌∷◌, ◌++◌, length, take, drop, refl, sym, ap, ap₂, subst, ◌∙◌, arith, append_assoc, append-nil}
use Rattle.std.proofs.lemmas.Bool.{eqb-true, false≢true, ltb-false}
use Rattle.fy_base.specs.declared.data.Place.{Place}
use Rattle.fy_base.specs.declared.data.Datum.TheVariants as datum
use Rattle.fy_types.specs.Types.{PlainType, PlainTypes}
use Rattle.fy_syntax.specs.declared.surface.Prefixed.{Prefixed}
use Rattle.fy_syntax.specs.Ranges.{AreBytes}
use Rattle.fy_syntax.specs.Trees.{TypeTree, TypeTrees, DeclTree, Defs, Links}
use Rattle.fy_syntax.specs.Trees as written
use Rattle.fy_phrase.specs.Tree.{Tree, Trees, binary, app, field, merge, sel}
use Rattle.fy_expand.specs.declared.error.ExpandError.{ExpandError}
use Rattle.fy_expand.specs.declared.error.ExpandError.TheVariants.{UnknownName, DoubleName, LetrecName, MergeRight, TooManyAlternatives, TypeTooLarge}
use Rattle.fy_phrase.specs.CoreLimits.{types_count as plain_count}
use Rattle.fy_phrase.specs.WellMade.{IsOperand}
use Rattle.fy_expand.specs.Types.{type_of, types_of, type_front, is_large_type, with}
use Rattle.fy_expand.specs.Core.{core, used, prefixed, selected, Item, by_halves, one_after, no_item, items_of, linked, applied, merged_all, merged, lets, all_fields, with_fields, parts_of, declared, meet_of}
use Rattle.fy_expand.specs.Front.{front}
use Rattle.fy_expand.specs.Faults.{◌before◌, fault_if, unknown, goes_first, is_operand, operand_fault, types_count, types_fault, type_fault, is_among, fault, all_faults, links_fault, members_fault, operands_fault, defs_fault, decls_fault, fields_fault}
use Rattle.fy_expand.specs.Scope.{Scope, behind, under, under_defs, under_members, with_type}
use Rattle.fy_expand.proofs.MadeLemmas.{first_fine, tested_fine, operand-inside, before-left}
use Rattle.fy_again.specs.Again.{IsLiteral}
use Rattle.fy_again.specs.Phrases.{IsAmong, types_declared, AreSmall, AreFresh, fields_declared, fields_defined}
use Rattle.fy_again.proofs.LetrecLemmas.{names_declared, names_defined}
use Rattle.fy_again.proofs.ShapeLemmas.{AreSmallFields, Kind, variable, record_of, index, IsFormed, AreFormed, AreFormedDefs, formed_let, formed_sel, formed_merge, formed_string, formed_seq_of, Fit, fit_behind, fit_under, variables, fit_defs, declared_fields, types_same, fields_back, AreDeclaredIn, all_declared, fit_members}

-- ---- what the grammar says of a tree

abbrev mutual
  -- integers from 0 on, and bytes; some alternatives, some declarations, some parts
  pub IsFine : written.Tree → Type 0
  IsFine (written.Tree.merge members at) = AreFine members
  IsFine (written.Tree.sequence items at) = AreFine items
  IsFine (written.Tree.lam x alternatives p at) = (alternatives ≢ TypeTrees.no_types) × IsFine p
  IsFine (written.Tree.let_in defs p at) = AreFineDefs defs × IsFine p
  IsFine (written.Tree.letrec decls defs in_at p at) = (decls ≢ []) × AreFineDefs defs × IsFine p
  IsFine (written.Tree.let_type x a p at) = IsFine p
  IsFine (written.Tree.new x kind p q at) = IsFine p × IsFine q
  IsFine (written.Tree.escape x p at) = IsFine p
  IsFine (written.Tree.accept x kind p at) = IsFine p
  IsFine (written.Tree.cond b p q at) = IsFine b × IsFine p × IsFine q
  IsFine (written.Tree.while_do b p at) = IsFine b × IsFine p
  IsFine (written.Tree.loop p at) = IsFine p
  IsFine (written.Tree.field i p at) = IsFine p
  IsFine (written.Tree.assign p becomes_at q at) = IsFine p × IsFine q
  IsFine (written.Tree.chain p links at) = IsFine p × AreFineLinks links
  IsFine (written.Tree.prefixed operators p at) = IsFine p
  IsFine (written.Tree.apply p arguments at) = IsFine p × AreFine arguments
  IsFine (written.Tree.select p names at) = IsFine p
  IsFine (written.Tree.ident x at) = Unit {0}
  IsFine (written.Tree.number v at) = IsLiteral (datum.Int v)
  IsFine (written.Tree.letter c at) = c < 256
  IsFine (written.Tree.string bytes at) = AreBytes bytes
  IsFine (written.Tree.truth b at) = Unit {0}
  IsFine (written.Tree.skip at) = Unit {0}
  IsFine (written.Tree.group p at) = IsFine p
  IsFine (written.Tree.seq_of parts at) = (parts ≢ written.Trees.no_trees) × AreFine parts

  pub AreFine : written.Trees → Type 0
  AreFine written.Trees.no_trees = Unit {0}
  AreFine (written.Trees.and_tree p more) = IsFine p × AreFine more

  pub AreFineDefs : Defs → Type 0
  AreFineDefs Defs.no_defs = Unit {0}
  AreFineDefs (Defs.and_def x at p more) = IsFine p × AreFineDefs more

  pub AreFineLinks : Links → Type 0
  AreFineLinks Links.no_links = Unit {0}
  AreFineLinks (Links.and_link op at p more) = IsFine p × AreFineLinks more

-- ---- lists of parts

some_types : (types : ℕ → Option PlainType) (alternatives : TypeTrees) → alternatives ≢ TypeTrees.no_types → types_of types alternatives ≢ PlainTypes.no_types
some_types types TypeTrees.no_types some e = some refl
some_types types (TypeTrees.and_type a more) some e = cc

some_parts : (s : Scope) (parts : written.Trees) → parts ≢ written.Trees.no_trees → parts_of s parts ≢ Trees.no_trees
some_parts s written.Trees.no_trees some e = some refl
some_parts s (written.Trees.and_tree p more) some e = cc

formed_prefixed : (ks : List Kind) (operators : List Prefixed) (p : Tree) → IsFormed ks p → IsFormed ks (prefixed operators p)
formed_prefixed ks [] p h = h
formed_prefixed ks (o ∷ operators) p h = formed_prefixed ks operators p h

formed_selected : (ks : List Kind) (at : Place) (p : Tree) (names : List ℕ) → IsFormed ks p → IsFormed ks (selected at p names)
formed_selected ks at p [] h = h
formed_selected ks at p (i ∷ names) h = formed_selected ks at (sel p i at) names (formed_sel ks p i at h)

abbrev AreFormedItems : List Kind → List Item → Type 0
AreFormedItems ks [] = Unit {0}
AreFormedItems ks (item ∷ more) = IsFormed ks item.phrase × AreFormedItems ks more

formed_take : (ks : List Kind) (k : ℕ) (items : List Item) → AreFormedItems ks items → AreFormedItems ks (take k items)
formed_take ks zero items h = tt
formed_take ks (suc k) [] h = tt
formed_take ks (suc k) (item ∷ more) h = (h.0, formed_take ks k more h.1)

formed_drop : (ks : List Kind) (k : ℕ) (items : List Item) → AreFormedItems ks items → AreFormedItems ks (drop k items)
formed_drop ks zero items h = h
formed_drop ks (suc k) [] h = tt
formed_drop ks (suc k) (item ∷ more) h = formed_drop ks k more h.1

formed_halves : (ks : List Kind) (at : Place) (fuel : ℕ) (items : List Item) → AreFormedItems ks items → IsFormed ks (by_halves one_after (no_item at) fuel items).phrase
formed_halves ks at fuel [] h = tt
formed_halves ks at fuel (x ∷ []) h = h.0
formed_halves ks at zero (x ∷ y ∷ more) h = h.0
formed_halves ks at (suc fuel) (x ∷ y ∷ more) h =
    let items = x ∷ y ∷ more in
    let half = length items / 2 in
    (formed_halves ks at fuel (take half items) (formed_take ks half items h), formed_halves ks at fuel (drop half items) (formed_drop ks half items h))

-- a test that isn't a fault
passes : (b : Bool) (e : ExpandError) → None ≡ fault_if b e → b ≡ false
passes true e h = absurd cc
passes false e h = refl

-- the name of a definition is that of its declaration
same_name : (x y : ℕ) → not (x == y) ≡ false → x ≡ y
same_name x y h = by (x == y) refl h
  where
    by : (b : Bool) → (x == y) ≡ b → not b ≡ false → x ≡ y
    by true e g = eqb-true x y e
    by false e g = absurd (false≢true (sym g))

some_fields : (types : ℕ → Option PlainType) (decls : List DeclTree) → decls ≢ [] → declared_fields types decls ≢ []
some_fields types [] some e = some refl
some_fields types (d ∷ decls) some e = cc

-- ---- types, declarations and definitions without a fault

small_one : (types : ℕ → Option PlainType) (a : TypeTree) → None ≡ type_fault types a → is_large_type (type_of types a) ≡ false
small_one types a h =
    let k = first_fine (unknown types a) (fault_if (is_large_type (type_of types a)) (TypeTooLarge (type_front a))) h in
    passes (is_large_type (type_of types a)) (TypeTooLarge (type_front a)) k.1

small_types : (types : ℕ → Option PlainType) (alternatives : TypeTrees) → None ≡ types_fault types alternatives → AreSmall (types_of types alternatives)
small_types types TypeTrees.no_types h = tt
small_types types (TypeTrees.and_type a more) h =
    let k = first_fine (type_fault types a) (types_fault types more) h in
    (small_one types a k.0, small_types types more k.1)

counted_same : (types : ℕ → Option PlainType) (alternatives : TypeTrees) → plain_count (types_of types alternatives) ≡ types_count alternatives
counted_same types TypeTrees.no_types = refl
counted_same types (TypeTrees.and_type a more) = ap suc (counted_same types more)

counted_types : (types : ℕ → Option PlainType) (alternatives : TypeTrees) → nat_lt 16 (types_count alternatives) ≡ false → plain_count (types_of types alternatives) ≤ 16
counted_types types alternatives h = let e = counted_same types alternatives in let f = ltb-false 16 (types_count alternatives) h in omega (arith, e, f)

type_same : (x : ℕ) (a : TypeTree) (s t : Scope) → s.types ≡ t.types → (with_type x a s).types ≡ (with_type x a t).types
type_same x a s t same = ap (λ types. with x (type_of types a) types) same

tested_first : (a b : Option ExpandError) → None ≡ (a before b) → None ≡ a
tested_first a b h = before-left a b h

declared_facts : (types : ℕ → Option PlainType) (seen : List ℕ) (decls : List DeclTree) → None ≡ decls_fault types seen decls → AreFresh seen (declared_fields types decls) × AreSmallFields (declared_fields types decls)
declared_facts types seen [] h = (tt, tt)
declared_facts types seen (d ∷ decls) h =
    let test = fault_if (is_among seen d.name) (DoubleName d.at) in
    let rest = decls_fault types (seen ++ d.name ∷ []) decls in
    let k = tested_fine test (type_fault types d.type) rest h in
    let r = declared_facts types (seen ++ d.name ∷ []) decls k.1 in (
      (passes (is_among seen d.name) (DoubleName d.at) (before-left test (type_fault types d.type before rest) h), r.0),
      (small_one types d.type k.0, r.1),
    )

names_same : (types : ℕ → Option PlainType) (decls : List DeclTree) → fields_declared (declared_fields types decls) ≡ names_declared decls
names_same types [] = refl
names_same types (d ∷ decls) = ap (λ l. d.name ∷ l) (names_same types decls)

names_in_order : (t : Scope) (in_at : Place) (decls : List DeclTree) (defs : Defs) → None ≡ fields_fault t in_at decls defs → names_defined defs ≡ names_declared decls
names_in_order t in_at [] Defs.no_defs h = refl
names_in_order t in_at [] (Defs.and_def x here p more) h = absurd cc
names_in_order t in_at (d ∷ decls) Defs.no_defs h = absurd cc
names_in_order t in_at (d ∷ decls) (Defs.and_def x here p more) h =
    let test = fault_if (not (x == d.name)) (LetrecName here) in
    let rest = fields_fault t in_at decls more in
    let k = tested_fine test (fault t p) rest h in
    let name = same_name x d.name (passes (not (x == d.name)) (LetrecName here) (before-left test (fault t p before rest) h)) in
    ap₂ (λ (n : ℕ) (l : List ℕ). n ∷ l) name (names_in_order t in_at decls more k.1)

merged_order : (s : Scope) (at : Place) (left : Tree) (defs : Defs) → fields_defined (with_fields s at left defs) ≡ fields_defined left ++ names_defined defs
merged_order s at left Defs.no_defs = sym (append-nil (fields_defined left))
merged_order s at left (Defs.and_def x here p more) =
    merged_order s at (merge left (field x (core s p) here) at) more ∙ append_assoc (fields_defined left) (x ∷ []) (names_defined more)

defined_order : (s t : Scope) (types : ℕ → Option PlainType) (at in_at : Place) (decls : List DeclTree) (defs : Defs) → decls ≢ [] → None ≡ fields_fault t in_at decls defs →
    fields_defined (all_fields s at defs) ≡ fields_declared (declared_fields types decls)
defined_order s t types at in_at [] Defs.no_defs some h = absurd (some refl)
defined_order s t types at in_at [] (Defs.and_def x here p more) some h = absurd (some refl)
defined_order s t types at in_at (d ∷ decls) Defs.no_defs some h = absurd cc
defined_order s t types at in_at (d ∷ decls) (Defs.and_def x here p more) some h =
    merged_order s here (field x (core s p) here) more ∙ (names_in_order t in_at (d ∷ decls) (Defs.and_def x here p more) h ∙ sym (names_same types (d ∷ decls)))

-- ---- right operands

operand_some : (at : Place) (inside : Option ExpandError) → None ≡ operand_fault at inside → ⊥
operand_some at None h = cc
operand_some at (Some e) h =
    elim (goes_first at e) as (λ b. None ≡ (if b then Some e else Some (MergeRight at)) → ⊥) [ true ↦ (λ (k : None ≡ Some e). cc) | false ↦ (λ (k : None ≡ Some (MergeRight at)). cc) ] h

operand_holds : (at : Place) (inside : Option ExpandError) (b : Bool) → None ≡ (if b then inside else operand_fault at inside) → b ≡ true
operand_holds at inside true h = refl
operand_holds at inside false h = absurd (operand_some at inside h)

operand_core : (s : Scope) (p : written.Tree) → is_operand p ≡ true → IsOperand (core s p)
operand_core s (written.Tree.lam x alternatives p at) h = tt
operand_core s (written.Tree.field i p at) h = tt
operand_core s (written.Tree.accept x kind p at) h = tt
operand_core s (written.Tree.group p at) h = operand_core s p h
operand_core s (written.Tree.let_type x a p at) h = operand_core (with_type x a s) p h
operand_core s _ h = cc

-- the phrase is made in a scope s, and the faults are looked for in a scope t
mutual
  pub formed : (ks : List Kind) (s t : Scope) (p : written.Tree) → Fit ks s t → s.types ≡ t.types → IsFine p → None ≡ fault t p → IsFormed ks (core s p)
  formed ks s t (written.Tree.merge members at) fit same f h = formed_merged_all ks s t at members fit same f h
  formed ks s t (written.Tree.sequence items at) fit same f h = formed_halves ks at (length (items_of s items)) (items_of s items) (formed_items ks s t items fit same f h)
  formed ks s t (written.Tree.lam x alternatives p at) fit same f h =
      let test = fault_if (nat_lt 16 (types_count alternatives)) (TooManyAlternatives at) in
      let parts = tested_fine test (types_fault t.types alternatives) (fault (under x t) p) h in
      let few = passes (nat_lt 16 (types_count alternatives)) (TooManyAlternatives at) (before-left test (types_fault t.types alternatives before fault (under x t) p) h) in (
        some_types s.types alternatives f.0,
        subst (λ types. AreSmall (types_of types alternatives)) (sym same) (small_types t.types alternatives parts.0),
        counted_types s.types alternatives few,
        formed (variable ∷ ks) (under x s) (under x t) p (fit_under ks s t x fit) same f.1 parts.1,
      )
  formed ks s t (written.Tree.let_in defs p at) fit same f h =
      let k = first_fine (defs_fault t [] defs) (fault (under_defs defs t) p) h in
      formed_lets ks s t at defs (core (under_defs defs s) p) [] fit same f.0 k.0
      (formed (variables defs ks) (under_defs defs s) (under_defs defs t) p (fit_defs ks s t defs fit) same f.1 k.1)
  formed ks s t (written.Tree.letrec decls defs in_at p at) fit same f h =
      let k = tested_fine (decls_fault t.types [] decls) (fields_fault (under_members decls t) in_at decls defs) (fault (under_members decls t) p) h in
      let gs = declared_fields s.types decls in
      let T = meet_of (declared s.types decls) in
      let back = fields_back s.types decls f.0 in
      let inner = fit_members ks s t gs decls (all_declared s.types decls) fit in
      let defined = formed_all_fields (record_of gs ∷ ks) (under_members decls s) (under_members decls t) gs at in_at decls defs f.0 inner same (all_declared s.types decls) f.1 k.0 in
      let body = formed (record_of gs ∷ ks) (under_members decls s) (under_members decls t) p inner same f.2 k.1 in
      let facts = subst (λ types. AreFresh [] (declared_fields types decls) × AreSmallFields (declared_fields types decls)) (sym same) (declared_facts t.types [] decls (tested_first (decls_fault t.types [] decls) _ h)) in
      let order = defined_order (under_members decls s) (under_members decls t) s.types at in_at decls defs f.0 k.0 in
      subst
      (λ (fs : List (ℕ × PlainType)).
      (fs ≢ []) × (meet_of (types_declared fs) ≡ T) × AreFresh [] fs × AreSmallFields fs × (fields_defined (all_fields (under_members decls s) at defs) ≡ fields_declared fs)
      × AreFormedDefs (record_of fs ∷ ks) fs (all_fields (under_members decls s) at defs)
      × IsFormed (record_of fs ∷ ks) (core (under_members decls s) p))
      (sym back) (some_fields s.types decls f.0, ap meet_of (types_same s.types decls), facts.0, facts.1, order, defined, body)
  formed ks s t (written.Tree.let_type x a p at) fit same f h =
      formed ks (with_type x a s) (with_type x a t) p fit (type_same x a s t same) f (first_fine (type_fault t.types a) (fault (with_type x a t) p) h).1
  formed ks s t (written.Tree.new x kind p q at) fit same f h =
      let k = first_fine (fault t p) (fault (under x t) q) h in
      (formed ks s t p fit same f.0 k.0, formed (variable ∷ ks) (under x s) (under x t) q (fit_under ks s t x fit) same f.1 k.1)
  formed ks s t (written.Tree.escape x p at) fit same f h = formed (variable ∷ ks) (under x s) (under x t) p (fit_under ks s t x fit) same f h
  formed ks s t (written.Tree.accept x kind p at) fit same f h = formed (variable ∷ ks) (under x s) (under x t) p (fit_under ks s t x fit) same f h
  formed ks s t (written.Tree.cond b p q at) fit same f h =
      let k = first_fine (fault t b) (fault t p before fault t q) h in
      let l = first_fine (fault t p) (fault t q) k.1 in
      (formed ks s t b fit same f.0 k.0, formed ks s t p fit same f.1 l.0, formed ks s t q fit same f.2 l.1)
  formed ks s t (written.Tree.while_do b p at) fit same f h =
      let k = first_fine (fault t b) (fault t p) h in
      (formed ks s t b fit same f.0 k.0, formed ks s t p fit same f.1 k.1)
  formed ks s t (written.Tree.loop p at) fit same f h = formed ks s t p fit same f h
  formed ks s t (written.Tree.field i p at) fit same f h = formed ks s t p fit same f h
  formed ks s t (written.Tree.assign p becomes_at q at) fit same f h =
      let k = first_fine (fault t p) (fault t q) h in
      (formed ks s t p fit same f.0 k.0, formed ks s t q fit same f.1 k.1)
  formed ks s t (written.Tree.chain p links at) fit same f h =
      let k = first_fine (fault t p) (links_fault t links) h in
      formed_linked ks s t (core s p) links fit same f.1 k.1 (formed ks s t p fit same f.0 k.0)
  formed ks s t (written.Tree.prefixed operators p at) fit same f h = formed_prefixed ks operators (core s p) (formed ks s t p fit same f h)
  formed ks s t (written.Tree.apply p arguments at) fit same f h =
      let k = first_fine (fault t p) (all_faults t arguments) h in
      formed_applied ks s t at (core s p) arguments fit same f.1 k.1 (formed ks s t p fit same f.0 k.0)
  formed ks s t (written.Tree.select p names at) fit same f h = formed_selected ks at (core s p) names (formed ks s t p fit same f h)
  formed ks s t (written.Tree.ident x at) fit same f h =
      let deep : 0 + s.depth ≡ s.depth = omega arith in
      subst (λ d. IsFormed ks (used d x at (s.phrases x))) deep (fit [] x at (passes (is_none (t.phrases x)) (UnknownName at) h))
  formed ks s t (written.Tree.number v at) fit same f h = f
  formed ks s t (written.Tree.letter c at) fit same f h = f
  formed ks s t (written.Tree.string bytes at) fit same f h = formed_string ks s.depth at bytes f
  formed ks s t (written.Tree.truth b at) fit same f h = tt
  formed ks s t (written.Tree.skip at) fit same f h = tt
  formed ks s t (written.Tree.group p at) fit same f h = formed ks s t p fit same f h
  formed ks s t (written.Tree.seq_of parts at) fit same f h =
      formed_seq_of ks s.depth at (parts_of (behind s) parts) (some_parts (behind s) parts f.0) (formed_parts (index ∷ ks) (behind s) t parts (fit_behind ks s t index fit) same f.1 h)

  formed_linked : (ks : List Kind) (s t : Scope) (left : Tree) (links : Links) → Fit ks s t → s.types ≡ t.types → AreFineLinks links → None ≡ links_fault t links → IsFormed ks left → IsFormed ks (linked s left links)
  formed_linked ks s t left Links.no_links fit same f h k = k
  formed_linked ks s t left (Links.and_link op at p more) fit same f h k =
      let l = first_fine (fault t p) (links_fault t more) h in
      formed_linked ks s t (binary op left (core s p) at) more fit same f.1 l.1 (k, formed ks s t p fit same f.0 l.0)

  formed_applied : (ks : List Kind) (s t : Scope) (at : Place) (left : Tree) (arguments : written.Trees) → Fit ks s t → s.types ≡ t.types → AreFine arguments → None ≡ all_faults t arguments → IsFormed ks left →
      IsFormed ks (applied s at left arguments)
  formed_applied ks s t at left written.Trees.no_trees fit same f h k = k
  formed_applied ks s t at left (written.Trees.and_tree p more) fit same f h k =
      let l = first_fine (fault t p) (all_faults t more) h in
      formed_applied ks s t at (app left (core s p) at) more fit same f.1 l.1 (k, formed ks s t p fit same f.0 l.0)

  formed_items : (ks : List Kind) (s t : Scope) (items : written.Trees) → Fit ks s t → s.types ≡ t.types → AreFine items → None ≡ all_faults t items → AreFormedItems ks (items_of s items)
  formed_items ks s t written.Trees.no_trees fit same f h = tt
  formed_items ks s t (written.Trees.and_tree p more) fit same f h =
      let l = first_fine (fault t p) (all_faults t more) h in
      (formed ks s t p fit same f.0 l.0, formed_items ks s t more fit same f.1 l.1)

  formed_merged_all : (ks : List Kind) (s t : Scope) (at : Place) (members : written.Trees) → Fit ks s t → s.types ≡ t.types → AreFine members → None ≡ members_fault t members → IsFormed ks (merged_all s at members)
  formed_merged_all ks s t at written.Trees.no_trees fit same f h = tt
  formed_merged_all ks s t at (written.Trees.and_tree p more) fit same f h =
      let l = first_fine (fault t p) (operands_fault t more) h in
      formed_merged ks s t at (core s p) more fit same f.1 l.1 (formed ks s t p fit same f.0 l.0)

  formed_merged : (ks : List Kind) (s t : Scope) (at : Place) (left : Tree) (members : written.Trees) → Fit ks s t → s.types ≡ t.types → AreFine members → None ≡ operands_fault t members → IsFormed ks left →
      IsFormed ks (merged s at left members)
  formed_merged ks s t at left written.Trees.no_trees fit same f h k = k
  formed_merged ks s t at left (written.Trees.and_tree p more) fit same f h k =
      let l = first_fine (if is_operand p then fault t p else operand_fault (front p) (fault t p)) (operands_fault t more) h in
      formed_merged ks s t at (merge left (core s p) at) more fit same f.1 l.1
      (formed_merge ks left (core s p) at k (formed ks s t p fit same f.0 (operand-inside (front p) (fault t p) (is_operand p) l.0))
      (operand_core s p (operand_holds (front p) (fault t p) (is_operand p) l.0)))

  formed_lets : (ks : List Kind) (s t : Scope) (at : Place) (defs : Defs) (body : Tree) (seen : List ℕ) → Fit ks s t → s.types ≡ t.types → AreFineDefs defs → None ≡ defs_fault t seen defs → IsFormed (variables defs ks) body →
      IsFormed ks (lets s at defs body)
  formed_lets ks s t at Defs.no_defs body seen fit same f h k = k
  formed_lets ks s t at (Defs.and_def x here p more) body seen fit same f h k =
      let l = tested_fine (fault_if (is_among seen x) (DoubleName here)) (fault t p) (defs_fault t (seen ++ x ∷ []) more) h in
      formed_let ks s.depth (core s p) (lets (behind s) at more body) at (formed ks s t p fit same f.0 l.0)
      (formed_lets (variable ∷ ks) (behind s) t at more body (seen ++ x ∷ []) (fit_behind ks s t variable fit) same f.1 l.1 k)

  formed_all_fields : (ks : List Kind) (s t : Scope) (gs : List (ℕ × PlainType)) (at in_at : Place) (decls : List DeclTree) (defs : Defs) → decls ≢ [] → Fit ks s t → s.types ≡ t.types → AreDeclaredIn decls gs → AreFineDefs defs →
      None ≡ fields_fault t in_at decls defs → AreFormedDefs ks gs (all_fields s at defs)
  formed_all_fields ks s t gs at in_at [] defs some fit same sub f h = absurd (some refl)
  formed_all_fields ks s t gs at in_at (d ∷ decls) Defs.no_defs some fit same sub f h = absurd cc
  formed_all_fields ks s t gs at in_at (d ∷ decls) (Defs.and_def x here p more) some fit same sub f h =
      let test = fault_if (not (x == d.name)) (LetrecName here) in
      let l = tested_fine test (fault t p) (fields_fault t in_at decls more) h in
      let name = same_name x d.name (passes (not (x == d.name)) (LetrecName here) (before-left test (fault t p before fields_fault t in_at decls more) h)) in
      formed_with_fields ks s t gs here in_at (field x (core s p) here) decls more fit same sub.1 f.1 l.1 (subst (λ j. IsAmong j gs) (sym name) sub.0, formed ks s t p fit same f.0 l.0)

  formed_with_fields : (ks : List Kind) (s t : Scope) (gs : List (ℕ × PlainType)) (at in_at : Place) (left : Tree) (decls : List DeclTree) (defs : Defs) → Fit ks s t → s.types ≡ t.types → AreDeclaredIn decls gs → AreFineDefs defs →
      None ≡ fields_fault t in_at decls defs → AreFormedDefs ks gs left → AreFormedDefs ks gs (with_fields s at left defs)
  formed_with_fields ks s t gs at in_at left decls Defs.no_defs fit same sub f h k = k
  formed_with_fields ks s t gs at in_at left [] (Defs.and_def x here p more) fit same sub f h k = absurd cc
  formed_with_fields ks s t gs at in_at left (d ∷ decls) (Defs.and_def x here p more) fit same sub f h k =
      let test = fault_if (not (x == d.name)) (LetrecName here) in
      let l = tested_fine test (fault t p) (fields_fault t in_at decls more) h in
      let name = same_name x d.name (passes (not (x == d.name)) (LetrecName here) (before-left test (fault t p before fields_fault t in_at decls more) h)) in
      formed_with_fields ks s t gs at in_at (merge left (field x (core s p) here) at) decls more fit same sub.1 f.1 l.1
      (k, subst (λ j. IsAmong j gs) (sym name) sub.0, formed ks s t p fit same f.0 l.0)

  formed_parts : (ks : List Kind) (s t : Scope) (parts : written.Trees) → Fit ks s t → s.types ≡ t.types → AreFine parts → None ≡ all_faults t parts → AreFormed ks (parts_of s parts)
  formed_parts ks s t written.Trees.no_trees fit same f h = tt
  formed_parts ks s t (written.Trees.and_tree p more) fit same f h =
      let l = first_fine (fault t p) (all_faults t more) h in
      (formed ks s t p fit same f.0 l.0, formed_parts ks s t more fit same f.1 l.1)
