-- A phrase without a fault under its imports has none under the earlier names.
use Rattle.std.proofs.Common.{ℕ, suc, ◌≡◌, Bool, true, false, not, nat_lt, List, [], ◌∷◌, ◌++◌, cond, eqb, Option, Some, None, is_none, refl, sym, ap, ◌∙◌, subst}
use Rattle.fy_base.specs.declared.data.Place.{Place}
use Rattle.fy_types.specs.Types.{PlainType}
use Rattle.fy_syntax.specs.Trees.{TypeTree, TypeTrees, DeclTree, Tree, Trees, Defs, Links}
use Rattle.fy_syntax.specs.Places.{no_place, type_without_places, types_without_places, decls_without_places, without_places, trees_without_places, defs_without_places, links_without_places}
use Rattle.fy_expand.specs.declared.error.ExpandError.{ExpandError}
use Rattle.fy_expand.specs.declared.error.ExpandError.TheVariants as errors
use Rattle.fy_expand.specs.declared.frame.Standing.{Standing}
use Rattle.fy_expand.specs.declared.frame.Standing.TheVariants.{Variable, Member}
use Rattle.fy_expand.specs.Types.{with, type_of, is_large_type}
use Rattle.fy_expand.specs.Scope.{Scope, under, with_defs, depth_under, under_defs, with_members, under_members, with_type}
use Rattle.fy_expand.specs.Front.{front}
use Rattle.fy_expand.specs.Faults.{◌before◌, fault_if, is_among, unknown, all_unknown, type_fault, types_fault, types_count, decls_fault, is_operand, goes_first, operand_fault, fault, all_faults, links_fault, members_fault, operands_fault, defs_fault, fields_fault}
use Rattle.fy_expand.specs.Imports.{scope_in, AreAmong, HideNothing, PhrasesMeanTheSame}
use Rattle.fy_expand.proofs.AlikeScopes.{type-placed, IsSameStanding, IsSameScope, before-none, KnownTogether, IsKnown, known-under, known-type, known-members, known-defs}
use Rattle.fy_expand.proofs.ImportLemmas.{scope-among, means-the-same}

-- ---- tests

before-test : (a b c d : Option ExpandError) → is_none a ≡ is_none c → is_none b ≡ is_none d → is_none (a before b) ≡ is_none (c before d)
before-test None b None d e f = f
before-test None b (Some y) d e f = absurd cc
before-test (Some x) b None d e f = absurd cc
before-test (Some x) b (Some y) d e f = refl

if-test : (s t : Bool) (e f : ExpandError) → s ≡ t → is_none (fault_if s e) ≡ is_none (fault_if t f)
if-test true true e f h = refl
if-test false false e f h = refl
if-test true false e f h = absurd cc
if-test false true e f h = absurd cc

operand-test : (at : Place) (o : Option ExpandError) → is_none (operand_fault at o) ≡ false
operand-test at None = refl
operand-test at (Some x) = by (goes_first at x)
  where
    by : (b : Bool) → is_none (cond b (Some x) (Some (errors.MergeRight at))) ≡ false
    by true = refl
    by false = refl

choice-test : (s t : Bool) (a b : Place) (o r : Option ExpandError) → s ≡ t → is_none o ≡ is_none r → is_none (cond s o (operand_fault a o)) ≡ is_none (cond t r (operand_fault b r))
choice-test true true a b o r e f = f
choice-test false false a b o r e f = operand-test a o ∙ sym (operand-test b r)
choice-test true false a b o r e f = absurd cc
choice-test false true a b o r e f = absurd cc

-- ---- places

mutual
  unknown-placed : (types : ℕ → Option PlainType) (a : TypeTree) → is_none (unknown types a) ≡ is_none (unknown types (type_without_places a))
  unknown-placed types (TypeTree.arrow a b at) = before-test _ _ _ _ (unknown-placed types a) (unknown-placed types b)
  unknown-placed types (TypeTree.meet members at) = unknowns-placed types members
  unknown-placed types (TypeTree.field names a at) = unknown-placed types a
  unknown-placed types (TypeTree.ns at) = refl
  unknown-placed types (TypeTree.atom a at) = refl
  unknown-placed types (TypeTree.ident name at) = if-test (is_none (types name)) (is_none (types name)) _ _ refl
  unknown-placed types (TypeTree.group a at) = unknown-placed types a

  unknowns-placed : (types : ℕ → Option PlainType) (ms : TypeTrees) → is_none (all_unknown types ms) ≡ is_none (all_unknown types (types_without_places ms))
  unknowns-placed types TypeTrees.no_types = refl
  unknowns-placed types (TypeTrees.and_type a more) = before-test _ _ _ _ (unknown-placed types a) (unknowns-placed types more)

type_fault-placed : (types : ℕ → Option PlainType) (a : TypeTree) → is_none (type_fault types a) ≡ is_none (type_fault types (type_without_places a))
type_fault-placed types a = before-test _ _ _ _ (unknown-placed types a) (if-test (is_large_type (type_of types a)) (is_large_type (type_of types (type_without_places a))) _ _ (ap is_large_type (type-placed types a)))

types_fault-placed : (types : ℕ → Option PlainType) (ms : TypeTrees) → is_none (types_fault types ms) ≡ is_none (types_fault types (types_without_places ms))
types_fault-placed types TypeTrees.no_types = refl
types_fault-placed types (TypeTrees.and_type a more) = before-test _ _ _ _ (type_fault-placed types a) (types_fault-placed types more)

types_count-placed : (ms : TypeTrees) → types_count ms ≡ types_count (types_without_places ms)
types_count-placed TypeTrees.no_types = refl
types_count-placed (TypeTrees.and_type a more) = ap suc (types_count-placed more)

decls_fault-placed : (types : ℕ → Option PlainType) (seen : List ℕ) (ds : List DeclTree) → is_none (decls_fault types seen ds) ≡ is_none (decls_fault types seen (decls_without_places ds))
decls_fault-placed types seen [] = refl
decls_fault-placed types seen (d ∷ more) =
    before-test _ _ _ _ (if-test (is_among seen d.name) (is_among seen d.name) _ _ refl) (before-test _ _ _ _ (type_fault-placed types d.type) (decls_fault-placed types (seen ++ d.name ∷ []) more))

operand-placed : (t : Tree) → is_operand t ≡ is_operand (without_places t)
operand-placed (Tree.lam x alternatives p at) = refl
operand-placed (Tree.field i p at) = refl
operand-placed (Tree.accept x kind p at) = refl
operand-placed (Tree.group p at) = operand-placed p
operand-placed (Tree.let_type x a p at) = operand-placed p
operand-placed _ = refl

with_defs-placed : (d : ℕ) (defs : Defs) (o : ℕ → Option Standing) → with_defs d defs o ≡ with_defs d (defs_without_places defs) o
with_defs-placed d Defs.no_defs o = refl
with_defs-placed d (Defs.and_def x at p more) o = ap (with x (Variable d)) (with_defs-placed (suc d) more o)

depth-placed : (d : ℕ) (defs : Defs) → depth_under d defs ≡ depth_under d (defs_without_places defs)
depth-placed d Defs.no_defs = refl
depth-placed d (Defs.and_def x at p more) = depth-placed (suc d) more

with_members-placed : (d : ℕ) (ds : List DeclTree) (o : ℕ → Option Standing) → with_members d ds o ≡ with_members d (decls_without_places ds) o
with_members-placed d [] o = refl
with_members-placed d (x ∷ ds) o = ap (with x.name (Member d)) (with_members-placed d ds o)

defs-scope : (s : Scope) (defs : Defs) → under_defs defs s ≡ under_defs (defs_without_places defs) s
defs-scope s defs =
    let first : ℕ → Scope = λ n. record { depth = n; phrases = with_defs s.depth defs s.phrases; types = s.types } in
    let second : (ℕ → Option Standing) → Scope = λ f. record { depth = depth_under s.depth (defs_without_places defs); phrases = f; types = s.types } in
    ap first (depth-placed s.depth defs) ∙ ap second (with_defs-placed s.depth defs s.phrases)

members-scope : (s : Scope) (ds : List DeclTree) → under_members ds s ≡ under_members (decls_without_places ds) s
members-scope s ds =
    let second : (ℕ → Option Standing) → Scope = λ f. record { depth = suc s.depth; phrases = f; types = s.types } in ap second (with_members-placed s.depth ds s.phrases)

type-scope : (s : Scope) (x : ℕ) (a : TypeTree) → with_type x a s ≡ with_type x (type_without_places a) s
type-scope s x a =
    let second : PlainType → Scope = λ A. record { depth = s.depth; phrases = s.phrases; types = with x A s.types } in ap second (type-placed s.types a)

moved : (s r : Scope) (t : Tree) → s ≡ r → is_none (fault s (without_places t)) ≡ is_none (fault r (without_places t))
moved s r t e = ap (λ x. is_none (fault x (without_places t))) e

mutual
  fault-placed : (t : Tree) (s : Scope) → is_none (fault s t) ≡ is_none (fault s (without_places t))
  fault-placed (Tree.merge members at) s = members-placed members s
  fault-placed (Tree.sequence items at) s = all-placed items s
  fault-placed (Tree.lam x ms p at) s =
      before-test _ _ _ _ (if-test (nat_lt 16 (types_count ms)) (nat_lt 16 (types_count (types_without_places ms))) _ _ (ap (nat_lt 16) (types_count-placed ms)))
      (before-test _ _ _ _ (types_fault-placed s.types ms) (fault-placed p (under x s)))
  fault-placed (Tree.let_in defs p at) s =
      before-test _ _ _ _ (defs-placed defs s []) (fault-placed p (under_defs defs s) ∙ moved (under_defs defs s) (under_defs (defs_without_places defs) s) p (defs-scope s defs))
  fault-placed (Tree.letrec ds defs i p at) s =
      before-test _ _ _ _ (decls_fault-placed s.types [] ds)
      (before-test _ _ _ _ (fields-placed defs ds (under_members ds s) i no_place ∙ ap (λ x. is_none (fields_fault x no_place (decls_without_places ds) (defs_without_places defs))) (members-scope s ds))
      (fault-placed p (under_members ds s) ∙ moved (under_members ds s) (under_members (decls_without_places ds) s) p (members-scope s ds)))
  fault-placed (Tree.let_type x a p at) s =
      before-test _ _ _ _ (type_fault-placed s.types a) (fault-placed p (with_type x a s) ∙ moved (with_type x a s) (with_type x (type_without_places a) s) p (type-scope s x a))
  fault-placed (Tree.new x kind p q at) s = before-test _ _ _ _ (fault-placed p s) (fault-placed q (under x s))
  fault-placed (Tree.escape x p at) s = fault-placed p (under x s)
  fault-placed (Tree.accept x kind p at) s = fault-placed p (under x s)
  fault-placed (Tree.cond b p q at) s = before-test _ _ _ _ (fault-placed b s) (before-test _ _ _ _ (fault-placed p s) (fault-placed q s))
  fault-placed (Tree.while_do b p at) s = before-test _ _ _ _ (fault-placed b s) (fault-placed p s)
  fault-placed (Tree.loop p at) s = fault-placed p s
  fault-placed (Tree.field i p at) s = fault-placed p s
  fault-placed (Tree.assign p becomes_at q at) s = before-test _ _ _ _ (fault-placed p s) (fault-placed q s)
  fault-placed (Tree.chain p links at) s = before-test _ _ _ _ (fault-placed p s) (links-placed links s)
  fault-placed (Tree.prefixed operators p at) s = fault-placed p s
  fault-placed (Tree.apply p arguments at) s = before-test _ _ _ _ (fault-placed p s) (all-placed arguments s)
  fault-placed (Tree.select p names at) s = fault-placed p s
  fault-placed (Tree.ident x at) s = if-test (is_none (s.phrases x)) (is_none (s.phrases x)) _ _ refl
  fault-placed (Tree.number v at) s = refl
  fault-placed (Tree.letter c at) s = refl
  fault-placed (Tree.string bytes at) s = refl
  fault-placed (Tree.truth b at) s = refl
  fault-placed (Tree.skip at) s = refl
  fault-placed (Tree.group p at) s = fault-placed p s
  fault-placed (Tree.seq_of parts at) s = all-placed parts s

  all-placed : (ts : Trees) (s : Scope) → is_none (all_faults s ts) ≡ is_none (all_faults s (trees_without_places ts))
  all-placed Trees.no_trees s = refl
  all-placed (Trees.and_tree p more) s = before-test _ _ _ _ (fault-placed p s) (all-placed more s)

  links-placed : (ls : Links) (s : Scope) → is_none (links_fault s ls) ≡ is_none (links_fault s (links_without_places ls))
  links-placed Links.no_links s = refl
  links-placed (Links.and_link op at p more) s = before-test _ _ _ _ (fault-placed p s) (links-placed more s)

  members-placed : (ts : Trees) (s : Scope) → is_none (members_fault s ts) ≡ is_none (members_fault s (trees_without_places ts))
  members-placed Trees.no_trees s = refl
  members-placed (Trees.and_tree p more) s = before-test _ _ _ _ (fault-placed p s) (operands-placed more s)

  operands-placed : (ts : Trees) (s : Scope) → is_none (operands_fault s ts) ≡ is_none (operands_fault s (trees_without_places ts))
  operands-placed Trees.no_trees s = refl
  operands-placed (Trees.and_tree p more) s =
      before-test _ _ _ _ (choice-test (is_operand p) (is_operand (without_places p)) (front p) (front (without_places p)) (fault s p) (fault s (without_places p)) (operand-placed p) (fault-placed p s)) (operands-placed more s)

  defs-placed : (defs : Defs) (s : Scope) (seen : List ℕ) → is_none (defs_fault s seen defs) ≡ is_none (defs_fault s seen (defs_without_places defs))
  defs-placed Defs.no_defs s seen = refl
  defs-placed (Defs.and_def x at p more) s seen =
      before-test _ _ _ _ (if-test (is_among seen x) (is_among seen x) _ _ refl) (before-test _ _ _ _ (fault-placed p s) (defs-placed more s (seen ++ x ∷ [])))

  fields-placed : (defs : Defs) (ds : List DeclTree) (s : Scope) (i j : Place) → is_none (fields_fault s i ds defs) ≡ is_none (fields_fault s j (decls_without_places ds) (defs_without_places defs))
  fields-placed Defs.no_defs [] s i j = refl
  fields-placed Defs.no_defs (d ∷ ds) s i j = refl
  fields-placed (Defs.and_def f at p more) [] s i j = refl
  fields-placed (Defs.and_def f at p more) (d ∷ ds) s i j =
      before-test _ _ _ _ (if-test (not (eqb f d.name)) (not (eqb f d.name)) _ _ refl) (before-test _ _ _ _ (fault-placed p s) (fields-placed more ds s i j))

-- ---- scopes

-- what z knows r knows, and types are the same
pub record IsWider (z r : Scope) : Type 0 where
  pub known : IsKnown z r
  pub types : z.types ≡ r.types

pub both-none : (a b : Option ExpandError) → a ≡ None → b ≡ None → a before b ≡ None
both-none None b e f = f
both-none (Some x) b e f = absurd cc

wider-under : (z r : Scope) (x : ℕ) → IsWider z r → IsWider (under x z) (under x r)
wider-under z r x h = record { known = known-under z r x h.known; types = h.types }

wider-defs : (z r : Scope) (defs : Defs) → IsWider z r → IsWider (under_defs defs z) (under_defs defs r)
wider-defs z r defs h = record { known = known-defs z r defs h.known; types = h.types }

wider-members : (z r : Scope) (ds : List DeclTree) → IsWider z r → IsWider (under_members ds z) (under_members ds r)
wider-members z r ds h = record { known = known-members z r ds h.known; types = h.types }

wider-type : (z r : Scope) (x : ℕ) (a : TypeTree) → IsWider z r → IsWider (with_type x a z) (with_type x a r)
wider-type z r x a h = record { known = known-type z r x a a h.known; types = ap (λ y. with x (type_of y a) y) h.types }

choice-none : (t : Bool) (at : Place) (o r : Option ExpandError) → (o ≡ None → r ≡ None) → cond t o (operand_fault at o) ≡ None → cond t r (operand_fault at r) ≡ None
choice-none true at o r f e = f e
choice-none false at o r f e = let x : is_none (operand_fault at o) ≡ true = ap is_none e in let y = sym (operand-test at o) ∙ x in absurd cc

name-none : (o r : Option Standing) (e : ExpandError) → KnownTogether o r → fault_if (is_none o) e ≡ None → fault_if (is_none r) e ≡ None
name-none None r e k h = absurd cc
name-none (Some a) None e k h = absurd k
name-none (Some a) (Some b) e k h = refl

then-none : (a b c d : Option ExpandError) → (a ≡ None → c ≡ None) → (b ≡ None → d ≡ None) → a before b ≡ None → c before d ≡ None
then-none a b c d f g e = let h = before-none a b e in both-none c d (f h.0) (g h.1)

mutual
  clear-wider : (t : Tree) (z r : Scope) → IsWider z r → fault z t ≡ None → fault r t ≡ None
  clear-wider (Tree.merge members at) z r h = members-wider members z r h
  clear-wider (Tree.sequence items at) z r h = all-wider items z r h
  clear-wider (Tree.lam x ms p at) z r h =
      then-none (fault_if (nat_lt 16 (types_count ms)) (errors.TooManyAlternatives at)) (types_fault z.types ms before fault (under x z) p) (fault_if (nat_lt 16 (types_count ms)) (errors.TooManyAlternatives at)) (types_fault r.types ms before fault (under x r) p) (λ e. e)
      (then-none (types_fault z.types ms) (fault (under x z) p) (types_fault r.types ms) (fault (under x r) p) (λ e. subst (λ y. types_fault y ms ≡ None) h.types e) (clear-wider p (under x z) (under x r) (wider-under z r x h)))
  clear-wider (Tree.let_in defs p at) z r h =
      then-none (defs_fault z [] defs) (fault (under_defs defs z) p) (defs_fault r [] defs) (fault (under_defs defs r) p) (defs-wider defs z r [] h) (clear-wider p (under_defs defs z) (under_defs defs r) (wider-defs z r defs h))
  clear-wider (Tree.letrec ds defs i p at) z r h =
      let w = wider-members z r ds h in
      then-none (decls_fault z.types [] ds) (fields_fault (under_members ds z) i ds defs before fault (under_members ds z) p) (decls_fault r.types [] ds) (fields_fault (under_members ds r) i ds defs before fault (under_members ds r) p)
      (λ e. subst (λ y. decls_fault y [] ds ≡ None) h.types e)
      (then-none (fields_fault (under_members ds z) i ds defs) (fault (under_members ds z) p) (fields_fault (under_members ds r) i ds defs) (fault (under_members ds r) p)
      (fields-wider defs ds (under_members ds z) (under_members ds r) i w) (clear-wider p (under_members ds z) (under_members ds r) w))
  clear-wider (Tree.let_type x a p at) z r h =
      then-none (type_fault z.types a) (fault (with_type x a z) p) (type_fault r.types a) (fault (with_type x a r) p) (λ e. subst (λ y. type_fault y a ≡ None) h.types e) (clear-wider p (with_type x a z) (with_type x a r) (wider-type z r x a h))
  clear-wider (Tree.new x kind p q at) z r h = then-none (fault z p) (fault (under x z) q) (fault r p) (fault (under x r) q) (clear-wider p z r h) (clear-wider q (under x z) (under x r) (wider-under z r x h))
  clear-wider (Tree.escape x p at) z r h = clear-wider p (under x z) (under x r) (wider-under z r x h)
  clear-wider (Tree.accept x kind p at) z r h = clear-wider p (under x z) (under x r) (wider-under z r x h)
  clear-wider (Tree.cond b p q at) z r h =
      then-none (fault z b) (fault z p before fault z q) (fault r b) (fault r p before fault r q) (clear-wider b z r h) (then-none (fault z p) (fault z q) (fault r p) (fault r q) (clear-wider p z r h) (clear-wider q z r h))
  clear-wider (Tree.while_do b p at) z r h = then-none (fault z b) (fault z p) (fault r b) (fault r p) (clear-wider b z r h) (clear-wider p z r h)
  clear-wider (Tree.loop p at) z r h = clear-wider p z r h
  clear-wider (Tree.field i p at) z r h = clear-wider p z r h
  clear-wider (Tree.assign p becomes_at q at) z r h = then-none (fault z p) (fault z q) (fault r p) (fault r q) (clear-wider p z r h) (clear-wider q z r h)
  clear-wider (Tree.chain p links at) z r h = then-none (fault z p) (links_fault z links) (fault r p) (links_fault r links) (clear-wider p z r h) (links-wider links z r h)
  clear-wider (Tree.prefixed operators p at) z r h = clear-wider p z r h
  clear-wider (Tree.apply p arguments at) z r h = then-none (fault z p) (all_faults z arguments) (fault r p) (all_faults r arguments) (clear-wider p z r h) (all-wider arguments z r h)
  clear-wider (Tree.select p names at) z r h = clear-wider p z r h
  clear-wider (Tree.ident x at) z r h = name-none (z.phrases x) (r.phrases x) (errors.UnknownName at) (h.known.names x)
  clear-wider (Tree.number v at) z r h = λ e. refl
  clear-wider (Tree.letter c at) z r h = λ e. refl
  clear-wider (Tree.string bytes at) z r h = λ e. refl
  clear-wider (Tree.truth b at) z r h = λ e. refl
  clear-wider (Tree.skip at) z r h = λ e. refl
  clear-wider (Tree.group p at) z r h = clear-wider p z r h
  clear-wider (Tree.seq_of parts at) z r h = all-wider parts z r h

  all-wider : (ts : Trees) (z r : Scope) → IsWider z r → all_faults z ts ≡ None → all_faults r ts ≡ None
  all-wider Trees.no_trees z r h = λ e. refl
  all-wider (Trees.and_tree p more) z r h = then-none (fault z p) (all_faults z more) (fault r p) (all_faults r more) (clear-wider p z r h) (all-wider more z r h)

  links-wider : (ls : Links) (z r : Scope) → IsWider z r → links_fault z ls ≡ None → links_fault r ls ≡ None
  links-wider Links.no_links z r h = λ e. refl
  links-wider (Links.and_link op at p more) z r h = then-none (fault z p) (links_fault z more) (fault r p) (links_fault r more) (clear-wider p z r h) (links-wider more z r h)

  members-wider : (ts : Trees) (z r : Scope) → IsWider z r → members_fault z ts ≡ None → members_fault r ts ≡ None
  members-wider Trees.no_trees z r h = λ e. refl
  members-wider (Trees.and_tree p more) z r h = then-none (fault z p) (operands_fault z more) (fault r p) (operands_fault r more) (clear-wider p z r h) (operands-wider more z r h)

  operands-wider : (ts : Trees) (z r : Scope) → IsWider z r → operands_fault z ts ≡ None → operands_fault r ts ≡ None
  operands-wider Trees.no_trees z r h = λ e. refl
  operands-wider (Trees.and_tree p more) z r h =
      then-none (cond (is_operand p) (fault z p) (operand_fault (front p) (fault z p))) (operands_fault z more) (cond (is_operand p) (fault r p) (operand_fault (front p) (fault r p))) (operands_fault r more)
      (choice-none (is_operand p) (front p) (fault z p) (fault r p) (clear-wider p z r h)) (operands-wider more z r h)

  defs-wider : (defs : Defs) (z r : Scope) (seen : List ℕ) → IsWider z r → defs_fault z seen defs ≡ None → defs_fault r seen defs ≡ None
  defs-wider Defs.no_defs z r seen h = λ e. refl
  defs-wider (Defs.and_def x at p more) z r seen h =
      then-none (fault_if (is_among seen x) (errors.DoubleName at)) (fault z p before defs_fault z (seen ++ x ∷ []) more) (fault_if (is_among seen x) (errors.DoubleName at)) (fault r p before defs_fault r (seen ++ x ∷ []) more) (λ e. e)
      (then-none (fault z p) (defs_fault z (seen ++ x ∷ []) more) (fault r p) (defs_fault r (seen ++ x ∷ []) more) (clear-wider p z r h) (defs-wider more z r (seen ++ x ∷ []) h))

  fields-wider : (defs : Defs) (ds : List DeclTree) (z r : Scope) (i : Place) → IsWider z r → fields_fault z i ds defs ≡ None → fields_fault r i ds defs ≡ None
  fields-wider Defs.no_defs [] z r i h = λ e. refl
  fields-wider Defs.no_defs (d ∷ ds) z r i h = λ e. e
  fields-wider (Defs.and_def f at p more) [] z r i h = λ e. e
  fields-wider (Defs.and_def f at p more) (d ∷ ds) z r i h =
      then-none (fault_if (not (eqb f d.name)) (errors.LetrecName at)) (fault z p before fields_fault z i ds more) (fault_if (not (eqb f d.name)) (errors.LetrecName at)) (fault r p before fields_fault r i ds more) (λ e. e)
      (then-none (fault z p) (fields_fault z i ds more) (fault r p) (fields_fault r i ds more) (clear-wider p z r h) (fields-wider more ds z r i h))

-- ---- imports

same-known : (f : ℕ → ℕ) (d e : ℕ) (o r : Option Standing) → IsSameStanding true f d e o r → KnownTogether o r
same-known f d e None r h = tt
same-known f d e (Some (Variable i)) r h = subst (KnownTogether (Some (Variable i))) (sym h.1) tt
same-known f d e (Some (Member i)) r h = subst (KnownTogether (Some (Member i))) (sym h.1) tt

scope-wider : (f : ℕ → ℕ) (s r : Scope) → IsSameScope true f s r → IsWider s r
scope-wider f s r h = record { known = record { names = λ n. same-known f s.depth r.depth (s.phrases n) (r.phrases n) (h.phrases n) }; types = h.types }

is-none : (o : Option ExpandError) → is_none o ≡ true → o ≡ None
is-none None e = refl
is-none (Some x) e = absurd cc

pub stays-clear : (I E : List ℕ) (t u : Tree) → AreAmong I E → HideNothing E → fault (scope_in I) t ≡ None → without_places t ≡ without_places u → fault (scope_in E) u ≡ None
stays-clear I E t u l h g e =
    let a : fault (scope_in E) t ≡ None = clear-wider t (scope_in I) (scope_in E) (scope-wider _ (scope_in I) (scope_in E) (scope-among I E l h)) g in
    is-none (fault (scope_in E) u)
    (fault-placed u (scope_in E) ∙ ap (λ v. is_none (fault (scope_in E) v)) (sym e) ∙ sym (fault-placed t (scope_in E)) ∙ ap is_none a)

pub phrases_mean_the_same : PhrasesMeanTheSame
phrases_mean_the_same = record { means = means-the-same; clear = stays-clear }
