-- The faults of a written phrase, in the order of the text.
use Rattle.std.specs.Prelude.{ℕ, suc, Bool, true, false, not, ◌&&◌, ◌==◌, nat_lt, if◌then◌else◌, Option, Some, None, is_none, List, [], ◌∷◌, ◌++◌}
use Rattle.std.specs.List.{list_any}
use Rattle.fy_base.specs.declared.data.Place.{Place}
use Rattle.fy_types.specs.Types.{PlainType}
use Rattle.fy_syntax.specs.Trees.{TypeTree, TypeTrees, DeclTree, Tree, Trees, Defs, Links}
use Rattle.fy_expand.specs.declared.error.ExpandError.{ExpandError}
use Rattle.fy_expand.specs.declared.error.ExpandError.TheVariants.{UnknownName, UnknownType, DoubleName, LetrecName, MergeRight, TooManyAlternatives, TypeTooLarge, TooDeep, TooLarge, TooManyVisits, OutOfMemory}
use Rattle.fy_expand.specs.Types.{type_of, type_front, is_large_type}
use Rattle.fy_expand.specs.Scope.{Scope, under, under_defs, under_members, with_type}
use Rattle.fy_expand.specs.Front.{front}

-- the first fault: this one where there is one, else the later one
infixr 10 ◌before◌
abbrev pub ◌before◌ : Option ExpandError → Option ExpandError → Option ExpandError
None before later = later
(Some e) before later = Some e

-- a fault where the test holds
abbrev pub fault_if : Bool → ExpandError → Option ExpandError
fault_if test e = if test then Some e else None

-- a name is one of these
abbrev pub is_among : List ℕ → ℕ → Bool
is_among names name = list_any (λ n. n == name) names

-- the first name in a type that stands for none
abbrev mutual
  pub unknown : (ℕ → Option PlainType) → TypeTree → Option ExpandError
  unknown types (TypeTree.arrow a b at) = unknown types a before unknown types b
  unknown types (TypeTree.meet members at) = all_unknown types members
  unknown types (TypeTree.field names a at) = unknown types a
  unknown types (TypeTree.ns at) = None
  unknown types (TypeTree.atom a at) = None
  unknown types (TypeTree.ident name at) = fault_if (is_none (types name)) (UnknownType at)
  unknown types (TypeTree.group a at) = unknown types a

  pub all_unknown : (ℕ → Option PlainType) → TypeTrees → Option ExpandError
  all_unknown types TypeTrees.no_types = None
  all_unknown types (TypeTrees.and_type a more) = unknown types a before all_unknown types more

-- a written type: a name that stands for none, else that it is too large once its names are replaced
abbrev pub type_fault : (ℕ → Option PlainType) → TypeTree → Option ExpandError
type_fault types a = unknown types a before fault_if (is_large_type (type_of types a)) (TypeTooLarge (type_front a))

abbrev pub types_fault : (ℕ → Option PlainType) → TypeTrees → Option ExpandError
types_fault types TypeTrees.no_types = None
types_fault types (TypeTrees.and_type a more) = type_fault types a before types_fault types more

abbrev pub types_count : TypeTrees → ℕ
types_count TypeTrees.no_types = 0
types_count (TypeTrees.and_type a more) = suc (types_count more)

-- the declarations of a `letrec`, behind those of these names
abbrev pub decls_fault : (ℕ → Option PlainType) → List ℕ → List DeclTree → Option ExpandError
decls_fault types seen [] = None
decls_fault types seen (d ∷ more) =
    fault_if (is_among seen d.name) (DoubleName d.at) before type_fault types d.type before decls_fault types (seen ++ d.name ∷ []) more

-- once it is expanded, the phrase is an abstraction, a field definition or an acceptor
abbrev pub is_operand : Tree → Bool
is_operand (Tree.lam x alternatives p at) = true
is_operand (Tree.field i p at) = true
is_operand (Tree.accept x kind p at) = true
is_operand (Tree.group p at) = is_operand p
is_operand (Tree.let_type x a p at) = is_operand p
is_operand _ = false

abbrev pub is_same_place : Place → Place → Bool
is_same_place a b = (a.line == b.line) && (a.col == b.col)

-- a fault at that place that is listed before `MergeRight`
abbrev pub goes_first : Place → ExpandError → Bool
goes_first at (UnknownName here) = is_same_place here at
goes_first at (UnknownType here) = is_same_place here at
goes_first at (DoubleName here) = is_same_place here at
goes_first at (LetrecName here) = is_same_place here at
goes_first at (MergeRight here) = false
goes_first at (TooManyAlternatives here) = false
goes_first at (TypeTooLarge here) = false
goes_first at TooDeep = false
goes_first at TooLarge = false
goes_first at TooManyVisits = false
goes_first at OutOfMemory = false

-- of a right operand that begins at this place and is of another kind: `MergeRight` there, unless a fault inside goes first
abbrev pub operand_fault : Place → Option ExpandError → Option ExpandError
operand_fault at None = Some (MergeRight at)
operand_fault at (Some e) = if goes_first at e then Some e else Some (MergeRight at)

abbrev mutual
  -- the first fault of a phrase, by what the names stand for: its parts in the order in which they are written
  pub fault : Scope → Tree → Option ExpandError
  fault s (Tree.merge members at) = members_fault s members
  fault s (Tree.sequence items at) = all_faults s items
  fault s (Tree.lam x alternatives p at) =
      fault_if (nat_lt 16 (types_count alternatives)) (TooManyAlternatives at) before types_fault s.types alternatives before fault (under x s) p
  fault s (Tree.let_in defs p at) = defs_fault s [] defs before fault (under_defs defs s) p
  fault s (Tree.letrec decls defs in_at p at) =
      decls_fault s.types [] decls before fields_fault (under_members decls s) in_at decls defs before fault (under_members decls s) p
  fault s (Tree.let_type x a p at) = type_fault s.types a before fault (with_type x a s) p
  fault s (Tree.new x kind p q at) = fault s p before fault (under x s) q
  fault s (Tree.escape x p at) = fault (under x s) p
  fault s (Tree.accept x kind p at) = fault (under x s) p
  fault s (Tree.cond b p q at) = fault s b before fault s p before fault s q
  fault s (Tree.while_do b p at) = fault s b before fault s p
  fault s (Tree.loop p at) = fault s p
  fault s (Tree.field i p at) = fault s p
  fault s (Tree.assign p becomes_at q at) = fault s p before fault s q
  fault s (Tree.chain p links at) = fault s p before links_fault s links
  fault s (Tree.prefixed operators p at) = fault s p
  fault s (Tree.apply p arguments at) = fault s p before all_faults s arguments
  fault s (Tree.select p names at) = fault s p
  fault s (Tree.ident x at) = fault_if (is_none (s.phrases x)) (UnknownName at)
  fault s (Tree.number v at) = None
  fault s (Tree.letter c at) = None
  fault s (Tree.string bytes at) = None
  fault s (Tree.truth b at) = None
  fault s (Tree.skip at) = None
  fault s (Tree.group p at) = fault s p
  fault s (Tree.seq_of parts at) = all_faults s parts

  pub all_faults : Scope → Trees → Option ExpandError
  all_faults s Trees.no_trees = None
  all_faults s (Trees.and_tree p more) = fault s p before all_faults s more

  pub links_fault : Scope → Links → Option ExpandError
  links_fault s Links.no_links = None
  links_fault s (Links.and_link op at p more) = fault s p before links_fault s more

  pub members_fault : Scope → Trees → Option ExpandError
  members_fault s Trees.no_trees = None
  members_fault s (Trees.and_tree p more) = fault s p before operands_fault s more

  -- the members of a merge behind the first
  pub operands_fault : Scope → Trees → Option ExpandError
  operands_fault s Trees.no_trees = None
  operands_fault s (Trees.and_tree p more) =
      (if is_operand p then fault s p else operand_fault (front p) (fault s p)) before operands_fault s more

  -- the definitions of a `let`, with the outer names, behind those of these names
  pub defs_fault : Scope → List ℕ → Defs → Option ExpandError
  defs_fault s seen Defs.no_defs = None
  defs_fault s seen (Defs.and_def x at p more) = fault_if (is_among seen x) (DoubleName at) before fault s p before defs_fault s (seen ++ x ∷ []) more

  -- the definitions of a `letrec`, each with the declared name of its position
  pub fields_fault : Scope → Place → List DeclTree → Defs → Option ExpandError
  fields_fault s in_at [] Defs.no_defs = None
  fields_fault s in_at [] (Defs.and_def f at p more) = Some (LetrecName at)
  fields_fault s in_at (d ∷ decls) Defs.no_defs = Some (LetrecName in_at)
  fields_fault s in_at (d ∷ decls) (Defs.and_def f at p more) =
      fault_if (not (f == d.name)) (LetrecName at) before fault s p before fields_fault s in_at decls more

-- the members of a merge from here on, of which the first may be the first of all
abbrev pub rest_fault : Bool → Scope → Trees → Option ExpandError
rest_fault true s members = members_fault s members
rest_fault false s members = operands_fault s members
