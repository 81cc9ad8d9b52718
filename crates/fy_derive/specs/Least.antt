-- The least type of a phrase, as a list of paths; the visits of a phrase, and the shapes that the least types of all visits have.
-- That a phrase has exactly the types above its least type is a law.
use Rattle.std.specs.Prelude.{ℕ, ◌+◌, Bool, ◌&&◌, ◌||◌, ◌==◌, List, [], ◌∷◌, ◌++◌, map, slice_index_or, Option, Some, None, if◌then◌else◌}
use Rattle.fy_base.specs.declared.data.BinOp.{BinOp}
use Rattle.fy_types.specs.declared.types.Atom.{Atom}
use Rattle.fy_types.specs.declared.types.Atom.TheVariants.{Int, Bool as Truth, Comm, Compl, IntAcc}
use Rattle.fy_types.specs.Types.{PlainType, PlainTypes, atom, no_types, and_type}
use Rattle.fy_types.specs.Paths.{PlainPath, PlainPaths, end, call, pick, no_paths, and_path, append, called, picked, paths}
use Rattle.fy_types.specs.Once.{once}
use Rattle.fy_types.specs.Bounds.{meet_of, join_of}
use Rattle.fy_phrase.specs.declared.phrase.DataTy.{DataTy}
use Rattle.fy_phrase.specs.declared.phrase.DataTy.TheVariants as data_type
use Rattle.fy_phrase.specs.Tree.{Tree, Trees, no_trees, and_tree, var, lit, unary, binary, cond, case, lam, app, field, sel, merge, let_in, rec, skip, seq, assign, while_do, forever, new, cells, escape, accept, put, read, mark}
use Rattle.fy_phrase.specs.Sizes.{nodes}
use Rattle.fy_derive.specs.Atoms.{data_atom, acceptor_atom, cell_type, sequence_type, datum_atom, operand_atom, unary_atom, takes, binary_atom, put_atom}
use Rattle.fy_derive.specs.Kinds.{Kind, kind_of, begins}
use Rattle.fy_derive.specs.Subsumption.{some_below, paths_below}
use Rattle.fy_derive.specs.Shapes.{PlainShape, erase, HasPath}

-- the context of paths of a context of types
abbrev pub forms_of : List PlainType → List PlainPaths
forms_of G = map paths G

-- the paths of the variable, and none where the context ends before it
abbrev pub paths_at : List PlainPaths → ℕ → PlainPaths
paths_at G k = slice_index_or G k no_paths

-- the path that ends at once
abbrev pub one_end : Atom → PlainPaths
one_end a = and_path (end a) no_paths

-- the paths, if the test is passed, else none
abbrev pub if_passed : Bool → PlainPaths → PlainPaths
if_passed b P = if b then P else no_paths

-- a path without demands ends in the atom, or in `compl` where that is `comm`
abbrev pub has : PlainPaths → Atom → Bool
has P a = some_below P (end a)

-- some data type passes the test
abbrev pub some_data : (DataTy → Bool) → Bool
some_data f = f data_type.Int || (f data_type.Bool || f data_type.Char)

-- the operator takes two data of the type, and both operands have it
abbrev pub has_operands : BinOp → PlainPaths → PlainPaths → DataTy → Bool
has_operands op P Q D = takes op D && (has P (data_atom D) && has Q (data_atom D))

-- the first phrase takes data of the type, and the second has it
abbrev pub has_assignment : PlainPaths → PlainPaths → DataTy → Bool
has_assignment P Q D = has P (acceptor_atom D) && has Q (data_atom D)

-- `compl` where the phrase has it, else `comm` where it has that
abbrev pub command_of : PlainPaths → PlainPaths
command_of P = if has P Compl then one_end Compl else if_passed (has P Comm) (one_end Comm)

-- what the body has under each alternative, with the call of the alternative's paths in front
abbrev pub alternatives_of : PlainTypes → (PlainPaths → PlainPaths) → PlainPaths
alternatives_of no_types f = no_paths
alternatives_of (and_type A As) f = append (called (paths A) (f (paths A))) (alternatives_of As f)

-- the rest of a path that begins with a call that takes an argument with the paths Q
abbrev pub rest_of_call : PlainPaths → PlainPath → PlainPaths
rest_of_call Q (end a) = no_paths
rest_of_call Q (call D p) = if_passed (paths_below Q D) (and_path p no_paths)
rest_of_call Q (pick i p) = no_paths

abbrev pub rests_of_call : PlainPaths → PlainPaths → PlainPaths
rests_of_call Q no_paths = no_paths
rests_of_call Q (and_path p P) = append (rest_of_call Q p) (rests_of_call Q P)

-- the rest of a path that begins with the field
abbrev pub rest_of_field : ℕ → PlainPath → PlainPaths
rest_of_field i (end a) = no_paths
rest_of_field i (call D p) = no_paths
rest_of_field i (pick j p) = if_passed (i == j) (and_path p no_paths)

abbrev pub rests_of_field : ℕ → PlainPaths → PlainPaths
rests_of_field i no_paths = no_paths
rests_of_field i (and_path p P) = append (rest_of_field i p) (rests_of_field i P)

-- the paths that don't begin with a demand of the kind
abbrev pub others : Kind → PlainPaths → PlainPaths
others k no_paths = no_paths
others k (and_path p P) = if begins k p then others k P else and_path p (others k P)

-- what a merge has from its operands, whose right one is of the kind
abbrev pub merge_of : Option Kind → PlainPaths → PlainPaths → PlainPaths
merge_of None P Q = no_paths
merge_of (Some k) P Q = meet_of (others k P) Q

abbrev mutual
  -- the least type of the phrase, where the context has the paths of the variables in scope, the innermost first
  pub least_type : List PlainPaths → Tree → PlainPaths
  least_type G (var k at) = once (paths_at G k)
  least_type G (lit v at) = one_end (datum_atom v)
  least_type G (unary op p at) = if_passed (has (least_type G p) (operand_atom op)) (one_end (unary_atom op))
  least_type G (binary op p q at) =
      if_passed (some_data (has_operands op (least_type G p) (least_type G q))) (one_end (binary_atom op))
  least_type G (cond b p q at) = if_passed (has (least_type G b) Truth) (join_of (least_type G p) (least_type G q))
  least_type G (case e parts at) = if_passed (has (least_type G e) Int) (join_of_all G parts)
  least_type G (lam d As b at) = once (alternatives_of As (λ D. least_type (D ∷ G) b))
  least_type G (app p q at) = once (rests_of_call (least_type G q) (least_type G p))
  least_type G (field i p at) = picked i (least_type G p)
  least_type G (sel p i at) = rests_of_field i (least_type G p)
  least_type G (merge p q at) = merge_of (kind_of q) (least_type G p) (least_type G q)
  least_type G (let_in d p b at) = least_type (least_type G p ∷ G) b
  least_type G (rec d T b at) = if_passed (paths_below (least_type (paths T ∷ G) b) (paths T)) (once (paths T))
  least_type G (skip at) = one_end Comm
  least_type G (seq p q at) = if_passed (has (least_type G p) Comm) (command_of (least_type G q))
  least_type G (assign p q at) = if_passed (some_data (has_assignment (least_type G p) (least_type G q))) (one_end Comm)
  least_type G (while_do b c at) = if_passed (has (least_type G b) Truth && has (least_type G c) Comm) (one_end Comm)
  least_type G (forever c at) = if_passed (has (least_type G c) Comm) (one_end Compl)
  least_type G (new d D e b at) =
      if_passed (has (least_type G e) (data_atom D)) (command_of (least_type (paths (cell_type D) ∷ G) b))
  least_type G (cells d e b at) = if_passed (has (least_type G e) Int) (command_of (least_type (paths sequence_type ∷ G) b))
  least_type G (escape d b at) = if_passed (has (least_type (one_end Compl ∷ G) b) Comm) (one_end Comm)
  least_type G (accept d D b at) = if_passed (has (least_type (one_end (data_atom D) ∷ G) b) Comm) (one_end (acceptor_atom D))
  least_type G (put kind p at) = if_passed (has (least_type G p) (put_atom kind)) (one_end Comm)
  least_type G (read p at) = if_passed (has (least_type G p) IntAcc) (one_end Comm)
  least_type G (mark m at) = no_paths

  -- the join of the least types of all parts, from the left
  pub join_of_all : List PlainPaths → Trees → PlainPaths
  join_of_all G no_trees = no_paths
  join_of_all G (and_tree p ps) = join_behind G (least_type G p) ps

  -- the join of the paths and of the least types of the parts behind, from the left
  pub join_behind : List PlainPaths → PlainPaths → Trees → PlainPaths
  join_behind G P no_trees = P
  join_behind G P (and_tree p ps) = join_behind G (join_of P (least_type G p)) ps

-- a phrase under a context, and the number of its node
pub data Visit : Type 0 where
  visit : ℕ → List PlainPaths → Tree → Visit

-- the visits of the body under each alternative
abbrev pub visits_under : PlainTypes → (PlainPaths → List Visit) → List Visit
visits_under no_types f = []
visits_under (and_type A As) f = f (paths A) ++ visits_under As f

abbrev mutual
  -- the visits of the phrase, whose own node has the number m, and of its parts: an abstraction's body is visited under each alternative, and a
  -- phrase without a rule alone
  pub visits : ℕ → List PlainPaths → Tree → List Visit
  visits m G (var k at) = visit m G (var k at) ∷ []
  visits m G (lit v at) = visit m G (lit v at) ∷ []
  visits m G (unary op p at) = visit m G (unary op p at) ∷ visits (m + 1) G p
  visits m G (binary op p q at) = visit m G (binary op p q at) ∷ visits (m + 1) G p ++ visits (m + 1 + nodes p) G q
  visits m G (cond b p q at) =
      visit m G (cond b p q at) ∷ visits (m + 1) G b ++ (visits (m + 1 + nodes b) G p ++ visits (m + 1 + nodes b + nodes p) G q)
  visits m G (case e parts at) = visit m G (case e parts at) ∷ visits (m + 1) G e ++ visits_of_all (m + 1 + nodes e) G parts
  visits m G (lam d As b at) = visit m G (lam d As b at) ∷ visits_under As (λ D. visits (m + 1) (D ∷ G) b)
  visits m G (app p q at) = visit m G (app p q at) ∷ visits (m + 1) G p ++ visits (m + 1 + nodes p) G q
  visits m G (field i p at) = visit m G (field i p at) ∷ visits (m + 1) G p
  visits m G (sel p i at) = visit m G (sel p i at) ∷ visits (m + 1) G p
  visits m G (merge p q at) = visit m G (merge p q at) ∷ visits (m + 1) G p ++ visits (m + 1 + nodes p) G q
  visits m G (let_in d p b at) =
      visit m G (let_in d p b at) ∷ visits (m + 1) G p ++ visits (m + 1 + nodes p) (least_type G p ∷ G) b
  visits m G (rec d T b at) = visit m G (rec d T b at) ∷ visits (m + 1) (paths T ∷ G) b
  visits m G (skip at) = visit m G (skip at) ∷ []
  visits m G (seq p q at) = visit m G (seq p q at) ∷ visits (m + 1) G p ++ visits (m + 1 + nodes p) G q
  visits m G (assign p q at) = visit m G (assign p q at) ∷ visits (m + 1) G p ++ visits (m + 1 + nodes p) G q
  visits m G (while_do b c at) = visit m G (while_do b c at) ∷ visits (m + 1) G b ++ visits (m + 1 + nodes b) G c
  visits m G (forever c at) = visit m G (forever c at) ∷ visits (m + 1) G c
  visits m G (new d D e b at) =
      visit m G (new d D e b at) ∷ visits (m + 1) G e ++ visits (m + 1 + nodes e) (paths (cell_type D) ∷ G) b
  visits m G (cells d e b at) =
      visit m G (cells d e b at) ∷ visits (m + 1) G e ++ visits (m + 1 + nodes e) (paths sequence_type ∷ G) b
  visits m G (escape d b at) = visit m G (escape d b at) ∷ visits (m + 1) (one_end Compl ∷ G) b
  visits m G (accept d D b at) = visit m G (accept d D b at) ∷ visits (m + 1) (one_end (data_atom D) ∷ G) b
  visits m G (put kind p at) = visit m G (put kind p at) ∷ visits (m + 1) G p
  visits m G (read p at) = visit m G (read p at) ∷ visits (m + 1) G p
  visits m G (mark a at) = visit m G (mark a at) ∷ []

  pub visits_of_all : ℕ → List PlainPaths → Trees → List Visit
  visits_of_all m G no_trees = []
  visits_of_all m G (and_tree p ps) = visits m G p ++ visits_of_all (m + nodes p) G ps

-- one of the visits is of the node k, and its least type has a path of the shape
pub data HasLeastPair : List Visit → ℕ → PlainShape → Type 0 where
  this_visit : {k : ℕ} {G : List PlainPaths} {p : Tree} {vs : List Visit} {q : PlainPath} →
      HasPath (least_type G p) q → HasLeastPair (visit k G p ∷ vs) k (erase q)
  later_visit : {v : Visit} {vs : List Visit} {k : ℕ} {s : PlainShape} → HasLeastPair vs k s → HasLeastPair (v ∷ vs) k s

-- the pairs of phrase node and shape of the least types of all visits
abbrev pub least_shape_table : Tree → ℕ → PlainShape → Type 0
least_shape_table p k s = HasLeastPair (visits 0 [] p) k s
