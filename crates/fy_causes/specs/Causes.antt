-- Why a phrase that is blamed has no type of use.
use Rattle.std.specs.Prelude.{ℕ, zero, suc, ◌+◌, Bool, false, ◌||◌, List, [], ◌∷◌, map, Option, Some, None, slice_index_or, if◌then◌else◌}
use Rattle.std.specs.List.{filter}
use Rattle.fy_base.specs.declared.data.BinOp.{BinOp}
use Rattle.fy_types.specs.declared.types.Atom.{Atom}
use Rattle.fy_types.specs.declared.types.Atom.TheVariants.{Int, Bool as Truth, Comm, Compl, IntAcc}
use Rattle.fy_types.specs.Paths.{PlainPath, PlainPaths, end, call, pick, no_paths, and_path, append, paths}
use Rattle.fy_types.specs.Once.{once}
use Rattle.fy_types.specs.Bounds.{join_of}
use Rattle.fy_phrase.specs.declared.phrase.DataTy.{DataTy}
use Rattle.fy_phrase.specs.declared.phrase.DataTy.TheVariants as data_type
use Rattle.fy_phrase.specs.Tree.{Tree, var, lit, unary, binary, cond, case, lam, app, field, sel, merge, let_in, rec, skip, seq, assign, while_do, forever, new, cells, escape, accept, put, read, mark}
use Rattle.fy_derive.specs.Atoms.{data_atom, acceptor_atom, operand_atom, takes, put_atom}
use Rattle.fy_derive.specs.Clear.{has_none}
use Rattle.fy_derive.specs.Subsumption.{some_below}
use Rattle.fy_derive.specs.Least.{has}
use Rattle.fy_causes.specs.Occurrences.{Variable, least_in, part_types}

-- a domain, and a path of it that an argument hasn't
pub record Missed : Type 0 where
  pub domain : PlainPaths
  pub path : PlainPath

abbrev pub missed : PlainPaths → PlainPath → Missed
missed D x = record { domain = D; path = x }

-- why a phrase has no type of use
pub data Cause : Type 0 where
  -- it isn't a command
  not_command : Cause
  -- it is a name that has only `ns`
  useless : Cause
  -- the part with the index has none of the atoms that the rule takes there
  wants : ℕ → List Atom → Cause
  -- both operands have data that the operator takes, but no one type of them
  differ : Cause
  -- the branches have no type in common
  branches : Cause
  -- the part of a case with the index has nothing in common with what the parts before it have
  parts : ℕ → PlainPaths → Cause
  -- what is called is no procedure
  no_procedure : Cause
  -- the procedure takes these domains, each with the first path that the argument hasn't
  no_domain : List Missed → Cause
  -- the record has just these fields
  no_field : List ℕ → Cause
  -- the first path of the declared type that the definition hasn't
  declared : PlainPath → Cause
  -- what is assigned to takes no data
  no_acceptor : Cause
  -- what is assigned to takes just the first data, and the value has just the second
  assigned : List DataTy → List DataTy → Cause

abbrev pub data_types : List DataTy
data_types = data_type.Int ∷ data_type.Bool ∷ data_type.Char ∷ []

abbrev pub all_data : List Atom
all_data = map data_atom data_types

-- the data that an operator takes
abbrev pub operands_of : BinOp → List Atom
operands_of op = map data_atom (filter (takes op) data_types)

-- what a command ends in
abbrev pub commands : List Atom
commands = Comm ∷ Compl ∷ []

-- atoms for the first part alone, and for the first two
abbrev pub at_first : List Atom → ℕ → Option (List Atom)
at_first atoms zero = Some atoms
at_first atoms (suc i) = None

abbrev pub at_both : List Atom → List Atom → ℕ → Option (List Atom)
at_both atoms bs zero = Some atoms
at_both atoms bs (suc zero) = Some bs
at_both atoms bs (suc (suc i)) = None

-- the atoms that the rule takes at the part with the index, if it takes atoms there: a row a form
abbrev pub taken_at : Tree → ℕ → Option (List Atom)
taken_at (var k at) i = None
taken_at (lit v at) i = None
taken_at (unary op p at) i = at_first (operand_atom op ∷ []) i
taken_at (binary op p q at) i = at_both (operands_of op) (operands_of op) i
taken_at (cond b p q at) i = at_first (Truth ∷ []) i
taken_at (case e ps at) i = at_first (Int ∷ []) i
taken_at (lam d As b at) i = None
taken_at (app p q at) i = None
taken_at (field j p at) i = None
taken_at (sel p j at) i = None
taken_at (merge p q at) i = None
taken_at (let_in d p b at) i = None
taken_at (rec d T b at) i = None
taken_at (skip at) i = None
taken_at (seq p q at) i = at_both (Comm ∷ []) commands i
taken_at (assign p q at) i = None
taken_at (while_do b c at) i = at_both (Truth ∷ []) (Comm ∷ []) i
taken_at (forever c at) i = at_first (Comm ∷ []) i
taken_at (new d D e b at) i = at_both (data_atom D ∷ []) commands i
taken_at (cells d e b at) i = at_both (Int ∷ []) commands i
taken_at (escape d b at) i = at_first (Comm ∷ []) i
taken_at (accept d D b at) i = at_first (Comm ∷ []) i
taken_at (put kind p at) i = at_first (put_atom kind ∷ []) i
taken_at (read p at) i = at_first (IntAcc ∷ []) i
taken_at (mark m at) i = None

-- whether one of the atoms is among what the paths have
abbrev pub has_some : PlainPaths → List Atom → Bool
has_some P [] = false
has_some P (a ∷ atoms) = has P a || has_some P atoms

-- the atoms, unless the paths have one of them
abbrev pub unless_had : PlainPaths → Option (List Atom) → Option (List Atom)
unless_had P None = None
unless_had P (Some atoms) = if has_some P atoms then None else Some atoms

-- the atoms with their index, unless there are none
abbrev pub with_index : ℕ → Option (List Atom) → Option (ℕ × List Atom) → Option (ℕ × List Atom)
with_index i None o = o
with_index i (Some atoms) o = Some (i, atoms)

-- the first of the parts with these types, from the i-th on, that has none of the atoms that the rule takes there
abbrev pub first_wanting : Tree → ℕ → List PlainPaths → Option (ℕ × List Atom)
first_wanting p i [] = None
first_wanting p i (P ∷ Ps) = with_index i (unless_had P (taken_at p i)) (first_wanting p (i + 1) Ps)

abbrev pub wants_or : Option (ℕ × List Atom) → Cause → Cause
wants_or None c = c
wants_or (Some x) c = wants x.0 x.1

-- the first part of a case, from the i-th on, that has nothing in common with what those before it have
abbrev pub first_apart : ℕ → PlainPaths → List PlainPaths → Cause
first_apart i J [] = not_command
first_apart i J (P ∷ Ps) = if has_none (join_of J P) then parts i J else first_apart (i + 1) (join_of J P) Ps

-- the types are those of the index and of the parts
abbrev pub case_cause : List PlainPaths → Cause
case_cause [] = not_command
case_cause (E ∷ []) = not_command
case_cause (E ∷ P ∷ Ps) = first_apart 2 P Ps

-- the first demand of a path, and then `comm`
abbrev pub head_of : PlainPath → PlainPaths
head_of (end a) = no_paths
head_of (call D p) = and_path (call D (end Comm)) no_paths
head_of (pick i p) = and_path (pick i (end Comm)) no_paths

abbrev pub heads_of : PlainPaths → PlainPaths
heads_of no_paths = no_paths
heads_of (and_path p P) = append (head_of p) (heads_of P)

-- the domains of calls, and the names of fields, with which paths begin
abbrev pub domains_in : PlainPaths → List PlainPaths
domains_in no_paths = []
domains_in (and_path (end a) P) = domains_in P
domains_in (and_path (call D p) P) = D ∷ domains_in P
domains_in (and_path (pick i p) P) = domains_in P

abbrev pub fields_in : PlainPaths → List ℕ
fields_in no_paths = []
fields_in (and_path (end a) P) = fields_in P
fields_in (and_path (call D p) P) = fields_in P
fields_in (and_path (pick i p) P) = i ∷ fields_in P

-- the same, each once
abbrev pub domains_of : PlainPaths → List PlainPaths
domains_of P = domains_in (once (heads_of P))

abbrev pub fields_of : PlainPaths → List ℕ
fields_of P = fields_in (once (heads_of P))

-- the first of the other paths that no path of Q is below
abbrev pub first_missed : PlainPaths → PlainPaths → Option PlainPath
first_missed Q no_paths = None
first_missed Q (and_path x P) = if some_below Q x then first_missed Q P else Some x

abbrev pub missed_and : PlainPaths → Option PlainPath → List Missed → List Missed
missed_and D None ms = ms
missed_and D (Some x) ms = missed D x ∷ ms

-- each domain that the argument hasn't, with the first path that it hasn't
abbrev pub all_missed : PlainPaths → List PlainPaths → List Missed
all_missed Q [] = []
all_missed Q (D ∷ Ds) = missed_and D (first_missed Q D) (all_missed Q Ds)

abbrev pub call_cause : List PlainPaths → PlainPaths → Cause
call_cause [] Q = no_procedure
call_cause (D ∷ Ds) Q = no_domain (all_missed Q (D ∷ Ds))

abbrev pub declared_cause : Option PlainPath → Cause
declared_cause None = not_command
declared_cause (Some x) = declared x

-- the data that the paths take, and those that they have
abbrev pub data_taken : PlainPaths → List DataTy
data_taken P = filter (λ D. has P (acceptor_atom D)) data_types

abbrev pub data_had : PlainPaths → List DataTy
data_had P = filter (λ D. has P (data_atom D)) data_types

abbrev pub assignment_cause : List DataTy → List DataTy → Cause
assignment_cause [] es = no_acceptor
assignment_cause (D ∷ ds) [] = wants 1 all_data
assignment_cause (D ∷ ds) (E ∷ es) = assigned (D ∷ ds) (E ∷ es)

-- the type of the part with the index
abbrev pub type_at : List PlainPaths → ℕ → PlainPaths
type_at Ps i = slice_index_or Ps i no_paths

-- the cause where each part has one of the atoms that the rule takes there, and the parts have these types: a row a form
abbrev pub other_cause : Tree → List PlainPaths → Cause
other_cause (var k at) Ps = useless
other_cause (lit v at) Ps = not_command
other_cause (unary op p at) Ps = not_command
other_cause (binary op p q at) Ps = differ
other_cause (cond b p q at) Ps = branches
other_cause (case e ps at) Ps = case_cause Ps
other_cause (lam d As b at) Ps = not_command
other_cause (app p q at) Ps = call_cause (domains_of (type_at Ps 0)) (type_at Ps 1)
other_cause (field i p at) Ps = not_command
other_cause (sel p i at) Ps = no_field (fields_of (type_at Ps 0))
other_cause (merge p q at) Ps = not_command
other_cause (let_in d p b at) Ps = not_command
other_cause (rec d T b at) Ps = declared_cause (first_missed (type_at Ps 0) (paths T))
other_cause (skip at) Ps = not_command
other_cause (seq p q at) Ps = not_command
other_cause (assign p q at) Ps = assignment_cause (data_taken (type_at Ps 0)) (data_had (type_at Ps 1))
other_cause (while_do b c at) Ps = not_command
other_cause (forever c at) Ps = not_command
other_cause (new d D e b at) Ps = not_command
other_cause (cells d e b at) Ps = not_command
other_cause (escape d b at) Ps = not_command
other_cause (accept d D b at) Ps = not_command
other_cause (put kind p at) Ps = not_command
other_cause (read p at) Ps = not_command
other_cause (mark m at) Ps = not_command

-- why the phrase has no type of use
abbrev pub cause_of : List Variable → Tree → Cause
cause_of G p =
    if has_none (least_in G p) then wants_or (first_wanting p 0 (part_types G p)) (other_cause p (part_types G p)) else not_command
