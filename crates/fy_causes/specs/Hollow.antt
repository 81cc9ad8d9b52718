-- What is wrong in a definition, where what it defines has no type of use.
use Rattle.std.specs.Prelude.{ℕ, zero, suc, Bool, true, false, ◌==◌, List, [], ◌∷◌, Option, Some, None, slice_get, if◌then◌else◌}
use Rattle.fy_types.specs.declared.types.Atom.{Atom}
use Rattle.fy_types.specs.declared.types.Atom.TheVariants.{Comm}
use Rattle.fy_types.specs.Paths.{PlainPath, PlainPaths, end, call, pick}
use Rattle.fy_phrase.specs.Tree.{Tree, var, merge, let_in, sel}
use Rattle.fy_derive.specs.Atoms.{is_acceptor}
use Rattle.fy_derive.specs.Clear.{has_none}
use Rattle.fy_derive.specs.Kinds.{Kind, of_call, of_field, of_assignment, kind_of}
use Rattle.fy_derive.specs.Least.{has}
use Rattle.fy_causes.specs.Occurrences.{Variable, Occurrence, occurs, least_in, least_of, parts_of, part_types}
use Rattle.fy_causes.specs.Blamed.{blamed}
use Rattle.fy_causes.specs.Causes.{Missed, Cause, not_command, useless, wants, differ, branches, parts, no_procedure, no_domain, no_field, declared, no_acceptor, assigned, cause_of}

-- the demand of an atom, and the first demand of a path, if the right operand of a merge may take it
abbrev pub demand_at : Atom → Option Kind
demand_at a = if is_acceptor a then Some of_assignment else None

abbrev pub first_demand : PlainPath → Option Kind
first_demand (end a) = demand_at a
first_demand (call D p) = Some of_call
first_demand (pick i p) = Some (of_field i)

-- the part that fails, by its index, and the demand that it fails
pub record Failed : Type 0 where
  pub index : ℕ
  pub demand : Option Kind

abbrev pub fails : ℕ → Option Kind → Option Failed
fails i k = Some (record { index = i; demand = k })

abbrev pub fails_first : List Atom → ℕ → Option Failed
fails_first [] i = None
fails_first (a ∷ atoms) i = fails i (demand_at a)

abbrev pub fails_domain : List Missed → Option Failed
fails_domain [] = None
fails_domain (m ∷ ms) = fails 1 (first_demand m.path)

-- the field that a selection demands
abbrev pub selected_field : Tree → Option Kind
selected_field (sel p i at) = Some (of_field i)
selected_field p = None

abbrev pub failed : Tree → Cause → Option Failed
failed p not_command = None
failed p useless = None
failed p (wants i atoms) = fails_first atoms i
failed p differ = None
failed p branches = None
failed p (parts i J) = None
failed p no_procedure = fails 0 (Some of_call)
failed p (no_domain ms) = fails_domain ms
failed p (no_field is) = fails 0 (selected_field p)
failed p (declared x) = fails 0 (first_demand x)
failed p no_acceptor = fails 0 (Some of_assignment)
failed p (assigned ds es) = None

-- the two demands are the same
abbrev pub is_same_kind : Kind → Kind → Bool
is_same_kind of_call of_call = true
is_same_kind (of_field i) (of_field j) = i == j
is_same_kind of_assignment of_assignment = true
is_same_kind k l = false

abbrev pub is_demand : Option Kind → Option Kind → Bool
is_demand (Some k) (Some l) = is_same_kind k l
is_demand k l = false

-- the operand of a merge that takes the demand
abbrev pub taker : Option Kind → Tree → Tree → Tree
taker k p q = if is_demand k (kind_of q) then q else p

-- the definition of a name that `let` defines, where it stands
abbrev pub definition_in : Tree → List Variable → Option Occurrence
definition_in (let_in d p b at) G = Some (occurs G p)
definition_in p G = None

abbrev pub definition_of : List Variable → ℕ → Option Occurrence
definition_of [] k = None
definition_of (v ∷ G) zero = definition_in v.binder G
definition_of (v ∷ G) (suc k) = definition_of G k

-- the phrase, if its least type is empty, else the other one
abbrev pub itself_or : List Variable → Tree → Option Occurrence → Option Occurrence
itself_or G p o = if has_none (least_in G p) then Some (occurs G p) else o

abbrev pub then_in : Option Occurrence → (List Variable → Tree → Option Occurrence) → Option Occurrence
then_in None f = None
then_in (Some o) f = f o.around o.phrase

-- the part of a phrase that would have to meet the demand, and has only `ns`: of a merge in the operand that takes the demand, of a name that
-- `let` defines in its definition, through at most so many of them
abbrev pub hollow : ℕ → Option Kind → List Variable → Tree → Option Occurrence
hollow zero k G p = None
hollow (suc n) k G (merge p q at) = itself_or G (taker k p q) (hollow n k G (taker k p q))
hollow (suc n) k G (var i at) = then_in (definition_of G i) (hollow n k)
hollow (suc n) k G p = None

-- through so many names and merges
abbrev pub most_through : ℕ
most_through = 40

abbrev pub hollow_part : List Occurrence → Option Failed → Option Occurrence
hollow_part os None = None
hollow_part os (Some f) = then_in (slice_get os f.index) (hollow most_through f.demand)

-- what has only `ns` behind a cause
abbrev pub hollow_behind : Occurrence → Option Occurrence
hollow_behind o = hollow_part (parts_of o.around o.phrase) (failed o.phrase (cause_of o.around o.phrase))

-- a phrase with its cause, its least type, and its direct parts with their least types
pub record Explained : Type 0 where
  pub at : Occurrence
  pub cause : Cause
  pub least : PlainPaths
  pub direct : List Occurrence
  pub types : List PlainPaths

abbrev pub explained : Occurrence → Explained
explained o = record {
  at = o;
  cause = cause_of o.around o.phrase;
  least = least_of o;
  direct = parts_of o.around o.phrase;
  types = part_types o.around o.phrase;
}

-- a phrase that has only `ns`, and what is blamed in it
pub record Second : Type 0 where
  pub inside : Occurrence
  pub blame : Explained

-- why a phrase isn't a command: what is blamed, and what is blamed in a definition behind it
pub record Told : Type 0 where
  pub first : Explained
  pub second : Option Second

abbrev pub second_of : Option Occurrence → Option Second
second_of None = None
second_of (Some o) = Some (record { inside = o; blame = explained (blamed o.around o.phrase) })

abbrev pub told_of : Occurrence → Told
told_of o = record { first = explained o; second = second_of (hollow_behind o) }

-- why a program has no type, if it has none
abbrev pub why_of : Tree → Option Told
why_of p = if has (least_in [] p) Comm then None else Some (told_of (blamed [] p))
