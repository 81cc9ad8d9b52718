-- What the values of the program stand for.
use Rattle.std.specs.Prelude.{ℕ, Bool, List, [], ◌∷◌, map, Option, Some, None, option_map, Vec}
use Rattle.std.specs.List.{filter}
use Rattle.std.specs.declared.alloc.Global.{Global}
use Rattle.std.specs.declared.rc.Rc.{Rc}
use Rattle.fy_types.specs.declared.types.Atom.{Atom}
use Rattle.fy_types.specs.declared.paths.Paths.{Paths}
use Rattle.fy_types.specs.Types.{PlainTypes, no_types, and_type}
use Rattle.fy_types.specs.Paths.{PlainPath, PlainPaths, end, call, pick, no_paths, paths}
use Rattle.fy_types.specs.Bounds.{join_of}
use Rattle.fy_types.specs.Reading.{plain_path, plain_paths, plain_type}
use Rattle.fy_phrase.specs.declared.phrase.DataTy.{DataTy}
use Rattle.fy_phrase.specs.declared.phrase.DataTy.TheVariants as data_type
use Rattle.fy_phrase.specs.Tree.{Tree}
use Rattle.fy_phrase.specs.Reads.{reads}
use Rattle.fy_causes.specs.declared.around.Variable.{Variable as KnownVariable}
use Rattle.fy_causes.specs.declared.around.Bound.{Bound}
use Rattle.fy_causes.specs.declared.around.Bound.TheVariants as bounds
use Rattle.fy_causes.specs.declared.around.Around.{Around, Around-F, fold-Around}
use Rattle.fy_causes.specs.declared.around.Occurrence.{Occurrence as KnownOccurrence}
use Rattle.fy_causes.specs.declared.found.Found.{Found}
use Rattle.fy_causes.specs.declared.parts.Part.{Part}
use Rattle.fy_causes.specs.declared.causes.Missed.{Missed as KnownMissed}
use Rattle.fy_causes.specs.declared.causes.Cause.{Cause as KnownCause}
use Rattle.fy_causes.specs.declared.causes.Cause.TheVariants as known
use Rattle.fy_causes.specs.declared.hollow.Failed.{Failed as KnownFailed}
use Rattle.fy_causes.specs.declared.told.Explained.{Explained as KnownExplained}
use Rattle.fy_causes.specs.declared.told.Second.{Second as KnownSecond}
use Rattle.fy_causes.specs.declared.told.Told.{Told as KnownTold}
use Rattle.fy_derive.specs.Standing.{plain_kind}
use Rattle.fy_causes.specs.Occurrences.{Variable, bound_by, Occurrence, occurs, least_of, under}
use Rattle.fy_causes.specs.Blamed.{blamed, if_hollow}
use Rattle.fy_causes.specs.Causes.{Missed, missed, Cause, not_command, useless, wants, differ, branches, parts, no_procedure, no_domain, no_field, declared, no_acceptor, assigned, data_types}
use Rattle.fy_causes.specs.Hollow.{Failed, Explained, Second, Told}

-- the paths of a variable's type
abbrev pub bound_read : Bound → PlainPaths
bound_read (bounds.Paths P) = plain_paths P
bound_read (bounds.Written T) = paths (plain_type T.now)

abbrev pub variable_read : KnownVariable → Variable
variable_read v = bound_by (reads v.binder.now) (bound_read v.bound)

abbrev pub around_step : Around-F (List Variable) → List Variable
around_step Around-F.Nothing = []
around_step (Around-F.Under v r) = variable_read v ∷ r.value

-- the variables in scope, the innermost first
abbrev pub around_read : Around → List Variable
around_read = fold-Around (List Variable) around_step

abbrev pub occurrence_read : KnownOccurrence → Occurrence
occurrence_read o = occurs (around_read o.around.value) (reads o.phrase.now)

-- a least type, and what is blamed
abbrev pub found_read : Found → PlainPaths × Occurrence
found_read f = (plain_paths f.paths, occurrence_read f.blamed)

abbrev pub found_at : Occurrence → PlainPaths × Occurrence
found_at o = (least_of o, blamed o.around o.phrase)

-- an abstraction's body under the first alternative
abbrev pub first_under : List Variable → Tree → PlainTypes → Tree → List Occurrence
first_under G p no_types b = []
first_under G p (and_type A As) b = under G p (paths A) b ∷ []

-- the first that has only `ns` is blamed, else the last occurrence
abbrev pub blame_from : List (PlainPaths × Occurrence) → Occurrence → Occurrence
blame_from [] o = o
blame_from (f ∷ fs) o = if_hollow f.0 f.1 (blame_from fs o)

-- the join of all paths, from the left
abbrev pub joined_with : PlainPaths → List (PlainPaths × Occurrence) → PlainPaths
joined_with P [] = P
joined_with P (f ∷ fs) = joined_with (join_of P f.0) fs

abbrev pub joined : List (PlainPaths × Occurrence) → PlainPaths
joined [] = no_paths
joined (f ∷ fs) = joined_with f.0 fs

-- a part where it stands, and its least type
abbrev pub part_at : Part → Occurrence
part_at p = occurrence_read p.at

abbrev pub part_type : Part → PlainPaths
part_type p = plain_paths p.paths

abbrev pub domain_read : Rc Paths Global → PlainPaths
domain_read d = plain_paths d.value

abbrev pub wants_read : ℕ × Vec Atom Global → ℕ × List Atom
wants_read x = (x.0, x.1.items)

-- the domain of the call, or the name of the field, with which a path begins
abbrev pub first_domain : PlainPath → Option PlainPaths
first_domain (end a) = None
first_domain (call D p) = Some D
first_domain (pick i p) = None

abbrev pub first_field : PlainPath → Option ℕ
first_field (end a) = None
first_field (call D p) = None
first_field (pick i p) = Some i

-- the flag of a type of data
abbrev pub is_flagged : Bool → Bool → Bool → DataTy → Bool
is_flagged i b c data_type.Int = i
is_flagged i b c data_type.Bool = b
is_flagged i b c data_type.Char = c

-- the types of data whose flags are set
abbrev pub data_flagged : Bool → Bool → Bool → List DataTy
data_flagged i b c = filter (is_flagged i b c) data_types

abbrev pub missed_read : KnownMissed → Missed
missed_read m = missed (plain_paths m.domain.value) (plain_path m.path)

abbrev pub cause_read : KnownCause → Cause
cause_read known.NotCommand = not_command
cause_read known.Useless = useless
cause_read (known.Wants i atoms) = wants i atoms.items
cause_read known.Differ = differ
cause_read known.Branches = branches
cause_read (known.Parts i J) = parts i (plain_paths J)
cause_read known.NoProcedure = no_procedure
cause_read (known.NoDomain ms) = no_domain (map missed_read ms.items)
cause_read (known.NoField is) = no_field is.items
cause_read (known.Declared x) = declared (plain_path x)
cause_read known.NoAcceptor = no_acceptor
cause_read (known.Assigned ds es) = assigned ds.items es.items

abbrev pub failed_read : KnownFailed → Failed
failed_read f = record { index = f.index; demand = option_map plain_kind f.demand }

abbrev pub explained_read : KnownExplained → Explained
explained_read e = record {
  at = occurrence_read e.at;
  cause = cause_read e.cause;
  least = plain_paths e.paths;
  direct = map part_at e.parts.items;
  types = map part_type e.parts.items;
}

abbrev pub second_read : KnownSecond → Second
second_read s = record { inside = occurrence_read s.inside; blame = explained_read s.blame }

abbrev pub told_read : KnownTold → Told
told_read t = record { first = explained_read t.first; second = option_map second_read t.second }
