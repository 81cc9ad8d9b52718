-- The sentences that tell a cause: a row a cause.
use Rattle.std.specs.Prelude.{ℕ, ◌-◌, ◌==◌, nat_le, if◌then◌else◌, Option, Some, None, List, [], ◌∷◌, ◌++◌, length, map, take, slice_get, slice_index_or, codes, decimal}
use Rattle.std.specs.Option.{option_or}
use Rattle.fy_base.specs.Outside.{Bytes}
use Rattle.fy_base.specs.declared.data.Place.{Place}
use Rattle.fy_base.specs.declared.data.UnOp.{UnOp}
use Rattle.fy_base.specs.declared.data.BinOp.{BinOp}
use Rattle.fy_types.specs.Types.{PlainType, ns}
use Rattle.fy_types.specs.Paths.{PlainPath, PlainPaths, end, call, pick, no_paths, paths}
use Rattle.fy_types.specs.Print.{atom_text, name_text}
use Rattle.fy_syntax.specs.Print.{operator_text, prefix_text}
use Rattle.fy_phrase.specs.Tree.{Tree, place_of, unary, binary, cond, case, field, sel, merge, rec, seq, assign, while_do, forever, new, cells, escape, accept, put, read}
use Rattle.fy_short.specs.Cut.{cut, without_blanks}
use Rattle.fy_short.specs.DataTexts.{data_word}
use Rattle.fy_short.specs.ShortTypes.{short_type}
use Rattle.fy_show.specs.Entries.{Scope, Known}
use Rattle.fy_show.specs.Fresh.{bound, fields_of}
use Rattle.fy_show.specs.Texts.{text_of}
use Rattle.fy_causes.specs.Occurrences.{Variable, bound_by, Occurrence, least_in}
use Rattle.fy_causes.specs.Causes.{Missed, Cause, not_command, useless, wants, differ, branches, parts, no_procedure, no_domain, no_field, declared, no_acceptor, assigned}
use Rattle.fy_causes.specs.Hollow.{Explained}
use Rattle.fy_why.specs.Types.{paths_text, path_text, first_alike, mismatch_of, mismatch_text}

-- what stands behind a member that so many follow
abbrev pub separator_text : ℕ → Bytes
separator_text behind = if behind == 0 then [] else (if behind == 1 then codes " or " else codes ", ")

-- `A`, `A or B`, `A, B or C`
abbrev pub or_text : List Bytes → Bytes
or_text [] = []
or_text (x ∷ more) = x ++ separator_text (length more) ++ or_text more

-- texts, the first behind a lead and each other behind `, `
abbrev pub listed : Bytes → List Bytes → Bytes
listed lead [] = []
listed lead (x ∷ more) = lead ++ x ++ listed (codes ", ") more

abbrev pub place_text : Place → Bytes
place_text at = decimal at.line ++ codes ":" ++ decimal at.col

abbrev pub quoted : Bytes → Bytes
quoted text = codes "`" ++ text ++ codes "`"

-- the names of the variables in scope
abbrev pub scope_of : Known → List Variable → Scope
scope_of k [] = []
scope_of k (v ∷ G) = bound k (scope_of k G) v.binder ∷ scope_of k G

-- a phrase in at most 40 bytes
abbrev pub phrase_told : Known → Scope → Tree → Bytes
phrase_told k s p = quoted (cut 40 (text_of k s p))

abbrev pub phrase_at : Known → Occurrence → Bytes
phrase_at k o = phrase_told k (scope_of k o.around) o.phrase

-- a direct part, its phrase, its place and its type
abbrev pub part_of : Explained → ℕ → Option Occurrence
part_of e i = slice_get e.direct i

abbrev pub phrase_of : Known → Option Occurrence → Bytes
phrase_of k None = []
phrase_of k (Some o) = phrase_at k o

abbrev pub part_text : Known → Explained → ℕ → Bytes
part_text k e i = phrase_of k (part_of e i)

abbrev pub place_in : Option Occurrence → Bytes
place_in None = []
place_in (Some o) = place_text (place_of o.phrase)

abbrev pub type_at : Explained → ℕ → PlainPaths
type_at e i = slice_index_or e.types i no_paths

abbrev pub type_text : Known → Explained → ℕ → Bytes
type_text k e i = paths_text k.names (type_at e i)

-- `P` has T
abbrev pub has_text : Known → Explained → ℕ → Bytes
has_text k e i = part_text k e i ++ codes " has " ++ type_text k e i

-- the signs of operators
abbrev pub prefix_sign : UnOp → Bytes
prefix_sign op = without_blanks (prefix_text op)

abbrev pub operator_sign : BinOp → Bytes
operator_sign op = without_blanks (operator_text op)

abbrev pub first_or : ℕ → Bytes → Bytes → Bytes
first_or i a b = if i == 0 then a else b

-- what the part with the index is: a row a form whose rule takes atoms there
abbrev pub role : Tree → ℕ → Bytes
role (unary op p at) i = codes "operand of " ++ quoted (prefix_sign op)
role (binary op p q at) i = first_or i (codes "left") (codes "right") ++ codes " operand of " ++ quoted (operator_sign op)
role (cond b p q at) i = codes "condition"
role (case e ps at) i = codes "index"
role (seq p q at) i = first_or i (codes "command before `;`") (codes "command after `;`")
role (assign p q at) i = codes "value"
role (while_do b c at) i = first_or i (codes "condition") (codes "body")
role (forever c at) i = codes "body"
role (new d D e b at) i = first_or i (codes "value") (codes "body")
role (cells d e b at) i = first_or i (codes "length") (codes "body")
role (escape d b at) i = codes "body"
role (accept d D b at) i = codes "body"
role (put kind p at) i = codes "argument"
role (read p at) i = codes "argument"
role p i = codes "part"

-- the operator of a phrase, and the field that it selects
abbrev pub operator_of : Tree → Bytes
operator_of (binary op p q at) = operator_sign op
operator_of p = []

abbrev pub selected : List Bytes → Tree → Bytes
selected names (sel p i at) = name_text names i
selected names p = []

-- `P` takes D: the argument has no Y
abbrev pub missed_text : Known → Explained → Missed → Bytes
missed_text k e m =
    part_text k e 0 ++ codes " takes " ++ paths_text k.names m.domain ++ codes ": the argument has no " ++ path_text k.names m.path
    ++ mismatch_text k.names (mismatch_of (first_alike (type_at e 1) m.path) m.path) ++ codes "."

-- of n domains those beside the first four
abbrev pub others_text : ℕ → List Bytes
others_text n = if nat_le n 4 then [] else (codes "It takes " ++ decimal (n - 4) ++ codes " more.") ∷ []

-- the fields of a record, or its type where it has none
abbrev pub fields_text : Known → Explained → List ℕ → Bytes
fields_text k e [] = codes "It has " ++ type_text k e 0 ++ codes ", and no field at all."
fields_text k e (i ∷ is) = codes "Its fields are " ++ listed [] (map (name_text k.names) (i ∷ is)) ++ codes "."

-- a field's declared type, and its definition among those of a `letrec`, the last of its name
abbrev pub type_of_field : List (ℕ × PlainType) → ℕ → PlainType
type_of_field [] i = ns
type_of_field (f ∷ fs) i = if i == f.0 then f.1 else type_of_field fs i

abbrev pub defined_in : Tree → ℕ → Option Tree
defined_in (merge p q at) i = option_or (defined_in q i) (defined_in p i)
defined_in (field j p at) i = if i == j then Some p else None
defined_in p i = None

abbrev pub definition_type : List Variable → Option Tree → PlainPaths
definition_type G None = no_paths
definition_type G (Some p) = least_in G p

abbrev pub first_field : PlainPath → ℕ
first_field (end a) = 0
first_field (call D x) = 0
first_field (pick i x) = i

-- a definition's declared type, and what it has
abbrev pub declared_text : Known → List Variable → Tree → ℕ → Bytes
declared_text k G (rec d T b at) i =
    codes "`letrec` declares " ++ quoted (name_text k.names i ++ codes ": " ++ short_type k.names (type_of_field (fields_of T) i))
    ++ codes ", and its definition has " ++ paths_text k.names (definition_type (bound_by (rec d T b at) (paths T) ∷ G) (defined_in b i)) ++ codes "."
declared_text k G p i = []

abbrev pub sentences : Known → Explained → Cause → List Bytes
sentences k e not_command = (codes "A program is a comm, and this has " ++ paths_text k.names e.least ++ codes ".") ∷ []
sentences k e useless = (phrase_at k e.at ++ codes " has only ns, and nothing can be done with it.") ∷ []
sentences k e (wants i atoms) =
    (codes "The " ++ role e.at.phrase i ++ codes " at " ++ place_in (part_of e i) ++ codes " has " ++ type_text k e i ++ codes ".")
    ∷ (codes "It has to have " ++ or_text (map atom_text atoms) ++ codes ".") ∷ []
sentences k e differ =
    (quoted (operator_of e.at.phrase) ++ codes " wants two values of one type.") ∷ (has_text k e 0 ++ codes ", and " ++ has_text k e 1 ++ codes ".") ∷ []
sentences k e branches = (has_text k e 1 ++ codes ".") ∷ (has_text k e 2 ++ codes ".") ∷ codes "They have no type in common." ∷ []
sentences k e (parts i J) =
    (codes "The parts of `seq` before it have " ++ paths_text k.names J ++ codes " in common.") ∷ (has_text k e i ++ codes ": nothing of that.") ∷ []
sentences k e no_procedure = (part_text k e 0 ++ codes " is called, but is no procedure: it has " ++ type_text k e 0 ++ codes ".") ∷ []
sentences k e (no_domain ms) = (codes "The argument " ++ has_text k e 1 ++ codes ".") ∷ map (missed_text k e) (take 4 ms) ++ others_text (length ms)
sentences k e (no_field is) =
    (part_text k e 0 ++ codes " has no field " ++ selected k.names e.at.phrase ++ codes ".") ∷ fields_text k e is ∷ []
sentences k e (declared x) = declared_text k e.at.around e.at.phrase (first_field x) ∷ []
sentences k e no_acceptor = (part_text k e 0 ++ codes " can't be assigned to: it has " ++ type_text k e 0 ++ codes ".") ∷ []
sentences k e (assigned ds es) = (part_text k e 0 ++ codes " takes " ++ or_text (map data_word ds) ++ codes ", and " ++ has_text k e 1 ++ codes ".") ∷ []
