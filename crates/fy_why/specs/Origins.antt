-- Where a part that is a name comes from, and of which types a part that is a call takes its argument.
use Rattle.std.specs.Prelude.{ℕ, ◌==◌, Bool, nat_lt, if◌then◌else◌, Option, Some, None, List, [], ◌∷◌, ◌++◌, length, drop, codes}
use Rattle.fy_base.specs.Outside.{Bytes}
use Rattle.fy_types.specs.Paths.{PlainPaths, end, call, pick, no_paths, and_path}
use Rattle.fy_phrase.specs.Tree.{Tree, var, app, let_in, rec, lam, new, cells, escape, accept, place_of}
use Rattle.fy_derive.specs.Subsumption.{paths_below}
use Rattle.fy_show.specs.Entries.{Known}
use Rattle.fy_causes.specs.Occurrences.{Variable, Occurrence, occurs, least_in}
use Rattle.fy_causes.specs.Causes.{Cause, not_command, useless, wants, differ, branches, parts, no_procedure, no_domain, no_field, declared, no_acceptor, assigned}
use Rattle.fy_causes.specs.Hollow.{Explained}
use Rattle.fy_why.specs.Types.{count, paths_text}
use Rattle.fy_why.specs.Sentences.{place_text, phrase_at, part_of}

-- what a `let` with the definition binds: that of a `letrec` is a `rec`
abbrev pub defined_word : Tree → Bytes
defined_word (rec c T p at) = codes "a name that `letrec` declares"
defined_word p = codes "a name that `let` defines"

-- what binds a name: a row for each form that binds
abbrev pub binder_word : Tree → Bytes
binder_word (lam d As b at) = codes "a parameter"
binder_word (let_in d p b at) = defined_word p
binder_word (rec d T b at) = codes "a name that `letrec` declares"
binder_word (new d D e b at) = codes "a variable"
binder_word (cells d e b at) = codes "a variable"
binder_word (escape d b at) = codes "the way out of an `escape`"
binder_word (accept d D b at) = codes "the value that is accepted"
binder_word p = []

-- the names of the prelude, which are the outermost
abbrev pub prelude_names : ℕ
prelude_names = 5

-- of a name that is the innermost of these variables, unless it is one of the prelude
abbrev pub origin : Bytes → List Variable → List Bytes
origin text [] = []
origin text (v ∷ G) =
    if nat_lt (length G) prelude_names then []
    else (text ++ codes " is " ++ binder_word v.binder ++ codes ", from " ++ place_text (place_of v.binder) ++ codes ".") ∷ []

-- the paths that begin with a call that takes an argument with the paths Q
abbrev pub takers : PlainPaths → PlainPaths → PlainPaths
takers Q no_paths = no_paths
takers Q (and_path (end a) P) = takers Q P
takers Q (and_path (call D p) P) = if paths_below Q D then and_path (call D p) (takers Q P) else takers Q P
takers Q (and_path (pick i p) P) = takers Q P

-- with which paths a procedure takes an argument, where these aren't all that it has
abbrev pub taken : Known → Bytes → PlainPaths → PlainPaths → Bytes → List Bytes
taken k procedure P T argument =
    if count T == count P then []
    else (codes "In it " ++ procedure ++ codes " has " ++ paths_text k.names P ++ codes ", of which " ++ paths_text k.names T ++ codes " takes " ++ argument ++ codes ".") ∷ []

-- a name is told of only where there is no second cause
abbrev pub beside : Known → Bool → Occurrence → Tree → List Bytes
beside k names o (var i at) = if names then origin (phrase_at k o) (drop i o.around) else []
beside k names o (app p q at) =
    taken k (phrase_at k (occurs o.around p)) (least_in o.around p) (takers (least_in o.around q) (least_in o.around p)) (phrase_at k (occurs o.around q))
beside k names o p = []

abbrev pub beside_part : Known → Bool → Option Occurrence → List Bytes
beside_part k names None = []
beside_part k names (Some o) = beside k names o o.phrase

-- the parts of which a cause tells
abbrev pub told_of : Cause → List ℕ
told_of not_command = []
told_of useless = []
told_of (wants i atoms) = i ∷ []
told_of differ = 0 ∷ 1 ∷ []
told_of branches = 1 ∷ 2 ∷ []
told_of (parts i J) = i ∷ []
told_of no_procedure = 0 ∷ []
told_of (no_domain ms) = 0 ∷ 1 ∷ []
told_of (no_field is) = 0 ∷ []
told_of (declared x) = []
told_of no_acceptor = 0 ∷ []
told_of (assigned ds es) = 0 ∷ 1 ∷ []

abbrev pub beside_all : Known → Bool → Explained → List ℕ → List Bytes
beside_all k names e [] = []
beside_all k names e (i ∷ is) = beside_part k names (part_of e i) ++ beside_all k names e is
