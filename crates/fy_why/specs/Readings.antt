-- Words of contracts.
use Rattle.std.specs.Prelude.{ℕ, ◌≡◌, ◌==◌, Bool, true, false, Option, Some, None, List, [], ◌∷◌, ◌++◌, map, codes, decimal}
use Rattle.std.specs.Borrow.{Bor}
use Rattle.std.specs.declared.alloc.Global.{Global}
use Rattle.std.specs.declared.rc.Rc.{Rc}
use Rattle.fy_base.specs.Outside.{Bytes}
use Rattle.fy_types.specs.declared.paths.Paths.{Paths}
use Rattle.fy_types.specs.Types.{PlainType, arrow, field}
use Rattle.fy_types.specs.Paths.{PlainPath, PlainPaths, end, call, pick}
use Rattle.fy_derive.specs.Subsumption.{paths_below}
use Rattle.fy_types.specs.Reading.{PlainElem, a_call, a_field, plain_paths}
use Rattle.fy_phrase.specs.Reads.{reads}
use Rattle.fy_phrase.specs.Tree.{Tree, lam, let_in, rec, new, cells, escape, accept}
use Rattle.fy_show.specs.Entries.{Scope, Known}
use Rattle.fy_show.specs.Fresh.{bound}
use Rattle.fy_causes.specs.declared.told.Second.{Second as KnownSecond}
use Rattle.fy_causes.specs.Occurrences.{Variable, parts_of}
use Rattle.fy_causes.specs.Readings.{around_read, part_at}
use Rattle.fy_why.specs.declared.carets.Span.{Span as WrittenSpan}
use Rattle.fy_why.specs.Types.{type_with, paths_text, path_text}
use Rattle.fy_why.specs.Carets.{Span}

-- one demand in front of a type
abbrev pub type_behind : PlainElem → PlainType → PlainType
type_behind (a_call D) A = arrow (type_with D) A
type_behind (a_field i) A = field i A

-- both are calls, or one field
abbrev pub are_one_kind : PlainElem → PlainElem → Bool
are_one_kind (a_call D) (a_call E) = true
are_one_kind (a_call D) (a_field j) = false
are_one_kind (a_field i) (a_call E) = false
are_one_kind (a_field i) (a_field j) = i == j

-- the domains of two calls
abbrev pub both_domains : PlainElem → PlainElem → Option (PlainPaths × PlainPaths)
both_domains (a_call D) (a_call E) = Some (D, E)
both_domains (a_call D) (a_field j) = None
both_domains (a_field i) y = None

abbrev pub both_read : Bor (Rc Paths Global) × Bor (Rc Paths Global) → PlainPaths × PlainPaths
both_read x = (plain_paths x.0.now.value, plain_paths x.1.now.value)

-- what is told of a call with the number
abbrev pub mismatch_told : List Bytes → ℕ → PlainPaths → PlainPath → Bytes
mismatch_told names n E z = codes ": its argument " ++ decimal n ++ codes " would be " ++ paths_text names E ++ codes ", with no " ++ path_text names z

-- whether the part with the index stands under the phrase's binder: a row a form that binds
abbrev pub is_under_binder : Tree → ℕ → Bool
is_under_binder (lam d As b at) i = true
is_under_binder (let_in d p b at) i = i == 1
is_under_binder (rec d T b at) i = true
is_under_binder (new d D e b at) i = i == 1
is_under_binder (cells d e b at) i = i == 1
is_under_binder (escape d b at) i = true
is_under_binder (accept d D b at) i = true
is_under_binder p i = false

-- the phrases that bind variables, and the names that they have in a scope: the last one is the outermost
abbrev pub binders_of : List Variable → List Tree
binders_of G = map (λ (v : Variable). v.binder) G

abbrev pub named : Known → List Tree → Scope → Scope
named k [] s = s
named k (p ∷ ps) s = bound k (named k ps s) p ∷ named k ps s

-- a part with what stands in front of it
abbrev pub span_read : WrittenSpan → Span
span_read x = (x.front.items, x.part.items)

-- whether the path begins with a call that takes an argument with the paths Q
abbrev pub is_taker : PlainPaths → PlainPath → Bool
is_taker Q (end a) = false
is_taker Q (call D p) = paths_below Q D
is_taker Q (pick i p) = false

-- the parts of what is blamed in a definition are its direct parts
abbrev pub IsSecondSeen : Option KnownSecond → Type 0
IsSecondSeen None = Unit {0}
IsSecondSeen (Some s) = map part_at s.blame.parts.items ≡ parts_of (around_read s.blame.at.around.value) (reads s.blame.at.phrase.now)
