-- The names that the text of a phrase uses from outside.
use Rattle.std.specs.Prelude.{ℕ, Option, Some, None, List, [], ◌∷◌, ◌++◌, map, codes}
use Rattle.fy_base.specs.Outside.{Bytes}
use Rattle.fy_types.specs.Types.{PlainType}
use Rattle.fy_phrase.specs.Tree.{Tree, Trees, var, lit, unary, binary, cond, case, lam, app, field, sel, merge, let_in, rec, skip, seq, assign, while_do, forever, new, cells, escape, accept, put, read, mark, no_trees, and_tree}
use Rattle.fy_short.specs.DataTexts.{put_word}
use Rattle.fy_show.specs.Entries.{Fields, Entry, unnamed, one, all, Scope, Known, entry_at, field_name}
use Rattle.fy_show.specs.Fresh.{record_at, fields_of}

-- the names that a variable is shown with
abbrev pub entry_names : Entry → List Bytes
entry_names unnamed = []
entry_names (one x) = x ∷ []
entry_names (all fs) = map (λ f. f.1) fs

-- a folded phrase uses its own name alone
abbrev pub names_as : Option Entry → List Bytes → List Bytes
names_as None whole = whole
names_as (Some e) whole = entry_names e

abbrev pub name_alone : Option Bytes → List Bytes
name_alone None = []
name_alone (Some x) = x ∷ []

-- a field of a record with a name uses the field's name alone
abbrev pub field_names_as : ℕ → Option Fields → List Bytes → List Bytes
field_names_as i None whole = whole
field_names_as i (Some fs) whole = name_alone (field_name fs i)

abbrev mutual
  -- the names that the text of a phrase in the scope uses
  pub names_in : Known → Scope → Tree → List Bytes
  names_in k s (var n at) = entry_names (entry_at s n)
  names_in k s (lit v at) = []
  names_in k s (unary op p at) = names_in k s p
  names_in k s (binary op p q at) = names_in k s p ++ names_in k s q
  names_in k s (cond b p q at) = names_in k s b ++ (names_in k s p ++ names_in k s q)
  names_in k s (case e parts at) = names_in k s e ++ all_names_in k s parts
  names_in k s (lam d As b at) = names_as (k.folded (lam d As b at)) (names_in k (unnamed ∷ s) b)
  names_in k s (app p q at) = names_in k s p ++ names_in k s q
  names_in k s (field i p at) = names_in k s p
  names_in k s (sel p i at) = field_names_as i (record_at k s p) (names_in k s p)
  names_in k s (merge p q at) = names_as (k.folded (merge p q at)) (names_in k s p ++ names_in k s q)
  names_in k s (let_in d p b at) = names_in k s p ++ names_in k (unnamed ∷ s) b
  names_in k s (rec d T b at) = names_as (k.folded (rec d T b at)) (names_in k (unnamed ∷ s) b)
  names_in k s (skip at) = []
  names_in k s (seq p q at) = names_in k s p ++ names_in k s q
  names_in k s (assign p q at) = names_in k s p ++ names_in k s q
  names_in k s (while_do b c at) = names_in k s b ++ names_in k s c
  names_in k s (forever c at) = names_in k s c
  names_in k s (new d D e b at) = names_in k s e ++ names_in k (unnamed ∷ s) b
  names_in k s (cells d e b at) = codes "newintseq" ∷ (names_in k s e ++ names_in k (unnamed ∷ s) b)
  names_in k s (escape d b at) = names_in k (unnamed ∷ s) b
  names_in k s (accept d D b at) = names_in k (unnamed ∷ s) b
  names_in k s (put kind p at) = put_word kind ∷ names_in k s p
  names_in k s (read p at) = codes "read" ∷ names_in k s p
  names_in k s (mark m at) = k.marks m ∷ []

  pub all_names_in : Known → Scope → Trees → List Bytes
  all_names_in k s no_trees = []
  all_names_in k s (and_tree p more) = names_in k s p ++ all_names_in k s more

-- the phrases under a form's own binder: a row for each form that binds
abbrev pub bodies : Tree → List Tree
bodies (lam d As b at) = b ∷ []
bodies (let_in d (rec c T p here) b at) = p ∷ b ∷ []
bodies (let_in d p b at) = b ∷ []
bodies (rec d T b at) = b ∷ []
bodies (new d D e b at) = b ∷ []
bodies (cells d e b at) = b ∷ []
bodies (escape d b at) = b ∷ []
bodies (accept d D b at) = b ∷ []
bodies p = []

-- the names that they use from outside
abbrev pub names_of_all : Known → Scope → List Tree → List Bytes
names_of_all k s [] = []
names_of_all k s (p ∷ ps) = names_in k s p ++ names_of_all k s ps

-- the fields that a form's own binder stands for
abbrev pub declared_by : Tree → List (ℕ × PlainType)
declared_by (let_in d (rec c T p here) b at) = fields_of T
declared_by (rec d T b at) = fields_of T
declared_by p = []
