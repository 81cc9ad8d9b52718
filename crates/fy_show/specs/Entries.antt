-- What a variable is shown as, and what is known of names where a phrase is shown.
use Rattle.std.specs.Prelude.{ℕ, ◌-◌, Bool, false, ◌||◌, ◌==◌, if◌then◌else◌, Option, Some, None, List, [], ◌∷◌}
use Rattle.std.specs.Str.{bytes_eq}
use Rattle.fy_base.specs.Outside.{Bytes}
use Rattle.fy_phrase.specs.declared.phrase.MarkKind.{MarkKind}
use Rattle.fy_phrase.specs.Tree.{Tree}
use Rattle.fy_show.specs.declared.binders.Binder.{Binder}

-- the fields of a `letrec`, each with the name that it is shown with
abbrev pub Fields : Type 0
Fields = List (ℕ × Bytes)

pub data Entry : Type 0 where
  -- a variable that no text names
  unnamed : Entry
  -- a variable of that name
  one : Bytes → Entry
  -- the variable of a `letrec`, which stands for all of its fields
  all : Fields → Entry

-- the variables in scope, the innermost first
abbrev pub Scope : Type 0
Scope = List Entry

-- the list of names, the binders of the source, which closed phrases have a name, and the names of cells and jumps
pub record Known : Type 0 where
  pub names : List Bytes
  pub binders : List Binder
  pub folded : Tree → Option Entry
  pub marks : MarkKind → Bytes

-- the k-th variable
abbrev pub entry_at : Scope → ℕ → Entry
entry_at [] k = unnamed
entry_at (e ∷ s) k = if k == 0 then e else entry_at s (k - 1)

-- the name that a field is shown with
abbrev pub field_name : Fields → ℕ → Option Bytes
field_name [] i = None
field_name (f ∷ fs) i = if i == f.0 then Some f.1 else field_name fs i

-- whether a field is shown with the name
abbrev pub is_field_name : Bytes → Fields → Bool
is_field_name t [] = false
is_field_name t (f ∷ fs) = bytes_eq t f.1 || is_field_name t fs

-- whether the variable is shown with the name
abbrev pub has_name : Bytes → Entry → Bool
has_name t unnamed = false
has_name t (one x) = bytes_eq t x
has_name t (all fs) = is_field_name t fs
