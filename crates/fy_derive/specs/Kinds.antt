-- The demands that the right operand of a merge takes.
use Rattle.std.specs.Prelude.{ℕ, Bool, true, false, not, ◌&&◌, ◌==◌, Option, Some, None}
use Rattle.fy_types.specs.Paths.{PlainPath, PlainPaths, end, call, pick, no_paths, and_path}
use Rattle.fy_phrase.specs.Tree.{Tree, lam, field, accept}
use Rattle.fy_derive.specs.Atoms.{is_acceptor}

pub data Kind : Type 0 where
  -- calls
  of_call : Kind
  -- selections of one field
  of_field : ℕ → Kind
  -- assignments
  of_assignment : Kind

-- the kind of a right operand, which is an abstraction, a field definition or an acceptor
abbrev pub kind_of : Tree → Option Kind
kind_of (lam d As body at) = Some of_call
kind_of (field i p at) = Some (of_field i)
kind_of (accept d D body at) = Some of_assignment
kind_of p = None

-- whether a path begins with a demand of the kind
abbrev pub begins : Kind → PlainPath → Bool
begins of_call (end a) = false
begins of_call (call D p) = true
begins of_call (pick j p) = false
begins (of_field i) (end a) = false
begins (of_field i) (call D p) = false
begins (of_field i) (pick j p) = i == j
begins of_assignment (end a) = is_acceptor a
begins of_assignment (call D p) = false
begins of_assignment (pick j p) = false

-- whether no path of the list does
abbrev pub none_begins : Kind → PlainPaths → Bool
none_begins k no_paths = true
none_begins k (and_path p P) = not (begins k p) && none_begins k P
