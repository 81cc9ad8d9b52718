-- The path form of a type: the demands that it lets one make of a phrase.
use Rattle.std.specs.Prelude.{ℕ}
use Rattle.fy_types.specs.declared.types.Atom.{Atom}
use Rattle.fy_types.specs.Types.{PlainType, PlainTypes, ns, atom, arrow, field, meet, no_types, and_type}

mutual
  -- demands one after another: a call with an argument that has these paths, a field, and the end
  pub data PlainPath : Type 0 where
    end : Atom → PlainPath
    call : PlainPaths → PlainPath → PlainPath
    pick : ℕ → PlainPath → PlainPath

  pub data PlainPaths : Type 0 where
    no_paths : PlainPaths
    and_path : PlainPath → PlainPaths → PlainPaths

-- the paths of the first list and then those of the second
abbrev pub append : PlainPaths → PlainPaths → PlainPaths
append no_paths Q = Q
append (and_path p P) Q = and_path p (append P Q)

-- each path with a call in front
abbrev pub called : PlainPaths → PlainPaths → PlainPaths
called D no_paths = no_paths
called D (and_path p P) = and_path (call D p) (called D P)

-- each path with a field in front
abbrev pub picked : ℕ → PlainPaths → PlainPaths
picked i no_paths = no_paths
picked i (and_path p P) = and_path (pick i p) (picked i P)

abbrev mutual
  -- the paths of a type, in order of text
  pub paths : PlainType → PlainPaths
  paths ns = no_paths
  paths (atom a) = and_path (end a) no_paths
  paths (arrow A B) = called (paths A) (paths B)
  paths (field i A) = picked i (paths A)
  paths (meet As) = all_paths As

  pub all_paths : PlainTypes → PlainPaths
  all_paths no_types = no_paths
  all_paths (and_type A As) = append (paths A) (all_paths As)

abbrev mutual
  -- the type that a path stands for
  pub type_of_path : PlainPath → PlainType
  type_of_path (end a) = atom a
  type_of_path (call D p) = arrow (meet (types_of_paths D)) (type_of_path p)
  type_of_path (pick i p) = field i (type_of_path p)

  pub types_of_paths : PlainPaths → PlainTypes
  types_of_paths no_paths = no_types
  types_of_paths (and_path p P) = and_type (type_of_path p) (types_of_paths P)

-- the type that a list of paths stands for: the meet of theirs
abbrev pub type_of_paths : PlainPaths → PlainType
type_of_paths P = meet (types_of_paths P)
