-- Lists in which each path stands once.
use Rattle.std.specs.Prelude.{ℕ, Bool, true, false, ◌&&◌, ◌||◌, ◌==◌, if◌then◌else◌}
use Rattle.fy_types.specs.declared.types.Atom.{Atom}
use Rattle.fy_types.specs.declared.types.Atom.TheVariants.{Int, Char, Comm, Compl, IntAcc, BoolAcc, CharAcc}
use Rattle.fy_types.specs.declared.types.Atom.TheVariants as atoms
use Rattle.fy_types.specs.Paths.{PlainPath, PlainPaths, end, call, pick, no_paths, and_path}

-- an atom's place among the atoms
abbrev pub place : Atom → ℕ
place Int = 0
place atoms.Bool = 1
place Char = 2
place Comm = 3
place Compl = 4
place IntAcc = 5
place BoolAcc = 6
place CharAcc = 7

abbrev mutual
  -- equality of paths, and of lists of paths, as a test
  pub is_same : PlainPath → PlainPath → Bool
  is_same (end a) (end b) = place a == place b
  is_same (end a) (call E q) = false
  is_same (end a) (pick j q) = false
  is_same (call D p) (end b) = false
  is_same (call D p) (call E q) = are_same D E && is_same p q
  is_same (call D p) (pick j q) = false
  is_same (pick i p) (end b) = false
  is_same (pick i p) (call E q) = false
  is_same (pick i p) (pick j q) = (i == j) && is_same p q

  pub are_same : PlainPaths → PlainPaths → Bool
  are_same no_paths no_paths = true
  are_same no_paths (and_path q Q) = false
  are_same (and_path p P) no_paths = false
  are_same (and_path p P) (and_path q Q) = is_same p q && are_same P Q

-- the path is in the list
abbrev pub contains : PlainPaths → PlainPath → Bool
contains no_paths p = false
contains (and_path q Q) p = is_same q p || contains Q p

-- the list without the path
abbrev pub without : PlainPath → PlainPaths → PlainPaths
without p no_paths = no_paths
without p (and_path q Q) = if is_same q p then without p Q else and_path q (without p Q)

-- each path of the list once, at its first place
abbrev pub once : PlainPaths → PlainPaths
once no_paths = no_paths
once (and_path p P) = and_path p (without p (once P))
