-- The order of path forms: a path is below another where both make the same demands, with more general domains.
use Rattle.std.specs.Prelude.{ℕ}
use Rattle.fy_types.specs.declared.types.Atom.{Atom}
use Rattle.fy_types.specs.declared.types.Atom.TheVariants.{Comm, Compl}
use Rattle.fy_types.specs.Paths.{PlainPath, PlainPaths, end, call, pick, no_paths, and_path}

-- ends: equal, or `compl` below `comm`
pub data IsEndBelow : Atom → Atom → Type 0 where
  same_end : {a : Atom} → IsEndBelow a a
  compl_below : IsEndBelow Compl Comm

mutual
  -- paths: the same demands in the same order, with the domains the other way round
  pub data IsPathBelow : PlainPath → PlainPath → Type 0 where
    ends : {a b : Atom} → IsEndBelow a b → IsPathBelow (end a) (end b)
    calls : {D E : PlainPaths} {p q : PlainPath} → ArePathsBelow E D → IsPathBelow p q → IsPathBelow (call D p) (call E q)
    picks : {i : ℕ} {p q : PlainPath} → IsPathBelow p q → IsPathBelow (pick i p) (pick i q)

  -- lists: each path of the second has some path of the first below it
  pub data ArePathsBelow : PlainPaths → PlainPaths → Type 0 where
    none_left : {P : PlainPaths} → ArePathsBelow P no_paths
    and_above : {P Q : PlainPaths} {q : PlainPath} → HasBelow P q → ArePathsBelow P Q → ArePathsBelow P (and_path q Q)

  -- some path of the list is below the path
  pub data HasBelow : PlainPaths → PlainPath → Type 0 where
    here : {p q : PlainPath} {P : PlainPaths} → IsPathBelow p q → HasBelow (and_path p P) q
    there : {p q : PlainPath} {P : PlainPaths} → HasBelow P q → HasBelow (and_path p P) q
