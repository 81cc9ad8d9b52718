-- First demands of paths.
use Rattle.std.specs.Prelude.{ℕ, zero, suc, Bool, false, List, [], ◌∷◌}
use Rattle.fy_types.specs.Paths.{PlainPath, PlainPaths, end, call, pick, no_paths, and_path}
use Rattle.fy_derive.specs.Subsumption.{paths_below}

-- the path begins with a call that takes an argument with the paths Q
abbrev pub takes_argument : PlainPaths → PlainPath → Bool
takes_argument Q (end a) = false
takes_argument Q (call D p) = paths_below Q D
takes_argument Q (pick i p) = false

-- whether each of the paths begins with a call that takes an argument with the paths Q
abbrev pub takes : PlainPaths → PlainPaths → List Bool
takes Q no_paths = []
takes Q (and_path p P) = takes_argument Q p ∷ takes Q P

-- the path without so many first demands
abbrev pub behind : ℕ → PlainPath → PlainPath
behind zero p = p
behind (suc n) (end a) = end a
behind (suc n) (call D p) = behind n p
behind (suc n) (pick i p) = behind n p
