-- Subtyping as a test that computes, on path forms. Each function goes down its first argument, so there is one for each side of a
-- domain. That the test is subtyping is a law.
use Rattle.std.specs.Prelude.{Bool, true, false, ◌&&◌, ◌||◌, ◌==◌}
use Rattle.fy_types.specs.Types.{PlainType}
use Rattle.fy_types.specs.Paths.{PlainPath, PlainPaths, end, call, pick, no_paths, and_path, paths}
use Rattle.fy_types.specs.Bounds.{is_end_low}

abbrev pub all_pass : (PlainPath → Bool) → PlainPaths → Bool
all_pass f no_paths = true
all_pass f (and_path p P) = f p && all_pass f P

abbrev pub some_passes : (PlainPath → Bool) → PlainPaths → Bool
some_passes f no_paths = false
some_passes f (and_path p P) = f p || some_passes f P

abbrev mutual
  -- p is below q
  pub path_below : PlainPath → PlainPath → Bool
  path_below (end a) (end b) = is_end_low a b
  path_below (end a) (call E q) = false
  path_below (end a) (pick j q) = false
  path_below (call D p) (end b) = false
  path_below (call D p) (call E q) = each_above D E && path_below p q
  path_below (call D p) (pick j q) = false
  path_below (pick i p) (end b) = false
  path_below (pick i p) (call E q) = false
  path_below (pick i p) (pick j q) = (i == j) && path_below p q

  -- p is above q
  pub path_above : PlainPath → PlainPath → Bool
  path_above (end a) (end b) = is_end_low b a
  path_above (end a) (call E q) = false
  path_above (end a) (pick j q) = false
  path_above (call D p) (end b) = false
  path_above (call D p) (call E q) = all_pass (some_below D) E && path_above p q
  path_above (call D p) (pick j q) = false
  path_above (pick i p) (end b) = false
  path_above (pick i p) (call E q) = false
  path_above (pick i p) (pick j q) = (i == j) && path_above p q

  -- some path of the list is below q
  pub some_below : PlainPaths → PlainPath → Bool
  some_below no_paths q = false
  some_below (and_path p P) q = path_below p q || some_below P q

  -- each path of P is above some path of Q
  pub each_above : PlainPaths → PlainPaths → Bool
  each_above no_paths Q = true
  each_above (and_path p P) Q = some_passes (path_above p) Q && each_above P Q

-- each path of Q has some path of P below it
abbrev pub paths_below : PlainPaths → PlainPaths → Bool
paths_below P Q = all_pass (some_below P) Q

-- `A <= B`
abbrev pub is_below : PlainType → PlainType → Bool
is_below A B = paths_below (paths A) (paths B)
