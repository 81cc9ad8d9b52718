-- How large a path form is, and the limits on it.
use Rattle.std.specs.Prelude.{ℕ, ◌+◌, ◌<◌, ◌≤◌, ◌⊎◌, max}
use Rattle.fy_types.specs.Paths.{PlainPath, PlainPaths, end, call, pick, no_paths, and_path}

abbrev mutual
  -- the path elements, the ends, and the nodes of domains
  pub nodes : PlainPath → ℕ
  nodes (end a) = 1
  nodes (call D p) = (all_nodes D + nodes p) + 1
  nodes (pick i p) = nodes p + 1

  pub all_nodes : PlainPaths → ℕ
  all_nodes no_paths = 0
  all_nodes (and_path p P) = nodes p + all_nodes P

abbrev mutual
  -- an end nests 1; an element nests one more than what follows, or its domain, whichever nests more
  pub nesting : PlainPath → ℕ
  nesting (end a) = 1
  nesting (call D p) = max (all_nesting D) (nesting p) + 1
  nesting (pick i p) = nesting p + 1

  pub all_nesting : PlainPaths → ℕ
  all_nesting no_paths = 0
  all_nesting (and_path p P) = max (nesting p) (all_nesting P)

abbrev pub most_nodes : ℕ
most_nodes = 4096

abbrev pub most_nesting : ℕ
most_nesting = 480

-- the path form keeps both limits
pub record IsWithinLimits (P : PlainPaths) : Type 0 where
  pub few : all_nodes P ≤ most_nodes
  pub shallow : all_nesting P ≤ most_nesting

-- the path form passes a limit
abbrev pub IsTooLarge : PlainPaths → Type 0
IsTooLarge P = (most_nodes < all_nodes P) ⊎ (most_nesting < all_nesting P)
