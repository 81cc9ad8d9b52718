-- Lists that are made path by path, each path kept once; paths that are made element by element; and sizes that stop at 64 bits.
use Rattle.std.specs.Prelude.{ℕ, ◌+◌, ◌-◌, ◌^◌, min, Bool, true, false, ◌==◌, if◌then◌else◌, List, [], ◌∷◌}
use Rattle.fy_types.specs.Paths.{PlainPath, PlainPaths, no_paths, and_path, append}
use Rattle.fy_types.specs.Reading.{PlainElem, a_call, a_field, all_front}
use Rattle.fy_types.specs.Limits.{all_nodes, all_nesting}
use Rattle.fy_types.specs.Once.{contains}

-- the path at the end of the list, unless the list has it
abbrev pub added : PlainPaths → PlainPath → PlainPaths
added P p = if contains P p then P else append P (and_path p no_paths)

abbrev pub all_added : PlainPaths → PlainPaths → PlainPaths
all_added P no_paths = P
all_added P (and_path q Q) = all_added (added P q) Q

-- the list has a path
abbrev pub is_some : PlainPaths → Bool
is_some no_paths = false
is_some (and_path p P) = true

-- each path with the elements in front
abbrev pub all_fronted : List PlainElem → PlainPaths → PlainPaths
all_fronted [] P = P
all_fronted (x ∷ xs) P = all_front x (all_fronted xs P)

-- what an element adds to a path's nodes, and how deep it is itself
abbrev pub elem_nodes : PlainElem → ℕ
elem_nodes (a_call D) = all_nodes D + 1
elem_nodes (a_field i) = 1

abbrev pub elem_nesting : PlainElem → ℕ
elem_nesting (a_call D) = all_nesting D
elem_nesting (a_field i) = 0

abbrev pub sum_nodes : List PlainElem → ℕ
sum_nodes [] = 0
sum_nodes (x ∷ xs) = elem_nodes x + sum_nodes xs

-- the elements are both calls, or the same field
abbrev pub are_alike : PlainElem → PlainElem → Bool
are_alike (a_call D) (a_call E) = true
are_alike (a_call D) (a_field j) = false
are_alike (a_field i) (a_call E) = false
are_alike (a_field i) (a_field j) = i == j

abbrev pub capped : ℕ → ℕ
capped n = min n (2 ^ 64 - 1)
