-- How steps of the copy rule and instructions of an image bound each other.
use Rattle.std.specs.Prelude.{ℕ, ◌+◌, ◌*◌}
use Rattle.fy_phrase.specs.Tree.{Tree}
use Rattle.fy_phrase.specs.Sizes.{nodes, depth}

-- the instructions within which an image does what m steps do
abbrev pub instruction_bound : Tree → ℕ → ℕ
instruction_bound p m = 1000 * (m + 1) * (depth p + 4)

-- the steps within which the copy rule does what n instructions do
abbrev pub copy_bound : Tree → ℕ → ℕ
copy_bound p n = (n + 1) * (nodes p + 1)
