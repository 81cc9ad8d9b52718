-- Places in a source text, whose lines and columns count from 1.
use Rattle.std.specs.Prelude.{ℕ, ◌+◌, ◌≤◌}
use Rattle.std.proofs.Common.{le-add_left, le-add_right, le_trans, lit≤}
use Rattle.fy_base.specs.declared.data.Place.{Place}

-- the place in this line and column
abbrev pub place_at : (line col : ℕ) → 1 ≤ line → 1 ≤ col → Place
place_at line col line_from_one col_from_one = record { line = line; col = col; line_from_one = line_from_one; col_from_one = col_from_one }

-- where a text begins
abbrev pub first_place : Place
first_place = place_at 1 1 (lit≤ tt) (lit≤ tt)

-- the beginning of the next line
abbrev pub next_line : Place → Place
next_line at = place_at (at.line + 1) 1 (le-add_left 1 at.line) (lit≤ tt)

-- so many columns further in the same line
abbrev pub columns_on : ℕ → Place → Place
columns_on n at = place_at at.line (at.col + n) at.line_from_one (le_trans at.col_from_one (le-add_right at.col n))
