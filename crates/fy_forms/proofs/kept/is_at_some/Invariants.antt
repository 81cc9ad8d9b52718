use Rattle.std.proofs.Common.{ℕ, ◌<◌, get_or}
use Rattle.fy_types.specs.Reading.{plain_path, plain_paths}
use Rattle.fy_forms.specs.Keys.{StandsAt}
use Rattle.fy_forms.proofs.kept.is_at_some.Given as goal

-- the path stands at none of the places so far
abbrev pub invariant-loop-place : goal.invariant-loop-place
invariant-loop-place l = (j : ℕ) → j < l.place-index → StandsAt (plain_paths l.list) (get_or l.places j 0) (plain_path l.path) → ⊥
