use Rattle.std.proofs.Common.{ℕ, ◌<◌, ◌≡◌, ◌↔◌, ◌+◌, ◌*◌, drop, map, get_or, length}
use Rattle.fy_types.specs.declared.paths.PathElem.{size-PathElem}
use Rattle.fy_types.specs.declared.paths.Path.{Path, size-Path}
use Rattle.fy_types.specs.declared.paths.Paths.{size-Paths}
use Rattle.fy_forms.specs.Keys.{lent, deepest}
use Rattle.fy_types.specs.Paths.{end}
use Rattle.fy_types.specs.PathOrder.{IsPathBelow, ArePathsBelow, HasBelow}
use Rattle.fy_types.specs.Reading.{plain_elem, plain_path, plain_paths, fronted, paths_from}
use Rattle.fy_order.proofs.keyed.+keyed.Given as goal

-- what is left of the lists decides as the whole lists do
abbrev pub invariant-are_keyed_below-loop-path : goal.invariant-are_keyed_below-loop-path
invariant-are_keyed_below-loop-path l =
    ArePathsBelow (plain_paths l.a) (paths_from (map plain_path (drop l.path-index l.path-items)))
    ↔ ArePathsBelow (plain_paths l.a) (plain_paths l.b)

abbrev pub invariant-are_found_below-loop-place : goal.invariant-are_found_below-loop-place
invariant-are_found_below-loop-place l =
    ArePathsBelow (plain_paths l.a) (paths_from (map plain_path (drop l.place l.path-items)))
    ↔ ArePathsBelow (plain_paths l.a) (plain_paths l.b)

abbrev pub invariant-are_few_below-loop-path : goal.invariant-are_few_below-loop-path
invariant-are_few_below-loop-path l =
    ArePathsBelow (plain_paths l.a) (paths_from (map plain_path (drop l.path-index l.path-items)))
    ↔ ArePathsBelow (plain_paths l.a) (plain_paths l.b)

abbrev pub invariant-has_below-loop-path : goal.invariant-has_below-loop-path
invariant-has_below-loop-path l =
    HasBelow (paths_from (map plain_path (drop l.path-index l.path-items))) (plain_path l.above)
    ↔ HasBelow (plain_paths l.list) (plain_path l.above)

abbrev pub invariant-is_some_below-loop-path : goal.invariant-is_some_below-loop-path
invariant-is_some_below-loop-path l =
    HasBelow (lent (drop l.path-index l.list)) (plain_path l.above) ↔ HasBelow (lent l.list) (plain_path l.above)

abbrev pub invariant-is_path_below-loop-i : goal.invariant-is_path_below-loop-i
invariant-is_path_below-loop-i l =
    IsPathBelow (fronted (map plain_elem (drop l.i l.xs)) (end l.p.end)) (fronted (map plain_elem (drop l.i l.ys)) (end l.q.end))
    ↔ IsPathBelow (plain_path l.fn.p) (plain_path l.fn.q)

-- the depths that are left, four times, so that a function can stand above another at equal depths
abbrev pub decreases-are_paths_below : goal.decreases-are_paths_below
decreases-are_paths_below l = 4 * (size-Paths l.a.now + size-Paths l.b.now) + 2

abbrev pub decreases-are_indexed_below : goal.decreases-are_indexed_below
decreases-are_indexed_below l = 4 * (size-Paths l.a.now + size-Paths l.b.now) + 1

abbrev pub decreases-are_found_below : goal.decreases-are_found_below
decreases-are_found_below l = 4 * (size-Paths l.a.now + size-Paths l.b.now)

abbrev pub decreases-are_keyed_below : goal.decreases-are_keyed_below
decreases-are_keyed_below l = 4 * (size-Paths l.a.now + size-Paths l.b.now)

abbrev pub decreases-are_few_below : goal.decreases-are_few_below
decreases-are_few_below l = 4 * (size-Paths l.a.now + size-Paths l.b.now)

abbrev pub decreases-is_some_below : goal.decreases-is_some_below
decreases-is_some_below l = 4 * (deepest l.list.now + size-Path l.above.now) + 1

abbrev pub decreases-has_below : goal.decreases-has_below
decreases-has_below l = 4 * (size-Paths l.list.now + size-Path l.above.now)

abbrev pub decreases-is_path_below : goal.decreases-is_path_below
decreases-is_path_below l = 4 * (size-Path l.p.now + size-Path l.q.now)

abbrev pub decreases-is_elem_below : goal.decreases-is_elem_below
decreases-is_elem_below l = 4 * (size-PathElem l.x.now + size-PathElem l.y.now)

abbrev pub decreases-is_found_below : goal.decreases-is_found_below
decreases-is_found_below l = 4 * (size-Paths l.paths.now + size-Path l.above.now) + 1

abbrev pub decreases-is_at_below : goal.decreases-is_at_below
decreases-is_at_below l = 4 * (size-Paths l.paths.now + size-Path l.above.now) + 1

-- none of the paths so far is below
abbrev pub invariant-is_found_below-loop-place : goal.invariant-is_found_below-loop-place
invariant-is_found_below-loop-place l =
    (j : ℕ) (x : Path) → j < l.place-index → get_or l.places j 0 < length l.members → x ≡ get_or l.members (get_or l.places j 0) x → IsPathBelow (plain_path x) (plain_path l.above) → ⊥
