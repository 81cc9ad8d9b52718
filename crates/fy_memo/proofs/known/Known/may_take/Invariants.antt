use Rattle.std.proofs.Common.{◌≡◌, map, drop}
use Rattle.fy_types.specs.Paths.{PlainPaths}
use Rattle.fy_types.specs.Reading.{plain_path, plain_paths, paths_from}
use Rattle.fy_forms.specs.Keys.{lent}
use Rattle.fy_order.specs.Demands.{takes}
use Rattle.fy_memo.specs.Bases.{IsMadeOf}
use Rattle.fy_memo.proofs.known.Known.may_take.Given as goal

-- if the paths that are left take the argument as they take the base, all do
abbrev pub invariant-loop-place : goal.invariant-loop-place
invariant-loop-place l =
    (P : PlainPaths) → IsMadeOf P (plain_paths l.self.base) (lent l.others)
    → takes P (paths_from (map plain_path (drop l.place l.path-items))) ≡ takes (plain_paths l.self.base) (paths_from (map plain_path (drop l.place l.path-items)))
    → takes P (plain_paths l.self.procedure) ≡ takes (plain_paths l.self.base) (plain_paths l.self.procedure)
