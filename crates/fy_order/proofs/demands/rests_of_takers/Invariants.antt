use Rattle.std.proofs.Common.{◌≡◌, map, drop}
use Rattle.fy_types.specs.Paths.{PlainPaths, append}
use Rattle.fy_types.specs.Reading.{plain_path, plain_paths, paths_in, paths_from}
use Rattle.fy_derive.specs.Least.{rests_of_call}
use Rattle.fy_order.specs.Demands.{takes}
use Rattle.fy_order.proofs.demands.rests_of_takers.Given as goal

-- where the flags are those of an argument, the rests so far and those of what is left are all rests
abbrev pub invariant-loop-place : goal.invariant-loop-place
invariant-loop-place l =
    (Q : PlainPaths) → l.taken ≡ takes Q (plain_paths l.paths)
    → append (paths_from (map plain_path (paths_in l.rests))) (rests_of_call Q (paths_from (map plain_path (drop l.place l.path-items))))
    ≡ rests_of_call Q (plain_paths l.paths)
