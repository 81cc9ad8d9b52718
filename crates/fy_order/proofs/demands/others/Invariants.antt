use Rattle.std.proofs.Common.{◌≡◌, map}
use Rattle.fy_types.specs.Reading.{plain_path, plain_paths, paths_from}
use Rattle.fy_derive.specs.Least.{others}
use Rattle.fy_derive.specs.Standing.{plain_kind}
use Rattle.fy_order.proofs.demands.others.Given as goal

abbrev pub invariant-loop-path : goal.invariant-loop-path
invariant-loop-path l = plain_paths l.kept ≡ others (plain_kind l.demand) (paths_from (map plain_path l.yielded))
