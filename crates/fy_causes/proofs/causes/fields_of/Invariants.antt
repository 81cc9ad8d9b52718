use Rattle.std.proofs.Common.{◌≡◌, ◌++◌, drop, map}
use Rattle.fy_types.specs.Reading.{paths_from, plain_path}
use Rattle.fy_causes.specs.Causes.{fields_in}
use Rattle.fy_causes.proofs.causes.fields_of.Given as goal

abbrev pub invariant-loop-head : goal.invariant-loop-head
invariant-loop-head l =
    l.all.items ++ fields_in (paths_from (map plain_path (drop l.head-index l.head-items))) ≡ fields_in (paths_from (map plain_path l.head-items))
