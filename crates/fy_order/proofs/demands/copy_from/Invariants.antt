use Rattle.std.proofs.Common.{◌≡◌, ◌++◌, map, drop}
use Rattle.fy_types.specs.Reading.{plain_elem, elems_in}
use Rattle.fy_order.proofs.demands.copy_from.Given as goal

abbrev pub invariant-loop-i : goal.invariant-loop-i
invariant-loop-i l = map plain_elem (elems_in l.elems) ++ map plain_elem (drop l.i l.all) ≡ map plain_elem (drop l.start l.all)
