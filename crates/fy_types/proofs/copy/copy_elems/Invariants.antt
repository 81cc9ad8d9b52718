use Rattle.std.proofs.Common.{◌≡◌, map, take}
use Rattle.fy_types.specs.Reading.{plain_elem, elems_in}
use Rattle.fy_types.proofs.copy.copy_elems.Given as goal

abbrev pub invariant-loop-elem : goal.invariant-loop-elem
invariant-loop-elem l = map plain_elem (elems_in l.made) ≡ map plain_elem (take l.elem-index l.elem-items)
