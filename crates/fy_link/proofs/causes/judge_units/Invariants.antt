use Rattle.std.proofs.Common.{◌≡◌, [], map, drop, take}
use Rattle.fy_link.specs.Links.{units_fault}
use Rattle.fy_link.specs.Read.{owns_before, source_in}
use Rattle.fy_link.proofs.causes.judge_units.Given as goal

abbrev pub invariant-loop-j : goal.invariant-loop-j
invariant-loop-j l =
    units_fault l.j (owns_before (take l.j l.units)) (map source_in (drop l.j l.units)) ≡ units_fault 0 [] (map source_in l.units)
