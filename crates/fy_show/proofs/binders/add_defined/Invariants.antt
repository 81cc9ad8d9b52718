use Rattle.std.proofs.Common.{◌≡◌, ◌++◌, drop, map}
use Rattle.fy_syntax.specs.Reading.{def_of, defs_from}
use Rattle.fy_show.specs.Binders.{defined}
use Rattle.fy_show.proofs.binders.add_defined.Given as goal

abbrev pub invariant-loop-def : goal.invariant-loop-def
invariant-loop-def l =
    l.list.items ++ defined l.at l.here (defs_from (map def_of (drop l.def-index l.defs))) ≡ l.initial.list.items ++ defined l.at l.depth (defs_from (map def_of l.defs))
