use Rattle.std.proofs.Common.{◌<◌, length, take}
use Rattle.fy_forms.specs.Keys.{AreGrouped}
use Rattle.fy_forms.proofs.index.groups_of.Given as goal

-- the paths so far are in their slots
abbrev pub invariant-loop-path : goal.invariant-loop-path
invariant-loop-path l = record { some : 0 < length l.lists.items; grouped : AreGrouped l.lists.items (take l.path-index l.list) }
