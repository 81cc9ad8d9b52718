use Rattle.std.proofs.Common.{◌≡◌, drop}
use Rattle.std.specs.FinMap.{get}
use Rattle.fy_base.specs.Memory.{folder_of}
use Rattle.fy_base.proofs.memory.find.Given as goal

-- the entries that are left decide
abbrev pub invariant-loop-entry : goal.invariant-loop-entry
invariant-loop-entry l = get (folder_of (drop l.entry-index l.entries)) l.name ≡ get (folder_of l.entries) l.name
