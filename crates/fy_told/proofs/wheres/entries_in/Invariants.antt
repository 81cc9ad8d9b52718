use Rattle.std.proofs.Common.{◌≡◌, ◌++◌, map}
use Rattle.fy_show.specs.Reading.{entry_or, scope_read}
use Rattle.fy_told.proofs.wheres.entries_in.Given as goal

-- those so far, in front of those that are left
abbrev pub invariant-loop-rest : goal.invariant-loop-rest
invariant-loop-rest l = map entry_or l.all.items ++ scope_read l.rest ≡ scope_read l.scope
