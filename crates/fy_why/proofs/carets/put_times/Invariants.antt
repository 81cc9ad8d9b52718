use Rattle.std.proofs.Common.{◌≡◌, ◌-◌, ◌++◌}
use Rattle.std.specs.Prelude.{replicate}
use Rattle.fy_why.proofs.carets.put_times.Given as goal

-- what is left, behind those so far
abbrev pub invariant-loop : goal.invariant-loop
invariant-loop l = l.text.items ++ replicate (l.times - l.counter) l.byte ≡ l.initial.text.items ++ replicate l.times l.byte
