use Rattle.std.proofs.Common.{◌≡◌, ◌<◌, ◌++◌}
use Rattle.fy_reasons.specs.Expected.{members}
use Rattle.fy_derive.specs.Shown.{total, shown, all_shown, AreIn}
use Rattle.fy_reasons.proofs.expected.members.Given as goal

-- the members so far, in front of those that are left
abbrev pub invariant-loop-first : goal.invariant-loop-first
invariant-loop-first l = record {
  here : l.rest < total l.table;
  within : AreIn l.table l.all.items;
  same : all_shown l.table l.all.items ++ members (shown l.table l.rest) ≡ members (shown l.table l.number);
}

abbrev pub decreases-loop-first : goal.decreases-loop-first
decreases-loop-first l = l.rest
