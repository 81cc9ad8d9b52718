use Rattle.std.proofs.Common.{◌≡◌, ◌<◌, Bool, false}
use Rattle.fy_derive.specs.Shown.{total, shown, Extends}
use Rattle.fy_derive.specs.Subsumption.{is_below}
use Rattle.fy_reasons.specs.Expected.{lacking}
use Rattle.fy_reasons.specs.Stopping.{members_under}
use Rattle.fy_reasons.proofs.expected.lacking.Given as goal

-- what is left has the first thing that is lacking
abbrev pub invariant-loop-first : goal.invariant-loop-first
invariant-loop-first l = record {
  within : l.rest < total l.table;
  extends : Extends l.fn.table l.table;
  apart : is_below (shown l.table l.a) (shown l.table l.rest) ≡ false;
  same : lacking (shown l.table l.a) (shown l.table l.rest) ≡ lacking (shown l.fn.table l.a) (shown l.fn.table l.b);
}

abbrev pub decreases-loop-first : goal.decreases-loop-first
decreases-loop-first l = members_under (shown l.table l.rest)
