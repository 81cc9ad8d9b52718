use Rattle.std.proofs.Common.{◌≡◌, ◌≤◌, length, take}
use Rattle.fy_short.specs.Cut.{without_blanks}
use Rattle.fy_short.proofs.bytes.end_of.Given as goal

-- only blanks stand behind
abbrev pub invariant-loop-i : goal.invariant-loop-i
invariant-loop-i l = record {
  within : l.i ≤ length l.bytes;
  same : without_blanks (take l.i l.bytes) ≡ without_blanks l.bytes;
}

abbrev pub decreases-loop-i : goal.decreases-loop-i
decreases-loop-i l = l.i
