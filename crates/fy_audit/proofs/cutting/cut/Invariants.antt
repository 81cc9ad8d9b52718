use Rattle.std.proofs.Common.{length, ◌-◌, ◌≤◌}
use Rattle.fy_audit.specs.Words.{setting, IsHeadCount}
use Rattle.fy_audit.proofs.Cuts.{CutSoFar}
use Rattle.fy_audit.proofs.cutting.cut.Given as goal

abbrev pub invariant-loop-k : goal.invariant-loop-k
invariant-loop-k l = (l.k ≤ length l.code) × (IsHeadCount l.heads l.code) × CutSoFar (setting l.code l.table_words l.places) l.code l.k l.pieces.items

abbrev pub decreases-loop-k : goal.decreases-loop-k
decreases-loop-k l = length l.code - l.k
