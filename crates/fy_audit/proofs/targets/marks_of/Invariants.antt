use Rattle.std.proofs.Common.{◌+◌, ◌≤◌, drop}
use Rattle.rv_guard.specs.Rules.{is_start, is_target}
use Rattle.rv_guard.specs.Joining.{total_words}
use Rattle.fy_audit.proofs.Marking.{SoFar}
use Rattle.fy_audit.proofs.targets.marks_of.Given as goal

abbrev pub invariant-loop-piece : goal.invariant-loop-piece
invariant-loop-piece l =
    (l.k + total_words (drop l.piece-index l.pieces) ≤ l.words)
    × SoFar is_start l.words l.k l.pieces (drop l.piece-index l.pieces) l.starts.items
    × SoFar is_target l.words l.k l.pieces (drop l.piece-index l.pieces) l.targets.items
