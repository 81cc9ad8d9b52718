use Rattle.std.proofs.Common.{◌≡◌, ◌≤◌, drop}
use Rattle.pe_code.specs.Straight.{height_after}
use Rattle.pe_code.proofs.valid.leave_one.Given as goal

abbrev pub invariant-loop-part : goal.invariant-loop-part
invariant-loop-part l = record { height : height_after l.parts 0 ≡ height_after (drop l.part-index l.parts) l.height; few : l.height ≤ 3 }
