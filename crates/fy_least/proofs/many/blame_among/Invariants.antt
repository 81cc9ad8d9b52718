use Rattle.std.proofs.Common.{◌≡◌, drop}
use Rattle.fy_least.specs.Many.{blame_at_some}
use Rattle.fy_least.proofs.many.blame_among.Given as goal

abbrev pub invariant-loop-part : goal.invariant-loop-part
invariant-loop-part l = blame_at_some (drop l.part-index l.parts) l.at ≡ blame_at_some l.parts l.at
