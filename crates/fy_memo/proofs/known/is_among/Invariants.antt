use Rattle.std.specs.Prelude.{⊤}
use Rattle.fy_memo.proofs.known.is_among.Given as goal

abbrev pub invariant-loop-other : goal.invariant-loop-other
invariant-loop-other l = ⊤
