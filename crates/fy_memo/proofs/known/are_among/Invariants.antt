use Rattle.std.proofs.Common.{take}
use Rattle.fy_forms.specs.Keys.{lent}
use Rattle.fy_memo.specs.Bases.{IsIn}
use Rattle.fy_memo.proofs.known.are_among.Given as goal

abbrev pub invariant-loop-path : goal.invariant-loop-path
invariant-loop-path l = IsIn (lent (take l.path-index l.missing)) (lent l.others)
