use Rattle.std.proofs.Common.{take}
use Rattle.fy_forms.specs.Keys.{lent}
use Rattle.fy_memo.specs.Bases.{IsRest}
use Rattle.fy_memo.proofs.known.rest_of.Given as goal

-- the rest of the others so far
abbrev pub invariant-loop-path : goal.invariant-loop-path
invariant-loop-path l = IsRest (lent (take l.path-index l.others)) (lent l.rest.items) (lent l.missing)
