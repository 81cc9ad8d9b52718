use Rattle.std.proofs.Common.{◌≡◌, [], drop, None}
use Rattle.fy_phrase.specs.Copy.{content_of}
use Rattle.fy_copy.specs.Shown.{rows_onto}
use Rattle.fy_copy.proofs.store.find.Given as goal

abbrev pub invariant-loop-i : goal.invariant-loop-i
invariant-loop-i l = content_of l.n (rows_onto [] (drop l.i l.store)) ≡ None
