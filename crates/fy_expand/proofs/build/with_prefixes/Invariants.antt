use Rattle.std.proofs.Common.{◌≡◌, drop}
use Rattle.fy_phrase.specs.Reads.{reads}
use Rattle.fy_expand.specs.Core.{prefixed}
use Rattle.fy_expand.proofs.build.with_prefixes.Given as goal

abbrev pub invariant-loop-i : goal.invariant-loop-i
invariant-loop-i l = reads l.made ≡ prefixed (drop l.i l.operators) (reads l.fn.part)
