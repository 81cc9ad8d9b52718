use Rattle.std.proofs.Common.{◌≡◌, ◌++◌, map}
use Rattle.fy_phrase.specs.Reads.{reads}
use Rattle.fy_causes.specs.Readings.{around_read}
use Rattle.fy_why.specs.Readings.{binders_of}
use Rattle.fy_why.proofs.scopes.binders_of.Given as goal

-- those so far, in front of those that are left
abbrev pub invariant-loop-rest : goal.invariant-loop-rest
invariant-loop-rest l = map (λ p. reads p.now) l.all.items ++ binders_of (around_read l.rest) ≡ binders_of (around_read l.around)
