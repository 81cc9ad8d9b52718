use Rattle.std.proofs.Common.{length}
use Rattle.fy_lexer.specs.Reading.{TakesElements}
use Rattle.fy_lexer.proofs.reader.Reader.elements.Given as goal

-- elements were taken so far
abbrev pub invariant-loop-start : goal.invariant-loop-start
invariant-loop-start l = TakesElements 34 l.initial.self l.values l.self

abbrev pub decreases-loop-start : goal.decreases-loop-start
decreases-loop-start l = length l.self.rest
