use Rattle.std.proofs.Common.{◌≡◌, ◌≤◌, length, take, true}
use Rattle.std.specs.List.{list_all}
use Rattle.fy_lexer.specs.Reading.{passes}
use Rattle.fy_lexer.specs.Spot.{Moved}
use Rattle.fy_lexer.proofs.reader.Reader.run.Given as goal

abbrev pub invariant-loop-byte : goal.invariant-loop-byte
invariant-loop-byte l =
    (l.len ≤ length l.text) × Moved l.initial.self (take l.len l.text) l.self × (list_all (passes l.class) (take l.len l.text) ≡ true)

abbrev pub decreases-loop-byte : goal.decreases-loop-byte
decreases-loop-byte l = length l.self.rest
