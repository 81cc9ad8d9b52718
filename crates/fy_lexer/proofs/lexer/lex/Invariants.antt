use Rattle.std.proofs.Common.{◌+◌, ◌≤◌, length}
use Rattle.fy_lexer.specs.Reading.{reading_of}
use Rattle.fy_lexer.specs.Tokens.{HasAdded, IsWithin, Steps, start_of}
use Rattle.fy_lexer.proofs.lexer.lex.Given as goal

-- reading has come from the start to here, within the limits
abbrev pub invariant-loop-byte : goal.invariant-loop-byte
invariant-loop-byte l =
    Steps (start_of l.fn.names l.text) (reading_of l.reader l.names l.tokens.items)
    × IsWithin l.tokens.items
    × HasAdded l.fn.names l.names
    × (length l.names + length l.reader.rest ≤ length l.fn.names + length l.text)

abbrev pub decreases-loop-byte : goal.decreases-loop-byte
decreases-loop-byte l = length l.reader.rest
