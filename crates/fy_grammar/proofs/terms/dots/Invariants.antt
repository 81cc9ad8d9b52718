use Rattle.std.proofs.Common.{length}
use Rattle.fy_lexer.specs.declared.token.Symbol.TheVariants as symbol
use Rattle.fy_syntax.specs.Reader.{name_at}
use Rattle.fy_grammar.proofs.Many.{ReadsOn, many, after}
use Rattle.fy_grammar.proofs.terms.dots.Given as goal

abbrev pub invariant-loop-rest : goal.invariant-loop-rest
invariant-loop-rest l =
    ReadsOn (after symbol.Dot name_at) (many (length l.fn.tokens) (after symbol.Dot name_at) l.fn.tokens)
    l.names l.rest

abbrev pub decreases-loop-rest : goal.decreases-loop-rest
decreases-loop-rest l = length l.rest
