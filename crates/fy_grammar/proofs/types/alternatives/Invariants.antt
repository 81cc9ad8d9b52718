use Rattle.std.proofs.Common.{length, map}
use Rattle.fy_lexer.specs.declared.token.Symbol.TheVariants as symbol
use Rattle.fy_syntax.specs.Reading.{type_tree, types_in}
use Rattle.fy_syntax.specs.Reader.{read_type}
use Rattle.fy_grammar.proofs.Many.{ReadsOn, after, behind_first}
use Rattle.fy_grammar.proofs.types.alternatives.Given as goal

abbrev pub invariant-loop-alloc : goal.invariant-loop-alloc
invariant-loop-alloc l =
    ReadsOn (after symbol.Bar (read_type l.left)) (behind_first (after symbol.Bar (read_type l.left)) (type_tree l.fn.first) l.fn.tokens)
    (map type_tree (types_in l.alternatives)) l.rest

abbrev pub decreases-loop-alloc : goal.decreases-loop-alloc
decreases-loop-alloc l = length l.rest
