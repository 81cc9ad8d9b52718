use Rattle.std.proofs.Common.{length, map}
use Rattle.fy_lexer.specs.declared.token.Symbol.TheVariants as symbol
use Rattle.fy_syntax.specs.Reading.{decl_tree}
use Rattle.fy_syntax.specs.Reader.{read_type, decl_at}
use Rattle.fy_grammar.proofs.Many.{ReadsOn, after, behind_first}
use Rattle.fy_grammar.proofs.types.decls.Given as goal

abbrev pub invariant-loop-alloc : goal.invariant-loop-alloc
invariant-loop-alloc l =
    ReadsOn (after symbol.Comma (decl_at (read_type l.left))) (behind_first (after symbol.Comma (decl_at (read_type l.left))) (decl_tree l.fn.first) l.fn.tokens)
    (map decl_tree (l.decls)) l.rest

abbrev pub decreases-loop-alloc : goal.decreases-loop-alloc
decreases-loop-alloc l = length l.rest
