use Rattle.std.proofs.Common.{◌+◌, ◌*◌, length, map}
use Rattle.fy_lexer.specs.declared.token.Symbol.TheVariants as symbol
use Rattle.fy_syntax.specs.Reading.{type_tree, types_in}
use Rattle.fy_syntax.specs.Reader.{type_field, type_inner}
use Rattle.fy_grammar.proofs.Many.{ReadsOn, after, behind_first}
use Rattle.fy_grammar.proofs.types.+types.Given as goal

abbrev pub decreases-group : goal.decreases-group
decreases-group l = 8 * l.left + 7

abbrev pub decreases-ty : goal.decreases-ty
decreases-ty l = 8 * l.left + 5

abbrev pub decreases-inter : goal.decreases-inter
decreases-inter l = 8 * l.left + 4

abbrev pub decreases-members : goal.decreases-members
decreases-members l = 8 * l.left + 3

abbrev pub decreases-field : goal.decreases-field
decreases-field l = 8 * l.left + 2

abbrev pub decreases-primary : goal.decreases-primary
decreases-primary l = 8 * l.left + 1

abbrev pub invariant-members-loop-alloc : goal.invariant-members-loop-alloc
invariant-members-loop-alloc l =
    ReadsOn (after symbol.Ampersand (type_field (type_inner l.left))) (behind_first (after symbol.Ampersand (type_field (type_inner l.left))) (type_tree l.fn.first) l.fn.tokens)
    (map type_tree (types_in l.members)) l.rest

abbrev pub decreases-members-loop-alloc : goal.decreases-members-loop-alloc
decreases-members-loop-alloc l = length l.rest
