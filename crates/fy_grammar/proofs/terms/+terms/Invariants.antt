use Rattle.std.proofs.Common.{◌+◌, ◌*◌, ◌-◌, length, map}
use Rattle.fy_lexer.specs.declared.token.Symbol.TheVariants as symbol
use Rattle.fy_syntax.specs.Reading.{tree_of, phrases_in, def_of, defs_in, link_of, links_in}
use Rattle.fy_syntax.specs.Reader.{rank, read_at, read_term, select_at, inner}
use Rattle.fy_grammar.specs.Levels.{level_of}
use Rattle.fy_grammar.proofs.Many.{ReadsOn, many, after, argument, link, def, behind_first}
use Rattle.fy_grammar.proofs.terms.+terms.Given as goal

abbrev pub decreases-formed : goal.decreases-formed
decreases-formed l = 64 * l.left + 63

abbrev pub decreases-lam : goal.decreases-lam
decreases-lam l = 64 * l.left + 62

abbrev pub decreases-let_in : goal.decreases-let_in
decreases-let_in l = 64 * l.left + 62

abbrev pub decreases-letrec : goal.decreases-letrec
decreases-letrec l = 64 * l.left + 62

abbrev pub decreases-let_type : goal.decreases-let_type
decreases-let_type l = 64 * l.left + 62

abbrev pub decreases-new : goal.decreases-new
decreases-new l = 64 * l.left + 62

abbrev pub decreases-escape : goal.decreases-escape
decreases-escape l = 64 * l.left + 62

abbrev pub decreases-accept : goal.decreases-accept
decreases-accept l = 64 * l.left + 62

abbrev pub decreases-cond : goal.decreases-cond
decreases-cond l = 64 * l.left + 62

abbrev pub decreases-while_do : goal.decreases-while_do
decreases-while_do l = 64 * l.left + 62

abbrev pub decreases-forever : goal.decreases-forever
decreases-forever l = 64 * l.left + 62

abbrev pub decreases-field : goal.decreases-field
decreases-field l = 64 * l.left + 62

abbrev pub decreases-group : goal.decreases-group
decreases-group l = 64 * l.left + 60

abbrev pub decreases-parts : goal.decreases-parts
decreases-parts l = 64 * l.left + 60

abbrev pub decreases-defs : goal.decreases-defs
decreases-defs l = 64 * l.left + 51

abbrev pub decreases-def : goal.decreases-def
decreases-def l = 64 * l.left + 50

abbrev pub decreases-phrase : goal.decreases-phrase
decreases-phrase l = 64 * l.left + 46

abbrev pub decreases-sequence : goal.decreases-sequence
decreases-sequence l = 64 * l.left + 43

abbrev pub decreases-term : goal.decreases-term
decreases-term l = 64 * l.left + 39

abbrev pub decreases-assign : goal.decreases-assign
decreases-assign l = 64 * l.left + 38

abbrev pub decreases-members : goal.decreases-members
decreases-members l = 64 * l.left + (4 * (13 - rank (level_of l.level)) + 1)

abbrev pub decreases-at_level : goal.decreases-at_level
decreases-at_level l = 64 * l.left + 4 * (13 - rank (level_of l.level))

abbrev pub decreases-chain : goal.decreases-chain
decreases-chain l = 64 * l.left + (4 * (13 - rank (level_of l.operand)) + 2)

abbrev pub decreases-links : goal.decreases-links
decreases-links l = 64 * l.left + (4 * (13 - rank (level_of l.operand)) + 1)

abbrev pub decreases-relation : goal.decreases-relation
decreases-relation l = 64 * l.left + 27

abbrev pub decreases-prefixed : goal.decreases-prefixed
decreases-prefixed l = 64 * l.left + 15

abbrev pub decreases-apply : goal.decreases-apply
decreases-apply l = 64 * l.left + 14

abbrev pub decreases-arguments : goal.decreases-arguments
decreases-arguments l = 64 * l.left + 13

abbrev pub decreases-select : goal.decreases-select
decreases-select l = 64 * l.left + 12

abbrev pub decreases-primary : goal.decreases-primary
decreases-primary l = 64 * l.left + 11

abbrev pub invariant-members-loop-alloc : goal.invariant-members-loop-alloc
invariant-members-loop-alloc l =
    ReadsOn (after l.separator (read_at l.left (level_of l.level))) (behind_first (after l.separator (read_at l.left (level_of l.level))) (tree_of l.fn.first) l.fn.tokens)
    (map tree_of (phrases_in l.members)) l.rest

abbrev pub decreases-members-loop-alloc : goal.decreases-members-loop-alloc
decreases-members-loop-alloc l = length l.rest

abbrev pub invariant-defs-loop-alloc : goal.invariant-defs-loop-alloc
invariant-defs-loop-alloc l =
    ReadsOn (after symbol.Comma (def (read_term l.left))) (behind_first (after symbol.Comma (def (read_term l.left))) (def_of l.fn.first) l.fn.tokens)
    (map def_of (defs_in l.defs)) l.rest

abbrev pub decreases-defs-loop-alloc : goal.decreases-defs-loop-alloc
decreases-defs-loop-alloc l = length l.rest

abbrev pub invariant-links-loop-op : goal.invariant-links-loop-op
invariant-links-loop-op l =
    ReadsOn (link (level_of l.level) (read_at l.left (level_of l.operand))) (many (length l.fn.tokens) (link (level_of l.level) (read_at l.left (level_of l.operand))) l.fn.tokens)
    (map link_of (links_in l.links)) l.rest

abbrev pub decreases-links-loop-op : goal.decreases-links-loop-op
decreases-links-loop-op l = length l.rest

abbrev pub invariant-arguments-loop-alloc : goal.invariant-arguments-loop-alloc
invariant-arguments-loop-alloc l =
    ReadsOn (argument (select_at (inner l.left))) (many (length l.fn.tokens) (argument (select_at (inner l.left))) l.fn.tokens)
    (map tree_of (phrases_in l.arguments)) l.rest

abbrev pub decreases-arguments-loop-alloc : goal.decreases-arguments-loop-alloc
decreases-arguments-loop-alloc l = length l.rest
