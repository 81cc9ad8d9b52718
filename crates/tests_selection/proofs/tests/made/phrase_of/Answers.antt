use Rattle.std.proofs.Common.{sym, subst}
use Rattle.fy_grammar.specs.Program.{IsEnded}
use Rattle.fy_grammar.proofs.Lexed.{lexed_ended}
use Rattle.tests_selection.proofs.tests.made.phrase_of.Goals as goal

pub parse-requires : goal.parse-requires
parse-requires c = subst IsEnded (sym c.as_slice.ensures.value) (lexed_ended _ _ c.in_ok-tokens.tokens.items _ c.in_ok-tokens.ensures.ok)

pub returns-clause-made : goal.returns-clause-made
returns-clause-made c = c.in_ok-expand.ensures.well_made _ c.in_ok-tree.ensures.ok.spelled
