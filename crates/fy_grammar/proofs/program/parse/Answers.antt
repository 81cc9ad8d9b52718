use Rattle.std.proofs.Common.{sym, subst}
use Rattle.fy_syntax.specs.Reader.{read_phrase}
use Rattle.fy_syntax.specs.Reading.{tree_of}
use Rattle.fy_places.specs.Begins.{IsSyntaxFault, IsDepthFault}
use Rattle.fy_grammar.specs.declared.stop.Stop.{Stop}
use Rattle.fy_grammar.specs.Gives.{Stops}
use Rattle.fy_grammar.specs.Program.{deepest}
use Rattle.fy_grammar.proofs.Programs.{program_found, program_wrong, program_deep}
use Rattle.fy_grammar.proofs.program.parse.Goals as goal

pub returns-then-is_over-clause-ok : goal.returns-then-is_over-clause-ok
returns-then-is_over-clause-ok c = program_found c.args.tokens.now c.in-Ok.rest.now (tree_of c.in-Ok.tree) c.requires c.in-Ok.ensures (sym c.if-is_over.ensures)

pub returns-in-Err-Wrong-clause-err : goal.returns-in-Err-Wrong-clause-err
returns-in-Err-Wrong-clause-err c =
    subst (λ place. IsSyntaxFault deepest c.args.tokens.now place) (sym c.front-in-Err-Wrong.ensures)
    (program_wrong c.args.tokens.now c.in-Err-Wrong.rest.now c.requires (subst (λ (s : Stop). Stops s (read_phrase 255 c.args.tokens.now)) c.in-Err-Wrong.field-0-is c.in-Err-Wrong.ensures))

pub returns-in-Err-Deep-clause-err : goal.returns-in-Err-Deep-clause-err
returns-in-Err-Deep-clause-err c =
    subst (λ place. IsDepthFault deepest c.args.tokens.now place) (sym c.front-in-Err-Deep.ensures)
    (program_deep c.args.tokens.now c.in-Err-Deep.rest.now c.requires (subst (λ (s : Stop). Stops s (read_phrase 255 c.args.tokens.now)) c.in-Err-Deep.field-0-is c.in-Err-Deep.ensures))
