use Rattle.std.proofs.Common.{sym, subst, rules, arith}
use Rattle.std.proofs.lemmas.Grind.{common_steps}
use Rattle.std.proofs.lemmas.Result.{err_from_is_err_and}
use Rattle.fy_lexer.specs.Reading.{ElementsFault, TakesElements}
use Rattle.fy_lexer.proofs.ReadingLemmas.{TakesElements-push, ElementsFault-here, IfErr-handed}
use Rattle.fy_lexer.proofs.reader.Reader.elements.Goals as goal

pub loop-start-preserved : goal.loop-start-preserved
loop-start-preserved c =
    subst (λ values. TakesElements 34 c.args.self.now values c.element.new.self) (sym c.in_ok-push.ensures.ok)
    (TakesElements-push 34 c.args.self.now c.loop-start.self c.element.new.self c.loop-start.values c.in_ok-element.field-0 c.loop-start.invariant c.in_ok-element.ensures.ok)

pub returns-in_err-element-clause-err : goal.returns-in_err-element-clause-err
returns-in_err-element-clause-err c =
    let given = err_from_is_err_and c.from_residual.result c.from_residual.ensures.1 in
    let e = c.in_err-element.field-0.0 in
    let here = ElementsFault-here 34 c.args.self.now c.loop-start.self c.loop-start.values c.args.start e c.loop-start.invariant (first_of (search rules, grind (arith, common_steps))) c.in_err-element.ensures.err in
    IfErr-handed (λ e. ElementsFault 34 c.args.self.now c.args.start e) c.from_residual.result given.0 e given.1 given.2 here
