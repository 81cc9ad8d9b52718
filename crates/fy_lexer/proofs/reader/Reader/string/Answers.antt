use Rattle.std.proofs.lemmas.Result.{err_from_is_err_and}
use Rattle.fy_lexer.proofs.LiteralLemmas.{takes-string, fault-string}
use Rattle.fy_lexer.proofs.ReadingLemmas.{Took-next, IfErr-handed}
use Rattle.fy_lexer.proofs.reader.Reader.string.Goals as goal

pub returns-in_err-values-clause-err : goal.returns-in_err-values-clause-err
returns-in_err-values-clause-err c =
    let p = err_from_is_err_and c.from_residual.result c.from_residual.ensures.1 in
    IfErr-handed _ c.from_residual.result p.0 _ p.1 p.2
    (fault-string c.args.self.now c.next.new.self c.place-start.result c.in_err-values.field-0.0
    (Took-next c.args.self.now c.next.new.self c.next.result 34 c.requires c.next.ensures) c.place-start.ensures c.in_err-values.ensures.err)

pub returns-clause-ok : goal.returns-clause-ok
returns-clause-ok c =
    takes-string c.args.self.now c.next.new.self c.elements.new.self c.next-2.new.self c.in_ok-values.values
    (Took-next c.args.self.now c.next.new.self c.next.result 34 c.requires c.next.ensures) c.in_ok-values.ensures.ok.0
    (Took-next c.elements.new.self c.next-2.new.self c.next-2.result 34 c.in_ok-values.ensures.ok.1 c.next-2.ensures)
