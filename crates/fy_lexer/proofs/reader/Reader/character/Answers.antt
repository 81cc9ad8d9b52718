use Rattle.std.proofs.Common.{sym, subst}
use Rattle.std.proofs.lemmas.Result.{err_from_is_err_and}
use Rattle.fy_lexer.specs.declared.error.LexError.TheVariants.{BadByte, Unclosed}
use Rattle.fy_lexer.specs.Reading.{PieceFault}
use Rattle.fy_lexer.proofs.LiteralLemmas.{takes-character, fault-character, bad-character-end, cut-character-end}
use Rattle.fy_lexer.proofs.ReadingLemmas.{Took, Took-next, IfErr-handed}
use Rattle.fy_lexer.proofs.reader.Reader.character.Goals as goal

pub returns-in_err-value-clause-err : goal.returns-in_err-value-clause-err
returns-in_err-value-clause-err c =
    let p = err_from_is_err_and c.from_residual.result c.from_residual.ensures.1 in
    IfErr-handed _ c.from_residual.result p.0 _ p.1 p.2
    (fault-character c.args.self.now c.next.new.self c.place-start.result c.in_err-value.field-0.0
    (Took-next c.args.self.now c.next.new.self c.next.result 39 c.requires c.next.ensures) c.place-start.ensures c.in_err-value.ensures.err)

pub returns-in-Some-eq39-clause-ok : goal.returns-in-Some-eq39-clause-ok
returns-in-Some-eq39-clause-ok c =
    takes-character c.args.self.now c.next.new.self c.element.new.self c.next-2.new.self c.in_ok-value.value
    (Took-next c.args.self.now c.next.new.self c.next.result 39 c.requires c.next.ensures) c.in_ok-value.ensures.ok
    (subst (λ b. Took c.element.new.self b c.next-2.new.self) c.in-Some-eq39.field-0-test c.in-Some-eq39.ensures)

pub returns-in-Some-clause-err : goal.returns-in-Some-clause-err
returns-in-Some-clause-err c =
    subst (λ p. PieceFault c.args.self.now (BadByte p)) (sym c.place-place.ensures)
    (bad-character-end c.args.self.now c.next.new.self c.element.new.self c.next-2.new.self c.in_ok-value.value c.in-Some.field-0
    (Took-next c.args.self.now c.next.new.self c.next.result 39 c.requires c.next.ensures) c.in_ok-value.ensures.ok c.in-Some.ensures c.in-Some.field-0-test.1)

pub returns-in-None-clause-err : goal.returns-in-None-clause-err
returns-in-None-clause-err c =
    subst (λ p. PieceFault c.args.self.now (Unclosed p)) (sym c.place-start.ensures)
    (cut-character-end c.args.self.now c.next.new.self c.element.new.self c.in_ok-value.value
    (Took-next c.args.self.now c.next.new.self c.next.result 39 c.requires c.next.ensures) c.in_ok-value.ensures.ok c.in-None.ensures.0)
