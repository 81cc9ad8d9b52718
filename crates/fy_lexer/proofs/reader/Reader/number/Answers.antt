use Rattle.fy_lexer.specs.Spellings.{decimal}
use Rattle.fy_lexer.proofs.ReadingLemmas.{IfOk-ok_or, IfErr-ok_or, match-some, match-none}
use Rattle.fy_lexer.proofs.WordLemmas.{IsNumberRun, number-run, takes-number, large-number}
use Rattle.fy_lexer.proofs.reader.Reader.number.Goals as goal

run : (c : goal.After-ok_or) → IsNumberRun c.args.self.now c.run-digits.result.now c.run-digits.new.self
run c = number-run c.args.self.now c.run-digits.new.self c.run-digits.result.now c.requires c.run-digits.ensures.moved c.run-digits.ensures.passing c.run-digits.ensures.stopped

pub returns-clause-ok : goal.returns-clause-ok
returns-clause-ok c =
    IfOk-ok_or _ c.value_of.result _ c.ok_or.result c.ok_or.ensures.value
    (λ n h. takes-number c.args.self.now c.run-digits.new.self c.run-digits.result.now n (run c) c.run-digits.ensures.moved (match-some _ _ c.value_of.result n h c.value_of.ensures).0)

pub returns-clause-err : goal.returns-clause-err
returns-clause-err c =
    IfErr-ok_or _ c.value_of.result _ c.ok_or.result c.ok_or.ensures.value
    (λ h. (large-number c.args.self.now c.run-digits.new.self c.run-digits.result.now (run c) c.run-digits.ensures.moved (match-none _ _ c.value_of.result h c.value_of.ensures), c.place-start.ensures))

pub returns-clause-small : goal.returns-clause-small
returns-clause-small c =
    IfOk-ok_or _ c.value_of.result _ c.ok_or.result c.ok_or.ensures.value
    (λ n h. let m = match-some _ _ c.value_of.result n h c.value_of.ensures in record { value = decimal c.run-digits.result.now; is = m.0; small = m.1 })
