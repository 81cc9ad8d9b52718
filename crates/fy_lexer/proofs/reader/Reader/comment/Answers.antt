use Rattle.fy_lexer.proofs.ReadingLemmas.{Took-next}
use Rattle.fy_lexer.proofs.WordLemmas.{takes-comment, cut-comment}
use Rattle.fy_lexer.proofs.reader.Reader.comment.Goals as goal

pub returns-in-Some-clause-ok : goal.returns-in-Some-clause-ok
returns-in-Some-clause-ok c =
    takes-comment c.args.self.now c.next.new.self c.run.new.self c.next-2.new.self c.run.result.now c.in-Some.field-0
    (Took-next c.args.self.now c.next.new.self c.next.result 123 c.requires c.next.ensures) c.run.ensures.moved c.run.ensures.passing c.run.ensures.stopped c.in-Some.ensures

pub returns-in-None-clause-err : goal.returns-in-None-clause-err
returns-in-None-clause-err c = (
  cut-comment c.args.self.now c.next.new.self c.run.new.self c.run.result.now
      (Took-next c.args.self.now c.next.new.self c.next.result 123 c.requires c.next.ensures) c.run.ensures.moved c.run.ensures.passing c.in-None.ensures.0,
  c.place-start.ensures,
)
