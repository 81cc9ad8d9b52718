use Rattle.std.proofs.Common.{sym, ap}
use Rattle.fy_lexer.specs.Reading.{passes}
use Rattle.fy_lexer.proofs.ReadingLemmas.{Took-next}
use Rattle.fy_lexer.proofs.RunLemmas.{run-more, stop-some, stop-none}
use Rattle.fy_lexer.proofs.reader.Reader.run.Goals as goal
use Rattle.fy_lexer.proofs.reader.Reader.run.Goals.{in-Some+then-not-passes, in_default}

pub loop-byte-preserved : goal.loop-byte-preserved
loop-byte-preserved c =
    let i = c.loop-byte.invariant in
    run-more (passes c.args.class) c.self.inside.rest.now c.loop-byte.len c.args.self.now c.loop-byte.self c.next.new.self c.in-Some.byte i.0 (ap (λ s. s.rest) c.self.view_is) i.1
    (Took-next c.loop-byte.self c.next.new.self c.next.result c.in-Some.byte (sym c.in-Some.ensures) c.next.ensures) (sym c.if-not-passes.ensures) i.2

pub returns-clause-stopped : goal.returns-clause-stopped
returns-clause-stopped c =
    elim c.match-peek.branch [
      | in-Some+then-not-passes w ↦ stop-some (passes c.args.class) c.loop-byte.self.rest w.in-Some.byte (sym w.in-Some.ensures) (sym w.if-not-passes.ensures)
      | in_default w ↦ stop-none (passes c.args.class) c.loop-byte.self.rest (sym w.in_default.ensures)
    ]
