use Rattle.std.proofs.Common.{◌∙◌, refl, sym, ap, length}
use Rattle.std.proofs.lemmas.Bool.{eqb-true, eqb-false}
use Rattle.fy_world.proofs.Lines.{none_long}
use Rattle.fy_world.proofs.Parts.{written_none, written_put, written_part}
use Rattle.fy_world.proofs.telling.write.Goals as goal

pub returns-then-is_empty-clause-did : goal.returns-then-is_empty-clause-did
returns-then-is_empty-clause-did g c = written_none _ c.args.bytes.now 0 refl (none_long c.args.bytes.now (eqb-true (length c.args.bytes.now) 0 (sym c.is_empty.ensures ∙ c.if-is_empty.true)))

pub returns-in-Ok-clause-did : goal.returns-in-Ok-clause-did
returns-in-Ok-clause-did g c = written_put _ _ _ 0 refl c.in-Ok.ensures.put

pub returns-in-Err-clause-did : goal.returns-in-Err-clause-did
returns-in-Err-clause-did g c =
    let some = eqb-false (length c.args.bytes.now) 0 (sym c.is_empty.ensures ∙ c.if-is_empty.false) in
    written_part _ (g.W.World.holds c.put.new.self) c.args.bytes.now c.in-Err.stop (λ none. some (ap length none)) c.in-Err.ensures.rest c.in-Err.ensures.part c.in-Err.ensures.stop
