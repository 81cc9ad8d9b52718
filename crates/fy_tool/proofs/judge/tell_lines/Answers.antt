use Rattle.fy_tool.proofs.Judging.{lines_told, lines_unput, lines_untold}
use Rattle.fy_tool.proofs.judge.tell_lines.Goals as goal

pub returns-in-Err-clause-did : goal.returns-in-Err-clause-did
returns-in-Err-clause-did g c = lines_unput c.args.status c.args.why c.args.lines.now _ (g.W.World.holds c.put.new.self) c.in-Err.stop c.requires.some c.in-Err.ensures.rest c.in-Err.ensures.part c.in-Err.ensures.stop

pub returns-in-Ok-tell-clause-did : goal.returns-in-Ok-tell-clause-did
returns-in-Ok-tell-clause-did g c = lines_told c.args.status c.args.why c.args.lines.now _ (g.W.World.holds c.put.new.self) _ c.in-Ok.ensures.put c.in-Ok-tell.ensures.told

pub returns-in-Err-tell-clause-did : goal.returns-in-Err-tell-clause-did
returns-in-Err-tell-clause-did g c =
    lines_untold c.args.status c.args.why c.args.lines.now _ (g.W.World.holds c.put.new.self) (g.W.World.holds c.tell.new.world) c.in-Err-tell.stop c.in-Ok.ensures.put c.in-Err-tell.ensures.rest c.in-Err-tell.ensures.part c.in-Err-tell.ensures.stop
