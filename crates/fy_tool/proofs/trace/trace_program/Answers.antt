use Rattle.fy_phrase.specs.Reads.{reads}
use Rattle.fy_tool.proofs.TextCommands.{traced_by, wanted_goes}
use Rattle.fy_tool.proofs.trace.trace_program.Goals as goal

pub run_stepped-requires-clause-lost : goal.run_stepped-requires-clause-lost
run_stepped-requires-clause-lost g c =
    let program = c.args.program.now in
    wanted_goes c.args.straight (reads program.phrase) program.table c.in-Ok.code c.in-Ok.ensures

pub returns-in-Ok-clause-traced : goal.returns-in-Ok-clause-traced
returns-in-Ok-clause-traced g c =
    traced_by c.args.program.now c.args.straight c.in-Ok.code c.args.steps _ (g.W.World.holds c.run_stepped.new.world) c.run_stepped.result c.in-Ok.ensures c.run_stepped.ensures.run
