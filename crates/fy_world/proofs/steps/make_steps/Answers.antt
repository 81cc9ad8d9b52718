use Rattle.std.proofs.Common.{◌∙◌, refl, arith}
use Rattle.pe_machine.specs.Seen.{seen}
use Rattle.fy_world.proofs.StepRuns.{few_steps, told_start, told_next, told_end, told_stop, told_out}
use Rattle.fy_world.proofs.steps.make_steps.Goals as goal

pub loop-k-init : goal.loop-k-init
loop-k-init g c = record { told = told_start c.args.code.now c.args.names.now (seen c.args.state.now) (g.W.World.holds c.args.world.now) c.requires.begun; counts = refl; same = refl; calls = refl }

pub turn-requires-clause-going : goal.turn-requires-clause-going
turn-requires-clause-going g c = c.loop-k.invariant.told.phase_is

pub turn-requires-clause-few : goal.turn-requires-clause-few
turn-requires-clause-few g c = few_steps _ c.loop-k.k c.loop-k.invariant.told.steps_are (omega arith)

pub turn-requires-clause-at_end : goal.turn-requires-clause-at_end
turn-requires-clause-at_end g c = c.loop-k.invariant.told.reached.at_end

pub end_of-requires-clause-going : goal.end_of-requires-clause-going
end_of-requires-clause-going g c = c.loop-k.invariant.told.phase_is

pub end_of-requires-clause-few : goal.end_of-requires-clause-few
end_of-requires-clause-few g c = few_steps _ c.loop-k.k c.loop-k.invariant.told.steps_are (omega arith)

pub loop-k-preserved : goal.loop-k-preserved
loop-k-preserved g c = record {
  told = told_next c.args.code.now c.args.names.now c.loop-k.k (seen c.loop-k.state) (seen c.turn.new.state) (g.W.World.holds c.args.world.now) c.loop-k.over c.turn.new.over (g.W.World.holds c.loop-k.world) (g.W.World.holds c.turn.new.world)
      c.loop-k.invariant.told (rw c.in-Ok-None.field-0-is at c.in-Ok-None.ensures.turned);
  counts = c.in-Ok-None.ensures.counted ∙ c.loop-k.invariant.counts;
  same = c.in-Ok-None.ensures.same ∙ c.loop-k.invariant.same;
  calls = c.in-Ok-None.ensures.called ∙ c.loop-k.invariant.calls;
}

pub returns-in-Ok-Some-clause-ended : goal.returns-in-Ok-Some-clause-ended
returns-in-Ok-Some-clause-ended g c =
    told_end c.in-Ok-Some.end c.args.code.now c.args.names.now c.loop-k.k c.args.steps (seen c.loop-k.state) (seen c.turn.new.state) (g.W.World.holds c.args.world.now) c.loop-k.over c.turn.new.over (g.W.World.holds c.loop-k.world) (g.W.World.holds c.turn.new.world)
    (rw c.in-Ok-Some.field-0-is at c.in-Ok-Some.ensures.end) c.loop-k-test.true c.loop-k.invariant.told (rw c.in-Ok-Some.field-0-is at c.in-Ok-Some.ensures.turned)

pub returns-in-Err-clause-stopped : goal.returns-in-Err-clause-stopped
returns-in-Err-clause-stopped g c =
    told_stop c.in-Err.stop c.args.code.now c.args.names.now c.loop-k.k c.args.steps (seen c.loop-k.state) (g.W.World.holds c.args.world.now) c.loop-k.over (g.W.World.holds c.loop-k.world) (g.W.World.holds c.turn.new.world) c.loop-k-test.true
    c.loop-k.invariant.told c.in-Err.ensures.stopped

pub returns-clause-ended : goal.returns-clause-ended
returns-clause-ended g c =
    told_out c.end_of.result c.args.code.now c.args.names.now c.loop-k.k c.args.steps (seen c.loop-k.state) (g.W.World.holds c.args.world.now) c.loop-k.over (g.W.World.holds c.loop-k.world) (omega arith) c.loop-k.invariant.told c.end_of.ensures
