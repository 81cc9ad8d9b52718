use Rattle.std.proofs.Common.{◌≡◌, ◌-◌, ◌≤◌}
use Rattle.rv_insn.specs.declared.events.Status.TheVariants.{Running}
use Rattle.rv_machine.proofs.Striding.{Gone}
use Rattle.rv_machine.proofs.run.run_watched.Given as goal

abbrev pub invariant-turns : goal.invariant-turns
invariant-turns g l = record {
  running : l.m.core.status ≡ Running;
  program : l.m.program ≡ l.initial.m.program;
  few : l.done ≤ l.steps;
  fewer : l.bytes ≤ l.done;
  gone : Gone l.initial.m.program l.initial.m.core l.done l.bytes l.m.core (g.I.Source.left l.initial.input) (g.I.Source.left l.input) l.over (g.O.Sink.held l.initial.output) (g.O.Sink.held l.output) (g.W.Watch.room l.initial.watch) (g.W.Watch.held l.initial.watch) (g.W.Watch.held l.watch);
  room : g.W.Watch.room l.watch ≡ g.W.Watch.room l.initial.watch;
  input_quiet : g.I.Source.faults l.input ≡ g.I.Source.faults l.initial.input;
  output_quiet : g.O.Sink.faults l.output ≡ g.O.Sink.faults l.initial.output;
}

abbrev pub decreases-turns : goal.decreases-turns
decreases-turns g l = l.steps - l.done
