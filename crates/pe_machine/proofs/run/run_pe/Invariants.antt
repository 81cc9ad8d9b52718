use Rattle.std.proofs.Common.{◌≡◌, false}
use Rattle.pe_machine.specs.Seen.{seen}
use Rattle.pe_machine.specs.declared.events.Phase.TheVariants.{Going}
use Rattle.pe_machine.proofs.Ending.{Reached}
use Rattle.pe_machine.proofs.run.run_pe.Given as goal

abbrev pub invariant-loop-k : goal.invariant-loop-k
invariant-loop-k g l = record {
  reached : Reached l.code l.stack_words l.k (seen l.state).state (record { left = g.I.Source.left l.fn.input; over = false; held = g.O.Sink.held l.fn.output }) (record { left = g.I.Source.left l.input; over = l.over; held = g.O.Sink.held l.output });
  steps : (seen l.state).steps ≡ l.k;
  phase : (seen l.state).phase ≡ Going;
  limit : (seen l.state).limit ≡ l.stack_words;
  input_quiet : g.I.Source.faults l.input ≡ g.I.Source.faults l.fn.input;
  output_quiet : g.O.Sink.faults l.output ≡ g.O.Sink.faults l.fn.output;
}
