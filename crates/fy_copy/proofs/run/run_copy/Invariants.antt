use Rattle.std.proofs.Common.{◌≡◌, false}
use Rattle.fy_phrase.specs.Reads.{reads}
use Rattle.fy_copy.specs.Seen.{seen}
use Rattle.fy_copy.specs.declared.state.Phase.TheVariants.{Going}
use Rattle.fy_copy.proofs.Ending.{Reached}
use Rattle.fy_copy.proofs.run.run_copy.Given as goal

abbrev pub invariant-loop-k : goal.invariant-loop-k
invariant-loop-k g l = record {
  reached : Reached (reads l.p) l.k (seen l.state).state l.peak (record { left = g.I.Source.left l.fn.input; over = false; held = g.O.Sink.held l.fn.output }) (record { left = g.I.Source.left l.input; over = l.over; held = g.O.Sink.held l.output });
  steps : (seen l.state).steps ≡ l.k;
  phase : (seen l.state).phase ≡ Going;
  input_quiet : g.I.Source.faults l.input ≡ g.I.Source.faults l.fn.input;
  output_quiet : g.O.Sink.faults l.output ≡ g.O.Sink.faults l.fn.output;
}
