use Rattle.std.proofs.Common.{◌≡◌, None, vec_len}
use Rattle.fy_read.specs.Opened.{nodes_of, given}
use Rattle.fy_derive.specs.Reading.{plain_derivation}
use Rattle.fy_read.proofs.nodes.Nodes.give.Given as goal

abbrev pub invariant-loop-node : goal.invariant-loop-node
invariant-loop-node l = record {
  given : given (nodes_of l.self).waiting (plain_derivation l.d) ≡ given (nodes_of l.initial.self).waiting (plain_derivation l.initial.d);
  none : (nodes_of l.self).whole ≡ None;
  count : l.self.count ≡ l.initial.self.count;
}

abbrev pub decreases-loop-node : goal.decreases-loop-node
decreases-loop-node l = vec_len l.self.waiting
