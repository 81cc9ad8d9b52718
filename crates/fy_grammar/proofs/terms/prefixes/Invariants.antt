use Rattle.std.proofs.Common.{◌≡◌, ◌++◌, length}
use Rattle.fy_syntax.specs.Reader.{prefixes_at}
use Rattle.fy_grammar.proofs.terms.prefixes.Given as goal

abbrev pub invariant-loop-op : goal.invariant-loop-op
invariant-loop-op l = record {
  items : l.operators ++ (prefixes_at l.rest).0 ≡ (prefixes_at l.fn.tokens).0;
  rest : (prefixes_at l.rest).1 ≡ (prefixes_at l.fn.tokens).1;
}

abbrev pub decreases-loop-op : goal.decreases-loop-op
decreases-loop-op l = length l.rest
