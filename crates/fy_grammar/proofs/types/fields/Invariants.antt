use Rattle.std.proofs.Common.{◌≡◌, ◌++◌, length}
use Rattle.fy_syntax.specs.Reader.{fields_at}
use Rattle.fy_grammar.proofs.types.fields.Given as goal

abbrev pub invariant-loop-name : goal.invariant-loop-name
invariant-loop-name l = record {
  items : l.names ++ (fields_at l.rest).0 ≡ (fields_at l.fn.tokens).0;
  rest : (fields_at l.rest).1 ≡ (fields_at l.fn.tokens).1;
}

abbrev pub decreases-loop-name : goal.decreases-loop-name
decreases-loop-name l = length l.rest
