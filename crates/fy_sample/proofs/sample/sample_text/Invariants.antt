use Rattle.std.proofs.Common.{◌≡◌, ◌++◌}
use Rattle.fy_sample.specs.Sample.{number_at, statements, opening}
use Rattle.fy_sample.proofs.sample.sample_text.Given as goal

-- the statements so far stand in the text
abbrev pub invariant-loop : goal.invariant-loop
invariant-loop l = record {
  last : l.x ≡ number_at l.number l.counter;
  so_far : l.text.items ≡ opening ++ statements l.number l.counter;
}
