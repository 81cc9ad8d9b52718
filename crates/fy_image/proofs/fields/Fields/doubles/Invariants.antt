use Rattle.std.proofs.Common.{◌≡◌, ◌++◌, ◌<◌, ◌^◌, length, All}
use Rattle.std.specs.List.{flat_map}
use Rattle.fy_image.specs.Form.{double}
use Rattle.fy_image.proofs.fields.Fields.doubles.Given as goal

abbrev pub invariant-loop : goal.invariant-loop
invariant-loop l = record {
  taken : l.initial.self ≡ flat_map double l.doubles ++ l.self;
  count : length l.doubles ≡ l.counter;
  fit : All (λ n. n < 2 ^ 64) l.doubles;
}
