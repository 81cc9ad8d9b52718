use Rattle.std.proofs.Common.{◌≡◌, ◌+◌, ◌*◌, ◌++◌, ◌<◌, ◌^◌, length, All}
use Rattle.std.specs.List.{flat_map}
use Rattle.fy_image.specs.Form.{double}
use Rattle.fy_elf.proofs.fields.Fields.doubles.Given as goal

abbrev pub invariant-loop : goal.invariant-loop
invariant-loop l = record {
  bytes_are : l.initial.self.bytes ≡ flat_map double l.doubles ++ l.self.bytes;
  offset_is : l.self.offset ≡ l.initial.self.offset + 8 * length l.doubles;
  count : length l.doubles ≡ l.counter;
  fit : All (λ n. n < 2 ^ 64) l.doubles;
}
