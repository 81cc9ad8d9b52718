use Rattle.std.proofs.Common.{◌≡◌, ◌+◌, ◌*◌, ◌++◌, ◌<◌, ◌^◌, length, All}
use Rattle.std.specs.List.{flat_map}
use Rattle.fy_image.specs.Form.{word}
use Rattle.fy_elf.proofs.fields.Fields.words.Given as goal

abbrev pub invariant-loop : goal.invariant-loop
invariant-loop l = record {
  bytes_are : l.initial.self.bytes ≡ flat_map word l.words ++ l.self.bytes;
  offset_is : l.self.offset ≡ l.initial.self.offset + 4 * length l.words;
  count : length l.words ≡ l.counter;
  fit : All (λ n. n < 2 ^ 32) l.words;
}
