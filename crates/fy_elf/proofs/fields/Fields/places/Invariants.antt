use Rattle.std.proofs.Common.{◌≡◌, ◌+◌, ◌*◌, ◌++◌, length, All}
use Rattle.std.specs.List.{flat_map}
use Rattle.fy_image.specs.declared.version.Version.TheVariants.{One}
use Rattle.fy_image.specs.Form.{place_bytes, PlaceFits}
use Rattle.fy_elf.proofs.fields.Fields.places.Given as goal

abbrev pub invariant-loop : goal.invariant-loop
invariant-loop l = record {
  bytes_are : l.initial.self.bytes ≡ flat_map (place_bytes One) l.places ++ l.self.bytes;
  offset_is : l.self.offset ≡ l.initial.self.offset + 8 * length l.places;
  count : length l.places ≡ l.counter;
  fit : All PlaceFits l.places;
}
