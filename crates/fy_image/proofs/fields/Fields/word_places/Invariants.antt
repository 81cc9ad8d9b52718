use Rattle.std.proofs.Common.{◌≡◌, ◌≤◌, ◌*◌, ◌++◌, length, All}
use Rattle.std.specs.List.{flat_map}
use Rattle.fy_image.specs.declared.version.Version.TheVariants.{One}
use Rattle.fy_image.specs.Form.{place_bytes, PlaceFits}
use Rattle.fy_image.proofs.fields.Fields.word_places.Given as goal

abbrev pub invariant-loop : goal.invariant-loop
invariant-loop l = record {
  taken : l.initial.self ≡ flat_map (place_bytes One) l.places ++ l.self;
  count : length l.places ≡ l.counter;
  fit : All PlaceFits l.places;
  there : 8 * l.count ≤ length l.initial.self;
}
