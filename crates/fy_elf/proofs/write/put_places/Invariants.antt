use Rattle.std.proofs.Common.{◌≡◌, ◌++◌, ◌<◌, ℕ, take, slice_index_or}
use Rattle.std.specs.List.{flat_map}
use Rattle.fy_base.specs.declared.data.Place.{Place}
use Rattle.fy_image.specs.declared.version.Version.TheVariants.{One}
use Rattle.fy_image.specs.Form.{place_bytes, PlaceFits}
use Rattle.fy_elf.proofs.write.put_places.Given as goal

abbrev pub invariant-loop-place : goal.invariant-loop-place
invariant-loop-place l = record {
  put : l.bytes.items ≡ l.initial.bytes.items ++ flat_map (place_bytes One) (take l.place-index l.places);
  fit : (k : ℕ) (d : Place) → k < l.place-index → PlaceFits (slice_index_or l.places k d);
}
