use Rattle.std.proofs.Common.{◌≡◌, map, take}
use Rattle.fy_phrase.specs.Reads.{reads, trees_from}
use Rattle.fy_phrase.specs.Sizes.{greatest_u32}
use Rattle.fy_derive.specs.Shapes.{all_thunks}
use Rattle.pe_shapes.proofs.sizes.+thunks.Given as goal

abbrev pub invariant-thunks_of_parts-loop-part : goal.invariant-thunks_of_parts-loop-part
invariant-thunks_of_parts-loop-part l = l.count ≡ greatest_u32 (all_thunks (trees_from (map reads (take l.part-index l.part-items))))
