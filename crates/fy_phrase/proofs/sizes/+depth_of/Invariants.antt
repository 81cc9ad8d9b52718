use Rattle.std.proofs.Common.{◌≡◌, map, take}
use Rattle.fy_phrase.specs.Reads.{reads, trees_from}
use Rattle.fy_phrase.specs.Sizes.{all_depth, greatest_u32}
use Rattle.fy_phrase.proofs.sizes.+depth_of.Given as goal

abbrev pub invariant-depth_of_parts-loop-part : goal.invariant-depth_of_parts-loop-part
invariant-depth_of_parts-loop-part l = l.greatest ≡ greatest_u32 (all_depth (trees_from (map reads (take l.part-index l.part-items))))
