use Rattle.std.proofs.Common.{◌≡◌, map, take}
use Rattle.fy_phrase.specs.Reads.{phrases_in, reads}
use Rattle.fy_phrase.proofs.copying.+copy_phrase.Given as goal

abbrev pub invariant-copy_parts-loop-part : goal.invariant-copy_parts-loop-part
invariant-copy_parts-loop-part l = map reads (phrases_in l.made) ≡ map reads (take l.part-index l.part-items)
