use Rattle.std.proofs.Common.{◌≡◌, map, take}
use Rattle.fy_base.specs.declared.data.Datum.TheVariants as datum
use Rattle.fy_phrase.specs.Tree.{lit}
use Rattle.fy_phrase.specs.Reads.{reads, phrases_in}
use Rattle.fy_expand.proofs.build.text_parts.Given as goal

abbrev pub invariant-loop-byte : goal.invariant-loop-byte
invariant-loop-byte l = map reads (phrases_in l.made) ≡ map (λ b. lit (datum.Char b) l.at) (take l.byte-index l.bytes)
