use Rattle.std.proofs.Common.{◌≡◌, ◌++◌, drop, map}
use Rattle.std.specs.Option.{option_map}
use Rattle.fy_phrase.specs.Reads.{reads, reads_parts, trees_from}
use Rattle.fy_show.specs.Texts.{letters}
use Rattle.fy_show.proofs.sequence.letters.Given as goal

-- the characters so far, in front of those that are left, if all are
abbrev pub invariant-loop-part : goal.invariant-loop-part
invariant-loop-part l =
    option_map (λ more. l.bytes.items ++ more) (letters (trees_from (map reads (drop l.part-index l.part-items)))) ≡ letters (reads_parts l.parts)
