use Rattle.std.proofs.Common.{◌≡◌, ◌+◌, ◌*◌, drop, map}
use Rattle.fy_phrase.specs.declared.phrase.Phrase.{size-Phrase}
use Rattle.fy_phrase.specs.declared.phrase.Parts.{size-Parts}
use Rattle.fy_phrase.specs.Reads.{reads, reads_parts, trees_from}
use Rattle.fy_show.specs.Fresh.{any_uses}
use Rattle.fy_show.specs.Reading.{known_read, scope_read}
use Rattle.fy_show.proofs.uses.+uses.Given as goal

-- what is left decides
abbrev pub invariant-is_any_used-loop-part : goal.invariant-is_any_used-loop-part
invariant-is_any_used-loop-part l =
    any_uses (known_read l.known) l.text (scope_read l.scope) (trees_from (map reads (drop l.part-index l.part-items)))
    ≡ any_uses (known_read l.known) l.text (scope_read l.scope) (reads_parts l.parts)

-- a body stands above the phrase that it is
abbrev pub decreases-is_used : goal.decreases-is_used
decreases-is_used l = 2 * size-Phrase l.p.now

abbrev pub decreases-is_used_inside : goal.decreases-is_used_inside
decreases-is_used_inside l = 2 * size-Phrase l.body.now + 1

abbrev pub decreases-is_any_used : goal.decreases-is_any_used
decreases-is_any_used l = 2 * size-Parts l.parts.now
