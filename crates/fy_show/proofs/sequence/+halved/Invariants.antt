use Rattle.std.proofs.Common.{◌+◌, ◌*◌, max}
use Rattle.fy_phrase.specs.declared.phrase.Phrase.{size-Phrase}
use Rattle.fy_show.proofs.sequence.+halved.Given as goal

abbrev pub decreases-is_halved : goal.decreases-is_halved
decreases-is_halved l = 2 * size-Phrase l.p.now

-- a pair stands below the sequence of it
abbrev pub decreases-is_halved_pair : goal.decreases-is_halved_pair
decreases-is_halved_pair l = 2 * max (size-Phrase l.p.now) (size-Phrase l.q.now) + 1
