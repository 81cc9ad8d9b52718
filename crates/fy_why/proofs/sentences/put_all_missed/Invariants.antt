use Rattle.std.proofs.Common.{◌≡◌, ◌++◌, map, drop}
use Rattle.fy_causes.specs.Readings.{explained_read, missed_read}
use Rattle.fy_show.specs.Reading.{known_in}
use Rattle.fy_why.specs.Sentences.{missed_text}
use Rattle.fy_why.specs.Texts.{lines}
use Rattle.fy_why.proofs.sentences.put_all_missed.Given as goal

-- what is left, behind those so far
abbrev pub invariant-loop-missed : goal.invariant-loop-missed
invariant-loop-missed l =
    l.text.items ++ lines l.lead (map (missed_text (known_in l.view) (explained_read l.e)) (map missed_read (drop l.missed-index l.all)))
    ≡ l.initial.text.items ++ lines l.lead (map (missed_text (known_in l.view) (explained_read l.e)) (map missed_read l.all))
