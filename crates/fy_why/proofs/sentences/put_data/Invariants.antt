use Rattle.std.proofs.Common.{◌≡◌, ◌++◌, map, drop}
use Rattle.fy_short.specs.DataTexts.{data_word}
use Rattle.fy_why.specs.Sentences.{or_text}
use Rattle.fy_why.proofs.sentences.put_data.Given as goal

-- what is left, behind those so far
abbrev pub invariant-loop-i : goal.invariant-loop-i
invariant-loop-i l = l.text.items ++ or_text (map data_word (drop l.i l.types)) ≡ l.initial.text.items ++ or_text (map data_word l.types)
