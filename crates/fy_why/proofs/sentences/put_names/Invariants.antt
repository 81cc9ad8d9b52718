use Rattle.std.proofs.Common.{◌≡◌, ◌++◌, [], map, drop}
use Rattle.fy_types.specs.Print.{name_text}
use Rattle.fy_show.specs.Reading.{known_in}
use Rattle.fy_why.specs.Sentences.{listed}
use Rattle.fy_why.proofs.sentences.put_names.Given as goal

-- what is left, behind those so far
abbrev pub invariant-loop-name : goal.invariant-loop-name
invariant-loop-name l =
    l.text.items ++ listed l.lead (map (name_text (known_in l.view).names) (drop l.name-index l.fields))
    ≡ l.initial.text.items ++ listed [] (map (name_text (known_in l.view).names) l.fields)
