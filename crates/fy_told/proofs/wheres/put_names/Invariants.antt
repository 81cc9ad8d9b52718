use Rattle.std.proofs.Common.{◌≡◌, ◌+◌, ◌-◌, ◌≤◌, ◌++◌, [], length, map, min, take}
use Rattle.fy_phrase.specs.Reads.{reads}
use Rattle.fy_derive.specs.Shown.{all_shown}
use Rattle.fy_show.specs.Reading.{entry_or, known_in, scope_in}
use Rattle.fy_told.specs.ReasonTexts.{listed, variable_texts}
use Rattle.fy_told.proofs.StepLemmas.{names_left}
use Rattle.fy_told.proofs.wheres.put_names.Given as goal

-- what is left of six, behind those so far
abbrev pub invariant-loop-i : goal.invariant-loop-i
invariant-loop-i l = record {
  few : l.count ≤ 6;
  names :
      l.text.items ++ listed l.lead (take (6 - l.count) (names_left (known_in l.view) (scope_in l.view) (reads l.p) l.table l.entries l.types l.i))
      ≡ l.initial.text.items ++ listed [] (take 6 (variable_texts (known_in l.view) (scope_in l.view) (reads l.p) [] (map entry_or l.entries) (all_shown l.table l.types)));
  counted :
      l.count + min (6 - l.count) (length (names_left (known_in l.view) (scope_in l.view) (reads l.p) l.table l.entries l.types l.i))
      ≡ min 6 (length (variable_texts (known_in l.view) (scope_in l.view) (reads l.p) [] (map entry_or l.entries) (all_shown l.table l.types)));
}
