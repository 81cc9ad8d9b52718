use Rattle.std.proofs.Common.{◌≡◌, ◌+◌, ◌-◌, ◌<◌, ◌^◌, ◌++◌, drop, map, take}
use Rattle.fy_derive.specs.Derivations.{all_nodes}
use Rattle.fy_derive.specs.Reading.{derivations_from, plain_derivation}
use Rattle.fy_derive.specs.Shown.{all_shown}
use Rattle.fy_show.specs.Reading.{known_in}
use Rattle.fy_told.specs.ReasonTexts.{premise_lines, premise_numbers}
use Rattle.fy_told.proofs.types_told.put_premises.Given as goal

-- what is left of six, behind those so far
abbrev pub invariant-loop-i : goal.invariant-loop-i
invariant-loop-i l = record {
  room : l.number + all_nodes (derivations_from (map plain_derivation (drop l.i l.items))) < 2 ^ 32;
  lines :
      l.text.items ++ premise_lines (known_in l.view) (l.i + 1) (take (6 - l.i) (premise_numbers l.number (derivations_from (map plain_derivation (drop l.i l.items)))))
      (all_shown l.table (drop l.i l.done))
      ≡ l.initial.text.items ++ premise_lines (known_in l.view) 1 (take 6 (premise_numbers l.first (derivations_from (map plain_derivation l.items)))) (all_shown l.table l.done);
}
