use Rattle.std.proofs.Common.{◌≡◌, ◌+◌, ◌≤◌, drop}
use Rattle.pe_code.specs.Valid.{all_places_in}
use Rattle.pe_code.proofs.valid.count_places.Given as goal

-- what was counted, and what is left to count
abbrev pub invariant-loop-item : goal.invariant-loop-item
invariant-loop-item l = record { sum : all_places_in l.items ≡ l.count + all_places_in (drop l.item-index l.items); few : l.count ≤ l.item-index }
