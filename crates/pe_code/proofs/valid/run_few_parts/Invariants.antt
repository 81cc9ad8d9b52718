use Rattle.std.proofs.Common.{◌≡◌, ◌+◌, drop}
use Rattle.pe_code.specs.Valid.{all_parts_run, all_places_in}
use Rattle.pe_code.proofs.valid.run_few_parts.Given as goal

-- what is left to run, and what is left of the room
abbrev pub invariant-loop-item : goal.invariant-loop-item
invariant-loop-item l = all_parts_run l.items + l.room ≡ all_parts_run (drop l.item-index l.items) + all_places_in l.items
