use Rattle.std.proofs.Common.{◌≡◌, ◌+◌, drop, length}
use Rattle.pe_code.specs.Valid.{all_picked_from}
use Rattle.pe_code.proofs.valid.are_few_parts.Given as goal

-- what is left to pick from, and what is left of the room
abbrev pub invariant-loop-item : goal.invariant-loop-item
invariant-loop-item l = all_picked_from l.items + l.room ≡ all_picked_from (drop l.item-index l.items) + length l.items
