use Rattle.std.proofs.Common.{◌≡◌, ◌+◌, ◌-◌, ◌<◌, ◌≤◌, ◌^◌, drop, map}
use Rattle.fy_derive.specs.Derivations.{all_nodes}
use Rattle.fy_derive.specs.Reading.{derivations_from, plain_derivation}
use Rattle.fy_told.specs.ReasonTexts.{number_at, premise_numbers}
use Rattle.fy_told.proofs.types_told.node_number.Given as goal

-- it is one of those that are left
abbrev pub invariant-loop-i : goal.invariant-loop-i
invariant-loop-i l = record {
  behind : l.i ≤ l.index;
  room : l.number + all_nodes (derivations_from (map plain_derivation (drop l.i l.items))) < 2 ^ 32;
  same :
      number_at (premise_numbers l.number (derivations_from (map plain_derivation (drop l.i l.items)))) (l.index - l.i)
      ≡ number_at (premise_numbers l.first (derivations_from (map plain_derivation l.items))) l.index;
}
