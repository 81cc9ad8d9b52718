use Rattle.std.proofs.Common.{◌≡◌, ◌+◌, [], map, drop}
use Rattle.fy_derive.specs.Derivations.{all_nodes}
use Rattle.fy_derive.specs.Reading.{plain_derivation, plain_derivations, derivations_from}
use Rattle.fy_derive.specs.Judging.{each_judged, one_stops}
use Rattle.fy_derive.specs.Shown.{all_shown, AreIn, Extends}
use Rattle.fy_phrase.specs.Premises.{premise_shown}
use Rattle.fy_derive.specs.Contexts.{numbers}
use Rattle.fy_reasons.specs.Reasons.{each_so}
use Rattle.fy_reasons.proofs.reasons.+stops.Given as goal

-- judging stops among those that are left, for the reason that is due
abbrev pub invariant-stop_among-loop-i : goal.invariant-stop_among-loop-i
invariant-stop_among-loop-i l = record {
  within : AreIn l.table l.done.items;
  next : l.next + all_nodes (derivations_from (map plain_derivation (drop l.i l.items))) ≡ l.at + all_nodes (plain_derivations l.list);
  extends : Extends l.fn.table l.table;
  judged : each_judged (derivations_from (map plain_derivation (drop l.i l.items))) l.next (all_shown l.fn.table (numbers l.context))
      (map premise_shown (drop l.i l.premises)) (all_shown l.table l.done.items) ≡ one_stops l.wrong;
  reasoned : each_so (derivations_from (map plain_derivation (drop l.i l.items))) l.next (all_shown l.fn.table (numbers l.context))
      (map premise_shown (drop l.i l.premises)) (all_shown l.table l.done.items)
      ≡ each_so (plain_derivations l.list) l.at (all_shown l.fn.table (numbers l.context)) (map premise_shown l.premises) [];
}

abbrev pub decreases-stop_in : goal.decreases-stop_in
decreases-stop_in l = goal.size-stop_in l

abbrev pub decreases-stop_among : goal.decreases-stop_among
decreases-stop_among l = goal.size-stop_among l
