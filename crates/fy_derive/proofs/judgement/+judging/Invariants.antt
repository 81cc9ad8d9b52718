use Rattle.std.proofs.Common.{◌≡◌, ◌+◌, [], length, map, drop}
use Rattle.fy_derive.specs.Derivations.{all_nodes}
use Rattle.fy_derive.specs.Reading.{plain_derivation, plain_derivations, derivations_from}
use Rattle.fy_derive.specs.Judging.{each_judged}
use Rattle.fy_derive.specs.Shown.{all_shown, AreIn, Extends}
use Rattle.fy_phrase.specs.Premises.{premise_shown}
use Rattle.fy_derive.specs.Contexts.{numbers}
use Rattle.fy_derive.proofs.judgement.+judging.Given as goal

abbrev pub invariant-judge_each-loop-i : goal.invariant-judge_each-loop-i
invariant-judge_each-loop-i l = record {
  within : AreIn l.table l.done.items;
  so_far : length l.done.items ≡ l.i;
  next : l.next + all_nodes (derivations_from (map plain_derivation (drop l.i l.items))) ≡ l.fn.next + all_nodes (plain_derivations l.list);
  extends : Extends l.fn.table l.table;
  judged : each_judged (derivations_from (map plain_derivation (drop l.i l.items))) l.next (all_shown l.fn.table (numbers l.context))
      (map premise_shown (drop l.i l.premises)) (all_shown l.table l.done.items)
      ≡ each_judged (plain_derivations l.list) l.fn.next (all_shown l.fn.table (numbers l.context)) (map premise_shown l.premises) [];
}

abbrev pub decreases-judge : goal.decreases-judge
decreases-judge l = goal.size-judge l

abbrev pub decreases-judge_each : goal.decreases-judge_each
decreases-judge_each l = goal.size-judge_each l
