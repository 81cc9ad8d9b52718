use Rattle.std.proofs.Common.{◌≡◌, ◌+◌, ◌*◌, ◌++◌, [], length, map, drop}
use Rattle.fy_phrase.specs.Premises.{premise_shown}
use Rattle.fy_phrase.specs.Reads.{reads}
use Rattle.fy_derive.specs.declared.derivation.Derivation.{size-Derivation}
use Rattle.fy_derive.specs.declared.derivation.DerivationList.{size-DerivationList}
use Rattle.fy_derive.specs.Contexts.{numbers}
use Rattle.fy_derive.specs.Derivations.{all_nodes}
use Rattle.fy_derive.specs.Reading.{plain_derivation, plain_derivations, derivations_from}
use Rattle.fy_derive.specs.Shown.{all_shown, AreIn, Extends}
use Rattle.fy_show.specs.Reading.{known_in, scope_in}
use Rattle.fy_tree.specs.Annotated.{each_shown}
use Rattle.fy_tree.specs.Lines.{each_lines}
use Rattle.fy_tree.specs.Reading.{look_in}
use Rattle.fy_tree.proofs.walk.+walk.Given as goal

-- the lines of the premises that are left stand behind those so far
abbrev pub invariant-put_each-loop-i : goal.invariant-put_each-loop-i
invariant-put_each-loop-i l = record {
  within : AreIn l.table l.done.items;
  next : l.next + all_nodes (derivations_from (map plain_derivation (drop l.i l.items))) ≡ l.fn.at + all_nodes (plain_derivations l.list);
  extends : Extends l.fn.table l.table;
  text :
      l.text.items
      ++ each_lines (look_in l.style l.view) l.stand.seek l.stand.lead.now l.stand.more l.before
      (each_shown (known_in l.view) (derivations_from (map plain_derivation (drop l.i l.items))) l.next (all_shown l.fn.table (numbers l.context)) (scope_in l.view) (reads l.p)
      (map premise_shown (drop l.i l.premises)) (all_shown l.table l.done.items))
      ≡ l.fn.text.items
      ++ each_lines (look_in l.style l.view) l.stand.seek l.stand.lead.now l.stand.more []
      (each_shown (known_in l.view) (plain_derivations l.list) l.fn.at (all_shown l.fn.table (numbers l.context)) (scope_in l.view) (reads l.p) (map premise_shown l.premises) []);
}

-- a node stands above its premises, and the steps that show one above the lines that it has
abbrev pub decreases-put_node : goal.decreases-put_node
decreases-put_node l = 16 * size-Derivation l.node.now.derivation.now + 4

abbrev pub decreases-put_raised : goal.decreases-put_raised
decreases-put_raised l = 16 * size-Derivation l.inner.now + 8

abbrev pub decreases-put_seen : goal.decreases-put_seen
decreases-put_seen l = 16 * size-Derivation l.part.now.derivation.now + 7

abbrev pub decreases-put_other : goal.decreases-put_other
decreases-put_other l = 16 * size-Derivation l.part.now.derivation.now + 6

abbrev pub decreases-put_enclosed : goal.decreases-put_enclosed
decreases-put_enclosed l = 16 * size-Derivation l.part.now.derivation.now + 5

abbrev pub decreases-put_own : goal.decreases-put_own
decreases-put_own l = 16 * size-Derivation l.node.now.derivation.now + 3

abbrev pub decreases-put_shown : goal.decreases-put_shown
decreases-put_shown l = 16 * size-Derivation l.node.now.derivation.now + 2

abbrev pub decreases-put_inside : goal.decreases-put_inside
decreases-put_inside l = 16 * size-Derivation l.node.now.derivation.now + 1

abbrev pub decreases-put_below : goal.decreases-put_below
decreases-put_below l = 16 * size-Derivation l.node.now.derivation.now

abbrev pub decreases-put_only : goal.decreases-put_only
decreases-put_only l = 16 * size-Derivation l.d.now + 8

abbrev pub decreases-put_each : goal.decreases-put_each
decreases-put_each l = 16 * size-DerivationList l.list.now + 4

abbrev pub decreases-put_premise : goal.decreases-put_premise
decreases-put_premise l = 16 * size-Derivation l.d.now + 7

abbrev pub decreases-put_beneath : goal.decreases-put_beneath
decreases-put_beneath l = 16 * size-Derivation l.d.now + 6

abbrev pub decreases-put_bound : goal.decreases-put_bound
decreases-put_bound l = 16 * size-Derivation l.d.now + 5
