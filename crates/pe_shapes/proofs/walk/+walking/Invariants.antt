use Rattle.std.proofs.Common.{◌≡◌, ℕ, [], List, length, map, drop, replicate}
use Rattle.fy_types.specs.Types.{PlainType}
use Rattle.fy_phrase.specs.Reads.{reads}
use Rattle.fy_derive.specs.Derivations.{count}
use Rattle.fy_derive.specs.Judging.{each_judged, all_conclude}
use Rattle.fy_derive.specs.Reading.{plain_derivation, plain_derivations, derivations_from}
use Rattle.fy_derive.specs.Rules.{nothing}
use Rattle.fy_derive.specs.Shapes.{OneHasPair, PremiseHasPair}
use Rattle.fy_phrase.specs.Premises.{premise_shown}
use Rattle.pe_shapes.specs.Contexts.{bounds, numbers_of}
use Rattle.pe_shapes.specs.Finding.{IsFound}
use Rattle.pe_shapes.specs.Parts.{AreSizes, parts_in}
use Rattle.pe_shapes.specs.Shown.{Extends, AreIn, AreAllIn}
use Rattle.pe_shapes.specs.Standing.{AreFit}
use Rattle.pe_shapes.proofs.WalkLemmas.{AreWalkedSo, ArePremisesWalkedSo}
use Rattle.pe_shapes.proofs.walk.+walking.Given as goal

abbrev pub invariant-walk_all-loop-i : goal.invariant-walk_all-loop-i
invariant-walk_all-loop-i l = record {
  sound : IsFound l.found;
  extends : Extends l.fn.found.numbers l.found.numbers;
  within : AreIn l.found.numbers l.met.keys;
  walked : (G As : List PlainType) (n : ℕ) → AreFit l.fn.found.numbers (bounds l.context) G →
      each_judged (plain_derivations l.list) n G (replicate (count (plain_derivations l.list)) (nothing, reads l.p)) [] ≡ all_conclude As →
      AreWalkedSo l.fn.found l.found (derivations_from (map plain_derivation (drop l.i l.items))) l.node G (reads l.p) As
      (OneHasPair (plain_derivations l.list) l.node G (reads l.p)) l.met.keys;
}

abbrev pub invariant-walk_each-loop-i : goal.invariant-walk_each-loop-i
invariant-walk_each-loop-i l = record {
  sound : IsFound l.found;
  extends : Extends l.fn.found.numbers l.found.numbers;
  within : AreAllIn l.found.numbers (map numbers_of l.done.items);
  so_far : length l.done.items ≡ l.i;
  sizes : AreSizes l.sizes l.node (parts_in (drop l.i l.premises));
  walked : (G As : List PlainType) (n : ℕ) → AreFit l.fn.found.numbers (bounds l.context) G →
      each_judged (plain_derivations l.list) n G (map premise_shown l.premises) [] ≡ all_conclude As →
      ArePremisesWalkedSo l.fn.found l.found (derivations_from (map plain_derivation (drop l.i l.items))) l.node G (map premise_shown (drop l.i l.premises)) As
      (PremiseHasPair (plain_derivations l.list) l.first G (map premise_shown l.premises) []) (map numbers_of l.done.items);
}

abbrev pub decreases-walk : goal.decreases-walk
decreases-walk l = goal.size-walk l

abbrev pub decreases-walk_all : goal.decreases-walk_all
decreases-walk_all l = goal.size-walk_all l

abbrev pub decreases-walk_each : goal.decreases-walk_each
decreases-walk_each l = goal.size-walk_each l
