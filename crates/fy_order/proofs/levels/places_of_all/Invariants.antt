use Rattle.std.proofs.Common.{map, take}
use Rattle.fy_order.specs.Levels.{AreInner, IsGrown, met_in, next, plain_tagged}
use Rattle.fy_order.proofs.levels.places_of_all.Given as goal

abbrev pub invariant-loop-tagged : goal.invariant-loop-tagged
invariant-loop-tagged l = record {
  at : AreInner (met_in l.met) l.all.items (map plain_tagged (take l.tagged-index l.nodes));
  grown : IsGrown (met_in l.initial.met) (met_in l.met) (next (map plain_tagged (take l.tagged-index l.nodes)));
}
