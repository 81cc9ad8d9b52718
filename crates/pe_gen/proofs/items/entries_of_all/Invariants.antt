use Rattle.std.proofs.Common.{ℕ, ◌≡◌, ◌++◌, List, Some, map, drop}
use Rattle.fy_derive.specs.Shapes.{PlainShape}
use Rattle.fy_derive.specs.ShapeTables.{shape_at}
use Rattle.fy_phrase.specs.Reads.{reads, reads_parts, trees_from}
use Rattle.pe_gen.specs.Plan.{AreDue, EachEntersIn}
use Rattle.pe_gen.proofs.items.entries_of_all.Given as goal

abbrev pub invariant-loop : goal.invariant-loop
invariant-loop l = record {
  left : (s : PlainShape) × (shape_at l.plan.table.now l.shape ≡ Some s) × AreDue l.plan l.number (trees_from (map reads (drop l.index l.items))) s;
  done : (s : PlainShape) → shape_at l.plan.table.now l.shape ≡ Some s → (ys : List ℕ) →
      EachEntersIn l.plan l.number (trees_from (map reads (drop l.index l.items))) s ys → EachEntersIn l.plan l.first (reads_parts l.parts) s (l.addresses ++ ys);
}
