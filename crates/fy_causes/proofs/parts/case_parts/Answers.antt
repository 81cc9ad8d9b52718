use Rattle.std.proofs.Common.{[], ◌∷◌}
use Rattle.fy_phrase.specs.Reads.{reads}
use Rattle.fy_causes.specs.Occurrences.{least_of, occurs}
use Rattle.fy_causes.specs.Readings.{around_read, part_at, part_type}
use Rattle.fy_causes.proofs.LoopLemmas.{listed-more, pushed-more}
use Rattle.fy_causes.proofs.parts.case_parts.Goals as goal

pub loop-part-preserved : goal.loop-part-preserved
loop-part-preserved c =
    let G = around_read c.args.around.now.value in
    let xs = c.as_slice-part-items.result.now in
    let first = occurs G (reads c.args.index.now) in
    record {
      at = listed-more part_at G xs c.loop-part.part-index c.part-item.result c.loop-part.made.items c.push.new.self.items c.in_ok-part_of.field-0
          c.loop-part-test.true c.part-item.is c.in_ok-push.ensures.items (first ∷ []) c.loop-part.invariant.at c.in_ok-part_of.ensures.at;
      types = pushed-more part_type least_of G xs c.loop-part.part-index c.part-item.result c.loop-part.made.items c.push.new.self.items
          c.in_ok-part_of.field-0 c.loop-part-test.true c.part-item.is c.in_ok-push.ensures.items (least_of first ∷ []) c.loop-part.invariant.types
          c.in_ok-part_of.ensures.least;
    }
