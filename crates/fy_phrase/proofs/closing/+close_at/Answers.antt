use Rattle.std.proofs.Common.{ap, ◌∙◌}
use Rattle.fy_phrase.specs.Reads.{reads}
use Rattle.fy_phrase.specs.Closing.{closed_at}
use Rattle.fy_phrase.proofs.ListLemmas.{all_closed_at-more}
use Rattle.fy_phrase.proofs.closing.+close_at.Goals as goal

pub close_parts-loop-part-preserved : goal.close_parts-loop-part-preserved
close_parts-loop-part-preserved t c =
    λ n e. all_closed_at-more n _ _ _ _ _ _ _ c.loop-part-test.true c.in_ok-push.ensures.ok (c.loop-part.invariant n e) (c.in_ok-close_at.ensures n e ∙ ap (λ q. closed_at n (reads c.args.actual.now) (reads q)) c.part-item.is)
