use Rattle.fy_sample.proofs.SampleLemmas.{text_more, number_more}
use Rattle.fy_sample.specs.Sample.{opening}
use Rattle.fy_sample.proofs.sample.sample_text.Goals as goal

pub loop-preserved : goal.loop-preserved
loop-preserved c =
    let last = number_more c.args.number c.loop.counter c.loop.x c.next-x.result c.loop.invariant.last c.next-x.ensures in
    record {
      last = last;
      so_far = text_more c.args.number c.loop.counter c.next-x.result opening c.loop.text.items _ _ c.loop.invariant.so_far last c.in_ok-push_statement.ensures c.in_ok-extend_from_slice.ensures.items;
    }
