use Rattle.std.proofs.Common.{◌++◌}
use Rattle.std.specs.Prelude.{replicate}
use Rattle.fy_why.proofs.SpanLemmas.{put-more}
use Rattle.fy_why.proofs.carets.put_times.Goals as goal

pub loop-preserved : goal.loop-preserved
loop-preserved c =
    put-more c.loop.text.items c.push.new.self.items c.args.byte c.args.times c.loop.counter (c.args.text.now.items ++ replicate c.args.times c.args.byte)
    c.loop-test.true c.in_ok-push.ensures.items c.loop.invariant
