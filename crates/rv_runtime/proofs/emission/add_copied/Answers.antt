use Rattle.rv_runtime.proofs.Emitted.{copied_less}
use Rattle.rv_runtime.proofs.emission.add_copied.Goals as goal

pub loop-k-preserved : goal.loop-k-preserved
loop-k-preserved c = copied_less c.args.count c.loop-k.k c.loop-k.items.items _ _ c.args.items.now.items c.loop-k-test.true c.loop-k.invariant c.in_ok-lower.ensures.ok c.in_ok-lower-2.ensures.ok
