use Rattle.fy_link.proofs.PutLemmas.{push-token}
use Rattle.fy_link.proofs.written.put_all.Goals as goal

pub loop-token-preserved : goal.loop-token-preserved
loop-token-preserved c =
    push-token c.loop-token.made.items c.args.made.now.items c.args.tokens.now c.put.new.made.items c.loop-token.token-index c.token-item.result c.in_ok-kind.kind
    c.loop-token.invariant c.loop-token-test.true c.token-item.is c.in_ok-kind.ensures c.in_ok-put.ensures
