use Rattle.fy_link.proofs.PutLemmas.{push-abstraction}
use Rattle.fy_link.proofs.written.put_abstractions.Goals as goal

pub loop-piece-preserved : goal.loop-piece-preserved
loop-piece-preserved c =
    push-abstraction c.args.at c.loop-piece.made.items c.args.made.now.items c.put_abstraction.new.made.items c.args.pieces.now c.loop-piece.piece-index c.piece-item.result
    c.loop-piece.invariant c.loop-piece-test.true c.piece-item.is c.in_ok-put_abstraction.ensures
