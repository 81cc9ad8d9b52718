use Rattle.std.proofs.Common.{arith}
use Rattle.fy_order.proofs.IndexLemmas.{flagged-more}
use Rattle.fy_order.proofs.covered.Covered.add_one.Goals as goal

pub returns-then-place-len-clause-flagged : goal.returns-then-place-len-clause-flagged
returns-then-place-len-clause-flagged c =
    let all = c.args.self.now in
    flagged-more all.flags.items all.places.items c.push.new.self.items c.args.place (omega (arith, c.if-place-len.true, c.len.ensures, all.flags.ok.0))
    c.in_ok-push.ensures.items c.requires
