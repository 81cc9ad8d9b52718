use Rattle.fy_order.proofs.IndexLemmas.{owned-too}
use Rattle.fy_order.proofs.index.own.Goals as goal

pub returns : goal.returns
returns c =
    owned-too c.args.owners.now.items c.args.inner c.index_mut.result.now c.push.new.self c.args.place c.requires c.index_mut.ensures.value c.in_ok-push.ensures.items
