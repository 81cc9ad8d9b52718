use Rattle.fy_link.proofs.JoinLemmas.{joined-put}
use Rattle.fy_link.proofs.joined.joined_text.Goals as goal

pub returns : goal.returns
returns c =
    joined-put c.args.parts.now c.loop-part.part-index _ c.loop-part.text.items c.put.new.text.items c.put-2.new.text.items c.put-3.new.text.items
    c.in-len1-up.len_at_least c.loop-part-test.false c.loop-part.invariant c.in_ok-put.ensures c.in_ok-put-2.ensures c.in_ok-put-3.ensures
