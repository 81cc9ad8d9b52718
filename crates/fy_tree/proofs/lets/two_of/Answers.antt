use Rattle.fy_tree.proofs.WholeLemmas.{two-members, other-members}
use Rattle.fy_tree.proofs.lets.two_of.Goals as goal

pub returns-then-items-ne2 : goal.returns-then-items-ne2
returns-then-items-ne2 c = other-members c.args.list.now c.as_slice-items.result.now c.as_slice-items.ensures.members (λ e. c.if-items-ne2.true e)

pub returns : goal.returns
returns c =
    two-members c.args.list.now c.as_slice-items.result.now c.index-items-0.result c.index-items-1.result c.as_slice-items.ensures.members c.if-items-ne2.false c.index-items-0.is c.index-items-1.is
