use Rattle.fy_tree.proofs.TreeLemmas.{two-put}
use Rattle.fy_tree.proofs.whole.put_behind.Goals as goal

pub returns : goal.returns
returns c = two-put c.put_root.result c.args.text.now.items c.put_if_plain.new.text.items c.put_root.new.text.items _ _ c.in_ok-put_if_plain.ensures c.put_root.ensures
