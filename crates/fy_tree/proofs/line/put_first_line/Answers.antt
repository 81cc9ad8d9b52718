use Rattle.fy_tree.proofs.TreeLemmas.{four-put}
use Rattle.fy_tree.proofs.line.put_first_line.Goals as goal

pub returns : goal.returns
returns c =
    four-put c.put-3.result c.args.text.now.items c.put.new.text.items c.put-2.new.text.items c.put_rule.new.text.items c.put-3.new.text.items _ _ _ _ c.in_ok-put.ensures c.in_ok-put-2.ensures c.in_ok-put_rule.ensures c.put-3.ensures
