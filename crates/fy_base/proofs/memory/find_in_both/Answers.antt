use Rattle.std.proofs.Common.{◌∙◌}
use Rattle.fy_base.proofs.Folders.{both_some, both_none}
use Rattle.fy_base.proofs.memory.find_in_both.Goals as goal

pub returns-in-Some : goal.returns-in-Some
returns-in-Some c = both_some c.args.newer.now c.args.older.now c.args.name.now c.in-Some.content.now c.in-Some.ensures

pub returns-in-None : goal.returns-in-None
returns-in-None c = both_none c.args.newer.now c.args.older.now c.args.name.now c.in-None.ensures ∙ c.find-in-None.ensures
