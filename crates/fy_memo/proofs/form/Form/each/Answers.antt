use Rattle.fy_memo.proofs.EachLemmas.{each-none, each-some}
use Rattle.fy_memo.proofs.form.Form.each.Goals as goal

pub returns-in-None : goal.returns-in-None
returns-in-None c = each-none c.args.self.now.paths c.args.self.now.others c.in-None.is c.args.self.now.each_once

pub returns-in-Some : goal.returns-in-Some
returns-in-Some c = each-some c.args.self.now.paths c.args.self.now.others c.in-Some.each c.in-Some.is c.args.self.now.each_once
