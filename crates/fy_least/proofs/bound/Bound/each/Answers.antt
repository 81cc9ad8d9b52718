use Rattle.std.proofs.Common.{sym, ◌∙◌}
use Rattle.std.proofs.lemmas.Result.{IfOk-weaker}
use Rattle.fy_types.specs.Once.{once}
use Rattle.fy_types.specs.Reading.{plain_paths}
use Rattle.fy_memo.proofs.EachLemmas.{same-lists}
use Rattle.fy_least.proofs.bound.Bound.each.Goals as goal

pub returns : goal.returns
returns c =
    let P = plain_paths c.args.self.now.paths.now in
    IfOk-weaker c.copy_paths.result _ _ (λ made h. h ∙ sym (same-lists (once P) (plain_paths c.args.self.now.each.now) c.args.self.now.each_once))
    c.copy_paths.ensures
