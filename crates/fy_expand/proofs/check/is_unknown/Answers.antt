use Rattle.std.proofs.Common.{◌≡◌, is_none, ◌∙◌, rules}
use Rattle.fy_expand.specs.Frames.{scope_of}
use Rattle.fy_expand.proofs.FaultLemmas.{is_none-kind}
use Rattle.fy_expand.proofs.check.is_unknown.Goals as goal

pub returns : goal.returns
returns c =
    let found : c.is_none.result ≡ is_none c.find.result = search rules in
    found ∙ is_none-kind c.find.result ((scope_of c.args.frame.now).phrases c.args.name) c.find.ensures.kind
