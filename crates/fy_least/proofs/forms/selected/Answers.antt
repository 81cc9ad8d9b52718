use Rattle.std.proofs.lemmas.Result.{IfOk-weaker}
use Rattle.fy_types.specs.Reading.{plain_paths, plain_type}
use Rattle.fy_derive.specs.Reading.{plain_derivation}
use Rattle.fy_least.proofs.AnswerLemmas.{selection-made}
use Rattle.fy_least.proofs.forms.selected.Goals as goal

pub returns : goal.returns
returns c =
    IfOk-weaker c.rule_of_one.result _ _
    (λ d e. selection-made c.args.name (plain_paths c.args.paths.now) (plain_type c.in_ok-ty.ty) (plain_derivation c.args.derivation)
    (plain_derivation c.in_ok-premise.premise) (plain_derivation d) c.in_ok-ty.ensures c.in_ok-premise.ensures e)
    c.rule_of_one.ensures
