use Rattle.std.proofs.lemmas.Result.{IfOk-weaker}
use Rattle.fy_types.specs.Reading.{plain_paths, plain_type}
use Rattle.fy_derive.specs.Reading.{plain_derivation}
use Rattle.fy_least.proofs.AnswerLemmas.{call-made}
use Rattle.fy_least.proofs.forms.call.Goals as goal

pub returns : goal.returns
returns c =
    IfOk-weaker c.rule_of_two.result _ _
    (λ d e. call-made (plain_paths c.args.domain.now) (plain_paths c.args.paths.now) (plain_type c.in_ok-given.given) (plain_type c.in_ok-arrow.arrow)
    (plain_derivation c.args.procedure) (plain_derivation c.args.argument)
    (plain_derivation c.in_ok-first.first) (plain_derivation c.in_ok-second.second) (plain_derivation d)
    c.in_ok-given.ensures c.in_ok-arrow.ensures c.in_ok-first.ensures c.in_ok-second.ensures e)
    c.rule_of_two.ensures
