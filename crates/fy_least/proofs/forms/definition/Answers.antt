use Rattle.fy_types.specs.Reading.{plain_paths}
use Rattle.fy_derive.specs.Reading.{plain_derivation}
use Rattle.fy_least.specs.Forms.{IsDefined}
use Rattle.fy_least.specs.Visited.{derivation_of}
use Rattle.fy_least.proofs.AnswerLemmas.{definition-made, derived-same}
use Rattle.fy_least.proofs.forms.definition.Goals as goal

pub returns-clause-derived : goal.returns-clause-derived
returns-clause-derived c =
    let f = c.args.defined in
    let g = c.args.body in
    let made = plain_derivation c.in_ok-derivation.derivation in
    derived-same c.new.result (IsDefined f g) made
    (definition-made (plain_paths f.paths) (derivation_of f) (derivation_of g) (plain_derivation c.in_ok-premise.premise) made
    c.in_ok-premise.ensures c.in_ok-derivation.ensures)
    c.new.ensures.derived
