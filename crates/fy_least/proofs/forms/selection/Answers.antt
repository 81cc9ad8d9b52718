use Rattle.std.proofs.Common.{subst}
use Rattle.fy_derive.specs.Reading.{plain_derivation}
use Rattle.fy_least.specs.Derived.{IsSelection}
use Rattle.fy_least.specs.Forms.{IsPicked}
use Rattle.fy_least.specs.Visited.{derivation_of}
use Rattle.fy_least.proofs.AnswerLemmas.{derived-same}
use Rattle.fy_least.proofs.forms.selection.Goals as goal

pub returns-clause-derived : goal.returns-clause-derived
returns-clause-derived c =
    let f = c.args.part in
    let made = plain_derivation c.in_ok-derivation.derivation in
    derived-same c.new.result (IsPicked c.args.name f) made
    (subst (λ R. IsSelection c.args.name R (derivation_of f) made) c.in_ok-paths.ensures c.in_ok-derivation.ensures)
    c.new.ensures.derived
