use Rattle.std.proofs.Common.{reverse, ap, ◌∙◌, subst}
use Rattle.std.specs.Prelude.{IfOk}
use Rattle.fy_phrase.specs.Reads.{reads}
use Rattle.fy_derive.specs.Least.{forms_of, visits}
use Rattle.fy_least.specs.Counts.{PassLimits}
use Rattle.fy_least.specs.Visited.{IsFound}
use Rattle.fy_least.proofs.ArmLemmas.{scope-around}
use Rattle.fy_least.proofs.finder.found_around.Goals as goal

pub returns-clause-ok : goal.returns-clause-ok
returns-clause-ok c =
    subst (λ G. IfOk c.found_in.result (IsFound G (reads c.args.p.now))) (scope-around _ _ ∙ ap (λ As. forms_of (reverse As)) c.in_ok-context.ensures) c.found_in.ensures.ok

pub returns-clause-large : goal.returns-clause-large
returns-clause-large c =
    λ e m. subst (λ G. PassLimits (visits m G (reads c.args.p.now))) (scope-around _ _ ∙ ap (λ As. forms_of (reverse As)) c.in_ok-context.ensures) (c.found_in.ensures.large e m)
