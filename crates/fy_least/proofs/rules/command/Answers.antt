use Rattle.std.proofs.Common.{◌+◌, ◌≡◌, subst, IfOk}
use Rattle.fy_derive.specs.Least.{if_passed, one_end}
use Rattle.fy_derive.specs.Reading.{plain_derivation}
use Rattle.fy_least.specs.Derived.{derived_if, rule_of_both}
use Rattle.fy_least.specs.Rules.{have_atoms}
use Rattle.fy_least.specs.Visited.{IsMade, IsRefused, as_atom, blame_at}
use Rattle.fy_least.proofs.rules.command.Goals as goal

pub returns-clause-made : goal.returns-clause-made
returns-clause-made c =
    let f = c.args.parts.0 in
    let g = c.args.parts.1 in
    subst (λ a. IfOk c.with_two.result (λ x. IsMade (if_passed (have_atoms f g c.args.wants a) (one_end a))
    (blame_at f (blame_at g c.args.at)) (f.total + g.total) x)) c.command_end-gives.ensures c.with_two.ensures.made

pub returns-clause-derived : goal.returns-clause-derived
returns-clause-derived c =
    let f = c.args.parts.0 in
    let g = c.args.parts.1 in
    subst (λ a. IfOk c.with_two.result (λ x. plain_derivation x.derivation
    ≡ derived_if (have_atoms f g c.args.wants a) (rule_of_both (as_atom c.args.wants f) (as_atom a g))))
    c.command_end-gives.ensures c.with_two.ensures.derived

pub returns-clause-large : goal.returns-clause-large
returns-clause-large c =
    let f = c.args.parts.0 in
    let g = c.args.parts.1 in
    λ e. subst (λ a. IsRefused (if_passed (have_atoms f g c.args.wants a) (one_end a)) (f.total + g.total))
    c.command_end-gives.ensures (c.with_two.ensures.large e)
