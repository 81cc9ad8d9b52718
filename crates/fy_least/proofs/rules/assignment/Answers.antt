use Rattle.std.proofs.Common.{◌+◌, subst, inl, inr, arith}
use Rattle.std.proofs.lemmas.Result.{IfOk-weaker}
use Rattle.fy_types.specs.declared.types.Atom.TheVariants.{Comm}
use Rattle.fy_derive.specs.Least.{one_end}
use Rattle.fy_derive.specs.Reading.{plain_derivation}
use Rattle.fy_least.specs.Rules.{serves_assignment}
use Rattle.fy_least.specs.Visited.{IsMade, IsRefused, blame_at}
use Rattle.fy_least.proofs.OperandLemmas.{assigned-paths, assigned, unserved}
use Rattle.fy_least.proofs.rules.assignment.Goals as goal

pub returns-in-Some-clause-made : goal.returns-in-Some-clause-made
returns-in-Some-clause-made c =
    let f = c.args.parts.0 in
    let g = c.args.parts.1 in
    IfOk-weaker c.with_two.result _ _
    (λ x m. subst (λ P. IsMade P (blame_at f (blame_at g c.args.at)) (f.total + g.total) x)
    (assigned-paths f g c.in-Some.ty c.acceptor_atom.result c.data_atom.result c.acceptor_atom.ensures c.data_atom.ensures c.in-Some.ensures) m)
    c.with_two.ensures.made

pub returns-in-Some-clause-derived : goal.returns-in-Some-clause-derived
returns-in-Some-clause-derived c =
    let f = c.args.parts.0 in
    let g = c.args.parts.1 in
    IfOk-weaker c.with_two.result _ _
    (λ x e. assigned f g c.in-Some.ty c.acceptor_atom.result c.data_atom.result (plain_derivation x.derivation)
    c.acceptor_atom.ensures c.data_atom.ensures c.in-Some.ensures e)
    c.with_two.ensures.derived

pub returns-in-Some-clause-large : goal.returns-in-Some-clause-large
returns-in-Some-clause-large c =
    let f = c.args.parts.0 in
    let g = c.args.parts.1 in
    λ e. subst (λ P. IsRefused P (f.total + g.total))
    (assigned-paths f g c.in-Some.ty c.acceptor_atom.result c.data_atom.result c.acceptor_atom.ensures c.data_atom.ensures c.in-Some.ensures)
    (c.with_two.ensures.large e)

pub returns-in-None-clause-made : goal.returns-in-None-clause-made
returns-in-None-clause-made c =
    let f = c.args.parts.0 in
    let g = c.args.parts.1 in
    IfOk-weaker c.nothing.result _ _
    (λ x m. subst (λ P. IsMade P (blame_at f (blame_at g c.args.at)) (f.total + g.total) x)
    (unserved (serves_assignment f g) (one_end Comm) c.in-None.ensures) m)
    c.nothing.ensures.made

pub returns-in-None-clause-derived : goal.returns-in-None-clause-derived
returns-in-None-clause-derived c = IfOk-weaker c.nothing.result _ _ (λ x e. inl (c.in-None.ensures, e)) c.nothing.ensures.derived

pub returns-in-None-clause-large : goal.returns-in-None-clause-large
returns-in-None-clause-large c = λ e. let many = c.nothing.ensures.large e in inr (omega arith)
