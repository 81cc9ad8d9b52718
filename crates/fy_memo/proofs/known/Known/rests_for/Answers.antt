use Rattle.std.proofs.Common.{Bor, Global, Vec, Option, IfSome, sym, subst}
use Rattle.fy_types.specs.declared.paths.Path.{Path}
use Rattle.fy_types.specs.Limits.{IsWithinLimits}
use Rattle.fy_types.specs.Reading.{plain_paths}
use Rattle.fy_forms.specs.Keys.{lent}
use Rattle.fy_memo.specs.Bases.{IsMadeOf}
use Rattle.fy_memo.proofs.BaseLemmas.{rests-again}
use Rattle.fy_memo.proofs.known.Known.rests_for.Goals as goal

pub returns-clause-rests : goal.returns-clause-rests
returns-clause-rests c =
    let known = c.args.self.now in
    let A = plain_paths c.args.argument.now in
    let B = plain_paths known.base in
    let made : IsMadeOf A B (lent c.as_slice-2.result.now) =
    subst (λ xs. IsMadeOf A B (lent xs)) (sym c.as_slice-2.ensures.value)
    (subst (λ (f : Option (Vec (Bor Path) Global)). IfSome f (λ others. IsMadeOf A B (lent others.items))) c.in-Some.is c.in_ok-others.ensures) in
    rests-again A B (plain_paths known.procedure) (plain_paths c.args.procedure.now) (plain_paths known.rests) known.right
    (c.in_ok-may_take.ensures c.if-branch.false A made) (c.are_same_paths.ensures.0 c.if-not-are_same_paths.false)

pub returns-clause-within : goal.returns-clause-within
returns-clause-within c =
    let known = c.args.self.now in
    let A = plain_paths c.args.argument.now in
    let B = plain_paths known.base in
    let made : IsMadeOf A B (lent c.as_slice-2.result.now) =
    subst (λ xs. IsMadeOf A B (lent xs)) (sym c.as_slice-2.ensures.value)
    (subst (λ (f : Option (Vec (Bor Path) Global)). IfSome f (λ others. IsMadeOf A B (lent others.items))) c.in-Some.is c.in_ok-others.ensures) in
    subst IsWithinLimits
    (rests-again A B (plain_paths known.procedure) (plain_paths c.args.procedure.now) (plain_paths known.rests) known.right
    (c.in_ok-may_take.ensures c.if-branch.false A made) (c.are_same_paths.ensures.0 c.if-not-are_same_paths.false))
    (record { few = known.few; shallow = known.shallow })
