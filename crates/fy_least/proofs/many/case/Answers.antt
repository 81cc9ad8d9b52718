use Rattle.std.proofs.Common.{◌<◌, ◌≡◌, ◌⊎◌, length, true, sym, ap, ◌∙◌, subst, arith, inr}
use Rattle.std.proofs.lemmas.Result.{IfOk-weaker, err_from_is_err_and}
use Rattle.fy_types.specs.declared.types.Atom.TheVariants.{Int}
use Rattle.fy_types.specs.Limits.{IsTooLarge}
use Rattle.fy_types.specs.Nested.{IsTypeOf}
use Rattle.fy_types.specs.Reading.{plain_type}
use Rattle.fy_derive.specs.Reading.{plain_derivation}
use Rattle.fy_least.specs.Counts.{AreWithin, SomeTooLarge, nodes_of_forms}
use Rattle.fy_least.specs.Limits.{most_together}
use Rattle.fy_least.specs.Many.{IsCased, blame_at_some, earlier_joined, joined, total_of}
use Rattle.fy_least.specs.Visited.{IsMade, IsRefused, blame_at, has_atom}
use Rattle.fy_least.proofs.AnswerLemmas.{derived-same}
use Rattle.fy_least.proofs.ErrorLemmas.{large-again}
use Rattle.fy_least.proofs.JoinLemmas.{case-earlier_many, case-joined_large, case-made, case-no_parts, case-none, case-refused, cased-no_parts, cased-none, cased-parts}
use Rattle.fy_least.proofs.many.case.Goals as goal

pub returns-then-not-has-clause-made : goal.returns-then-not-has-clause-made
returns-then-not-has-clause-made c =
    let fs = c.as_slice-list.ensures.value in
    case-none c.args.index c.args.parts.items c.args.at c.blame_or-blame.result c.in_ok-total.total c.none.result
    (c.blame_or-blame.ensures ∙ ap (blame_at c.args.index) (c.blame_among.ensures ∙ ap (λ xs. blame_at_some xs c.args.at) fs))
    (sym c.has.ensures ∙ c.if-not-has.true) (omega (arith, c.in_ok-total.ensures.sum, ap total_of fs)) c.none.ensures.made

pub returns-then-not-has-clause-derived : goal.returns-then-not-has-clause-derived
returns-then-not-has-clause-derived c =
    cased-none c.args.index c.args.parts.items (plain_derivation c.none.result.derivation) (sym c.has.ensures ∙ c.if-not-has.true)
    c.none.ensures.derived

pub returns-then-list-eq0-clause-made : goal.returns-then-list-eq0-clause-made
returns-then-list-eq0-clause-made c =
    let fs = c.as_slice-list.ensures.value in
    case-no_parts c.args.index c.args.parts.items c.args.at c.blame_or-blame.result c.in_ok-total.total c.none-then-list-eq0.result
    (c.blame_or-blame.ensures ∙ ap (blame_at c.args.index) (c.blame_among.ensures ∙ ap (λ xs. blame_at_some xs c.args.at) fs))
    (ap length (sym fs) ∙ c.if-list-eq0.true) (omega (arith, c.in_ok-total.ensures.sum, ap total_of fs)) c.none-then-list-eq0.ensures.made

pub returns-then-list-eq0-clause-derived : goal.returns-then-list-eq0-clause-derived
returns-then-list-eq0-clause-derived c =
    cased-no_parts c.args.index c.args.parts.items (plain_derivation c.none-then-list-eq0.result.derivation)
    (ap length (sym c.as_slice-list.ensures.value) ∙ c.if-list-eq0.true) c.none-then-list-eq0.ensures.derived

pub returns-in_err-total-clause-large : goal.returns-in_err-total-clause-large
returns-in_err-total-clause-large c =
    let p = err_from_is_err_and c.from_residual.result c.from_residual.ensures.1 in
    let same = ap total_of c.as_slice-list.ensures.value in
    rw (p.1, p.2) (λ e. let many = c.in_err-total.ensures.large (large-again _ e) in inr (omega (arith, many, same)))

pub returns-in_err-paths-clause-large : goal.returns-in_err-paths-clause-large
returns-in_err-paths-clause-large c =
    let p = err_from_is_err_and c.from_residual-in_err-paths.result c.from_residual-in_err-paths.ensures.1 in
    let there : has_atom c.args.index Int ≡ true = sym c.has.ensures ∙ c.if-not-has.false in
    rw (p.1, p.2) (λ e. case-joined_large c.args.index c.args.parts.items there
    (subst (λ xs. SomeTooLarge (earlier_joined xs) ⊎ (IsTooLarge (joined xs) ⊎ (most_together < nodes_of_forms (earlier_joined xs))))
    c.as_slice-list.ensures.value (c.in_err-paths.ensures.large (large-again _ e))))

pub returns-in_err-counted-clause-large : goal.returns-in_err-counted-clause-large
returns-in_err-counted-clause-large c =
    let p = err_from_is_err_and c.from_residual-in_err-counted.result c.from_residual-in_err-counted.ensures.1 in
    let there : has_atom c.args.index Int ≡ true = sym c.has.ensures ∙ c.if-not-has.false in
    let sum = ap total_of c.as_slice-list.ensures.value in
    let before = ap (λ xs. nodes_of_forms (earlier_joined xs)) c.as_slice-list.ensures.value in
    rw (p.1, p.2) (λ e. let many = c.in_err-counted.ensures.large (large-again _ e) in
    case-earlier_many c.args.index c.args.parts.items there
    (omega (arith, many, sum, before, c.in_ok-total.ensures.sum, c.in_ok-paths.ensures.earlier)))

pub returns-clause-made : goal.returns-clause-made
returns-clause-made c =
    let fs = c.as_slice-list.ensures.value in
    let there : has_atom c.args.index Int ≡ true = sym c.has.ensures ∙ c.if-not-has.false in
    let sum = ap total_of fs in
    let before = ap (λ xs. nodes_of_forms (earlier_joined xs)) fs in
    let all = c.in_ok-paths.ensures.paths ∙ ap joined fs in
    IfOk-weaker c.new.result _ _
    (λ x m. case-made c.args.index c.args.parts.items c.args.at c.blame_or-blame.result c.in_ok-counted.counted x
    (c.blame_or-blame.ensures ∙ ap (blame_at c.args.index) (c.blame_among.ensures ∙ ap (λ xs. blame_at_some xs c.args.at) fs)) there
    (omega (arith, sum, before, c.in_ok-total.ensures.sum, c.in_ok-paths.ensures.earlier, c.in_ok-counted.ensures.sum))
    (subst (λ xs. AreWithin (earlier_joined xs)) fs c.in_ok-paths.ensures.within)
    (subst (λ P. IsMade P c.blame_or-blame.result c.in_ok-counted.counted x) all m))
    c.new.ensures.made

pub returns-clause-derived : goal.returns-clause-derived
returns-clause-derived c =
    let fs = c.as_slice-list.ensures.value in
    let there : has_atom c.args.index Int ≡ true = sym c.has.ensures ∙ c.if-not-has.false in
    let made = plain_derivation c.in_ok-derivation.derivation in
    derived-same c.new.result (IsCased c.args.index c.args.parts.items) made
    (cased-parts c.args.index c.args.parts.items made (plain_type c.in_ok-ty.ty) (λ e. c.if-list-eq0.false (ap length fs ∙ e)) there
    (subst (λ P. IsTypeOf P (plain_type c.in_ok-ty.ty)) (c.in_ok-paths.ensures.paths ∙ ap joined fs) c.in_ok-ty.ensures)
    c.in_ok-derivation.ensures)
    c.new.ensures.derived

pub returns-clause-large : goal.returns-clause-large
returns-clause-large c =
    let fs = c.as_slice-list.ensures.value in
    let there : has_atom c.args.index Int ≡ true = sym c.has.ensures ∙ c.if-not-has.false in
    let sum = ap total_of fs in
    let before = ap (λ xs. nodes_of_forms (earlier_joined xs)) fs in
    λ e. case-refused c.args.index c.args.parts.items c.in_ok-counted.counted there
    (omega (arith, sum, before, c.in_ok-total.ensures.sum, c.in_ok-paths.ensures.earlier, c.in_ok-counted.ensures.sum))
    (subst (λ P. IsRefused P c.in_ok-counted.counted) (c.in_ok-paths.ensures.paths ∙ ap joined fs) (c.new.ensures.large e))
