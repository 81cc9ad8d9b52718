use Rattle.std.proofs.Common.{◌-◌, ◌≡◌, Some, map, reverse, length, get_or, option_map, arith, sym, ap, ◌∙◌, subst}
use Rattle.std.proofs.lemmas.Result.{err_from_is_err_and}
use Rattle.fy_types.specs.Limits.{IsTooLarge}
use Rattle.fy_types.specs.Once.{once}
use Rattle.fy_least.specs.Scopes.{context_forms, outer_type}
use Rattle.fy_least.proofs.ErrorLemmas.{large-again}
use Rattle.fy_least.proofs.ScopeLemmas.{paths-there, read-back, type-there}
use Rattle.fy_least.proofs.context.Context.form_at.Goals as goal

pub returns-in_err-made-clause-large : goal.returns-in_err-made-clause-large
returns-in_err-made-clause-large c =
    let outers = c.args.self.now.outers in
    let is : c.index.result.now ≡ get_or outers.items (length outers.items - 1 - c.args.variable) c.index.result.now =
    rw (c.len-2.ensures, outers.ok.0) at c.index.ensures in
    let there = read-back outers.items c.args.variable c.index.result.now (omega (arith, c.if-place-len.false, c.len.ensures, outers.ok.0)) is in
    let p = err_from_is_err_and c.from_residual.result c.from_residual.ensures.1 in
    rw (p.1, p.2) (λ e. subst (λ P. IsTooLarge (once P))
    (sym (paths-there (context_forms c.args.self.now) c.args.variable _ (type-there (reverse (map outer_type c.args.self.now.outers.items)) c.args.variable _ there)))
    (c.in_err-made.ensures.large (large-again _ e)))

pub returns-clause-ok : goal.returns-clause-ok
returns-clause-ok c =
    let outers = c.args.self.now.outers in
    let is : c.index.result.now ≡ get_or outers.items (length outers.items - 1 - c.args.variable) c.index.result.now =
    rw (c.len-2.ensures, outers.ok.0) at c.index.ensures in
    let there = read-back outers.items c.args.variable c.index.result.now (omega (arith, c.if-place-len.false, c.len.ensures, outers.ok.0)) is in
    ap Some c.in_ok-made.ensures.ok
    ∙ ap (option_map once) (type-there (reverse (map outer_type c.args.self.now.outers.items)) c.args.variable _ there)
