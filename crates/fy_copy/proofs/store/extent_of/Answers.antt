use Rattle.std.proofs.Common.{sym, ap, ◌∙◌, arith, Some}
use Rattle.fy_copy.specs.Shown.{content_shown}
use Rattle.fy_copy.specs.Store.{extent_in}
use Rattle.fy_copy.specs.declared.context.Row.{Row}
use Rattle.fy_copy.proofs.StoreLemmas.{content_at}
use Rattle.fy_copy.proofs.store.extent_of.Goals as goal

pub bounds-store-i : goal.bounds-store-i
bounds-store-i c = omega (arith, c.in-Some.ensures.found.within)

pub returns-in-Some-clause-extent : goal.returns-in-Some-clause-extent
returns-in-Some-clause-extent c =
    c.extent_in.ensures.extent
    ∙ ap (λ (r : Row). extent_in (Some (content_shown r.content))) (sym c.index-store-i.is)
    ∙ ap extent_in (sym (content_at c.args.n c.in-Some.i c.args.store.now c.index-store-i.result c.in-Some.ensures.found c.index-store-i.is))

pub returns-in-None-clause-extent : goal.returns-in-None-clause-extent
returns-in-None-clause-extent c = sym (ap extent_in c.in-None.ensures.none)
