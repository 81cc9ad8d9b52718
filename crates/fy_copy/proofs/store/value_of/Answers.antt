use Rattle.std.proofs.Common.{sym, ap, ◌∙◌, arith, Some}
use Rattle.fy_phrase.specs.Copy.{value_in}
use Rattle.fy_copy.specs.Shown.{content_shown, which_of}
use Rattle.fy_copy.specs.declared.context.Row.{Row}
use Rattle.fy_copy.proofs.StoreLemmas.{content_at, no_value}
use Rattle.fy_copy.proofs.store.value_of.Goals as goal

pub bounds-store-i : goal.bounds-store-i
bounds-store-i c = omega (arith, c.in-Some.ensures.found.within)

pub returns-in-Some : goal.returns-in-Some
returns-in-Some c =
    c.value_in.ensures
    ∙ ap (λ (r : Row). value_in (which_of c.args.which) (Some (content_shown r.content))) (sym c.index-store-i.is)
    ∙ ap (value_in (which_of c.args.which)) (sym (content_at c.args.n c.in-Some.i c.args.store.now c.index-store-i.result c.in-Some.ensures.found c.index-store-i.is))

pub returns-in-None : goal.returns-in-None
returns-in-None c = sym (ap (value_in (which_of c.args.which)) c.in-None.ensures.none ∙ no_value (which_of c.args.which))
