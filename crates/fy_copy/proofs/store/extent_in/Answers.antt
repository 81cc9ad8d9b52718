use Rattle.std.proofs.Common.{sym, ap, ◌∙◌, arith, Some}
use Rattle.fy_copy.specs.Shown.{content_shown}
use Rattle.fy_copy.specs.Store.{extent_in}
use Rattle.fy_copy.specs.declared.context.Content.{Content}
use Rattle.fy_copy.proofs.StoreLemmas.{extent_with}
use Rattle.fy_copy.proofs.store.extent_in.Goals as goal

pub returns-in-Several-clause-extent : goal.returns-in-Several-clause-extent
returns-in-Several-clause-extent c =
    ap (λ n. Some (extent_with c.in-Several.place n)) (c.len.ensures ∙ c.in-Several.values.ok.0) ∙ ap (λ (k : Content). extent_in (Some (content_shown k))) (sym c.in-Several.is)

pub returns-in-Several-clause-small : goal.returns-in-Several-clause-small
returns-in-Several-clause-small c = omega (arith, c.len.ensures, c.in-Several.values.ok.1, c.in-Several.values.small)
