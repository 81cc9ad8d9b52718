use Rattle.std.proofs.Common.{◌∙◌, sym}
use Rattle.std.proofs.lemmas.Bool.{ltb-true, ltb-false}
use Rattle.fy_order.proofs.IndexLemmas.{list-found, list-none}
use Rattle.fy_order.proofs.index.list_at.Goals as goal

pub returns-in-Some : goal.returns-in-Some
returns-in-Some c =
    c.as_slice.ensures.value
    ∙ list-found c.args.lists.now c.args.place c.in-Some.list.now (ltb-true _ _ (sym c.in-Some.ensures.lookup.0)) c.in-Some.ensures.lookup.1

pub returns-in-None : goal.returns-in-None
returns-in-None c = list-none c.args.lists.now c.args.place (ltb-false _ _ (sym c.in-None.ensures.lookup.0))
