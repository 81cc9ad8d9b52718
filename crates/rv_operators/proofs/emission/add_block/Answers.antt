use Rattle.rv_operators.proofs.Emitted.{if_ok, work_behind}
use Rattle.rv_operators.proofs.emission.add_block.Goals as goal

pub returns-clause-ok : goal.returns-clause-ok
returns-clause-ok c =
    if_ok c.lower_all.result
    (λ last. work_behind c.args.site.entries c.args.label c.args.leaving.now c.args.work.now _ _ _ c.in_ok-lower_block.ensures.ok last)
    c.lower_all.ensures.ok
