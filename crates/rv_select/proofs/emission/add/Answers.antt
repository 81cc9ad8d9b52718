use Rattle.rv_select.proofs.Emitted.{if_ok, one_block}
use Rattle.rv_select.proofs.emission.add.Goals as goal

pub returns : goal.returns
returns c = if_ok c.lower_block.result (λ last. one_block c.args.label c.args.block.now _ _ last) c.lower_block.ensures.ok
