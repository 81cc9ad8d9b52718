use Rattle.rv_select.proofs.Emitted.{if_ok, rest_behind, same_blocks}
use Rattle.rv_select.proofs.emission.add_element.Goals as goal

pub returns : goal.returns
returns c = if_ok c.lower_all.result (λ last. same_blocks (rest_behind c.args.label _ c.args.cell.now _ _ _ c.in_ok-add.ensures last) (cc)) c.lower_all.ensures.ok
