use Rattle.rv_select.specs.Blocks.{at_top, open_argument}
use Rattle.rv_select.proofs.Emitted.{if_ok, three_joined}
use Rattle.rv_select.proofs.main_blocks.add_pass_datum.Goals as goal

pub returns : goal.returns
returns c =
    rw (← c.word_of.ensures, ← c.start.ensures.label)
    (if_ok c.add_open_argument.result (λ last. three_joined c.args.block.now.items at_top _ (open_argument c.start.result.label) _ _ _ c.in_ok-add_at_top.ensures c.in_ok-extend_from_slice.ensures.items last) c.add_open_argument.ensures)
