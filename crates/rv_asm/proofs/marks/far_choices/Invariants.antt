use Rattle.rv_asm.proofs.Refusals.{AimedTo}
use Rattle.rv_asm.proofs.marks.far_choices.Given as goal

abbrev pub invariant-loop-item : goal.invariant-loop-item
invariant-loop-item l = AimedTo l.items l.item-index l.choices.items
