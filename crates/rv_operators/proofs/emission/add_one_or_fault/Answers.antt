use Rattle.rv_operators.proofs.Emitted.{if_ok, relabelled}
use Rattle.rv_operators.proofs.emission.add_one_or_fault.Goals as goal

pub returns-clause-ok : goal.returns-clause-ok
returns-clause-ok c = if_ok c.add_block.result (λ last. relabelled c.label_of_unary.ensures last) c.add_block.ensures.ok
