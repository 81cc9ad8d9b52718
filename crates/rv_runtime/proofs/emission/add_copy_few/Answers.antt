use Rattle.rv_runtime.specs.Routines.{copy_few}
use Rattle.rv_runtime.proofs.Emitted.{if_ok, copying, few_first, few_last}
use Rattle.rv_runtime.proofs.emission.add_copy_few.Goals as goal

pub returns : goal.returns
returns c = if_ok c.lower_all-2.result (λ last. copying 4 copy_few few_first few_last c.args.items.now.items _ _ _ _ c.in_ok-push.ensures.items c.in_ok-lower_all.ensures.ok c.in_ok-add_copied.ensures last) c.lower_all-2.ensures.ok
