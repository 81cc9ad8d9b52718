use Rattle.rv_runtime.specs.Routines.{copy_display}
use Rattle.rv_runtime.proofs.Emitted.{if_ok, copying, display_first, display_last}
use Rattle.rv_runtime.proofs.emission.add_copy_display.Goals as goal

pub returns : goal.returns
returns c = if_ok c.lower_all-2.result (λ last. copying 8 copy_display display_first display_last c.args.items.now.items _ _ _ _ c.in_ok-push.ensures.items c.in_ok-lower_all.ensures.ok c.in_ok-add_copied.ensures last) c.lower_all-2.ensures.ok
