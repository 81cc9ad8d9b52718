use Rattle.fy_phrase.specs.Reads.{reads}
use Rattle.fy_derive.proofs.RunSafety.{typed-never_stuck}
use Rattle.fy_world.proofs.Counting.{faulted_after}
use Rattle.fy_world.proofs.Copying.{copied_unfinished, copied_unread, copied_unwritten, copied_told, copied_untold}
use Rattle.fy_world.proofs.runs.run_copied.Goals as goal

pub returns-in-Err-clause-run : goal.returns-in-Err-clause-run
returns-in-Err-clause-run g c =
    copied_unfinished (reads c.args.p.now) c.args.steps _ (g.W.World.holds c.copy.new.self) c.in-Err.stop (typed-never_stuck _ c.requires.command) c.in-Err.ensures.stop c.in-Err.ensures.memory c.copy.ensures.rest

pub returns-in-InputFault-clause-run : goal.returns-in-InputFault-clause-run
returns-in-InputFault-clause-run g c =
    copied_unread (reads c.args.p.now) c.args.steps _ (g.W.World.holds c.copy.new.self) c.in-Ok.run' (typed-never_stuck _ c.requires.command) c.in-InputFault.is c.in-Ok.ensures.steps c.in-Ok.ensures.did c.copy.ensures.rest

pub returns-in-OutputFault-clause-run : goal.returns-in-OutputFault-clause-run
returns-in-OutputFault-clause-run g c =
    copied_unwritten (reads c.args.p.now) c.args.steps _ (g.W.World.holds c.copy.new.self) c.in-Ok.run' (typed-never_stuck _ c.requires.command) c.in-OutputFault.is c.in-Ok.ensures.steps c.in-Ok.ensures.did c.copy.ensures.rest

pub returns-in-Ok-tell_copy-clause-run : goal.returns-in-Ok-tell_copy-clause-run
returns-in-Ok-tell_copy-clause-run g c =
    copied_told (reads c.args.p.now) c.args.steps _ (g.W.World.holds c.copy.new.self) (g.W.World.holds c.tell_copy.new.world) c.in-Ok.run' _ (typed-never_stuck _ c.requires.command) c.in-Ok.ensures.end
    c.in_default.not-InputFault c.in_default.not-OutputFault c.in-Ok.ensures.steps c.in-Ok.ensures.did c.copy.ensures.rest c.in-Ok-tell_copy.ensures.told c.status_of.ensures.copy

pub returns-in-Err-tell_copy-clause-run : goal.returns-in-Err-tell_copy-clause-run
returns-in-Err-tell_copy-clause-run g c =
    copied_untold (reads c.args.p.now) c.args.steps _ (g.W.World.holds c.copy.new.self) (g.W.World.holds c.tell_copy.new.world) c.in-Ok.run' c.in-Err-tell_copy.stop (typed-never_stuck _ c.requires.command) c.in-Ok.ensures.end
    c.in_default.not-InputFault c.in_default.not-OutputFault c.in-Ok.ensures.steps c.in-Ok.ensures.did c.copy.ensures.rest c.in-Err-tell_copy.ensures.rest c.in-Err-tell_copy.ensures.part c.in-Err-tell_copy.ensures.stop

pub returns-in-Err-tell_copy-clause-counted : goal.returns-in-Err-tell_copy-clause-counted
returns-in-Err-tell_copy-clause-counted g c = faulted_after _ _ _ _ _ _ (c.in-Ok.ensures.quiet c.in_default.not-InputFault c.in_default.not-OutputFault) c.in-Err-tell_copy.ensures.counted
