use Rattle.std.proofs.Common.{[], Some, subst}
use Rattle.fy_words.specs.Order.{link}
use Rattle.fy_world.proofs.Counting.{called_same, counted_keeps}
use Rattle.fy_tool.specs.Due.{keeps_of}
use Rattle.fy_tool.specs.Working.{Builds}
use Rattle.fy_tool.proofs.ImageCommands.{stack_size}
use Rattle.fy_tool.proofs.Linking.{passes_shapes, some_linked, unlisted_linked}
use Rattle.fy_tool.proofs.Serving.{after}
use Rattle.fy_tool.proofs.UnitCommands.{link_takes, not_linked_own, serves_link, serves_misshaped, serves_not_linked, serves_unlisted, with_units}
use Rattle.fy_tool.proofs.link.link_file.Goals as goal

pub returns-in-Err-clause-serves : goal.returns-in-Err-clause-serves
returns-in-Err-clause-serves g c =
    serves_unlisted (link c.args.file.now c.args.to.now c.args.stack) c.args.file.now _ _ _ _ _ _ c.in-Err.stop (link_takes c.args.file.now c.args.to.now c.args.stack) c.in-Err.ensures.holds c.in-Err.ensures.counted

pub refuse-requires : goal.refuse-requires
refuse-requires g c = let h = rw c.in-Ok-Err.field-0-is at c.in-Ok-Err.ensures.links in not_linked_own h.is

pub returns-in-Ok-Err-clause-serves : goal.returns-in-Ok-Err-clause-serves
returns-in-Ok-Err-clause-serves g c =
    let h = rw c.in-Ok-Err.field-0-is at c.in-Ok-Err.ensures.links in
    let order = link c.args.file.now c.args.to.now c.args.stack in
    let takes = link_takes c.args.file.now c.args.to.now c.args.stack in
    serves_not_linked order c.args.file.now h.list h.units _ _ _ _ _ _ _ _ _ _ _ c.refuse.result takes h.is
    (after order (with_units (Some h.list) h.units) _ _ _ _ _ _ _ _ _ _ (takes.tells _ (Some h.list) h.units h.told h.listed h.units_told) c.in-Ok-Err.ensures.holds c.in-Ok-Err.ensures.counted (takes.fetched (Some h.list) h.units _ _ h.called) c.refuse.ensures.own
    (counted_keeps [] (keeps_of order) _ _ c.refuse.result c.refuse.ensures.counted) (called_same 0 _ _ _ c.refuse.ensures.called)) c.refuse.ensures.memory c.refuse.ensures.did c.refuse.ensures.called

pub program_of-requires : goal.program_of-requires
program_of-requires g c = let h = rw c.in-Ok-Ok.field-0-is at c.in-Ok-Ok.ensures.links in some_linked c.in-Ok-Ok.together.linked h.is

pub returns-in-Err-program_of-clause-serves : goal.returns-in-Err-program_of-clause-serves
returns-in-Err-program_of-clause-serves g c =
    let h = rw c.in-Ok-Ok.field-0-is at c.in-Ok-Ok.ensures.links in
    serves_unlisted (link c.args.file.now c.args.to.now c.args.stack) c.args.file.now _ _ _ _ _ _ c.in-Err-program_of.stop (link_takes c.args.file.now c.args.to.now c.args.stack) c.in-Ok-Ok.ensures.holds
    (unlisted_linked c.args.file.now _ _ _ _ _ _ c.in-Err-program_of.stop c.in-Err-program_of.ensures.memory c.in-Ok-Ok.ensures.counted h)

pub returns-in-Ok-Err-program_of-clause-serves : goal.returns-in-Ok-Err-program_of-clause-serves
returns-in-Ok-Err-program_of-clause-serves g c =
    let h = rw c.in-Ok-Ok.field-0-is at c.in-Ok-Ok.ensures.links in
    let passed = rw c.in-Ok-Err-program_of.field-0-is at c.in-Ok-Err-program_of.ensures.program in
    let order = link c.args.file.now c.args.to.now c.args.stack in
    let takes = link_takes c.args.file.now c.args.to.now c.args.stack in
    serves_misshaped c.args.file.now c.args.to.now c.args.stack h.list h.units c.in-Ok-Err-program_of.why _ _ _ _ _ _ _ _ _ _ (passes_shapes c.in-Ok-Ok.together c.in-Ok-Err-program_of.why h.is passed)
    (after order (with_units (Some h.list) h.units) _ _ _ _ _ _ _ _ _ _ (takes.tells _ (Some h.list) h.units h.told h.listed h.units_told) c.in-Ok-Ok.ensures.holds c.in-Ok-Ok.ensures.counted (takes.fetched (Some h.list) h.units _ _ h.called) c.refuse-in-Ok-Err-program_of.ensures.own
    (counted_keeps [] (keeps_of order) _ _ c.refuse-in-Ok-Err-program_of.result c.refuse-in-Ok-Err-program_of.ensures.counted) (called_same 0 _ _ _ c.refuse-in-Ok-Err-program_of.ensures.called)) c.refuse-in-Ok-Err-program_of.ensures.memory c.refuse-in-Ok-Err-program_of.ensures.did c.refuse-in-Ok-Err-program_of.ensures.called

pub build_program-requires-clause-given : goal.build_program-requires-clause-given
build_program-requires-clause-given g c = let p = rw c.in-Ok-Ok-program_of.field-0-is at c.in-Ok-Ok-program_of.ensures.program in p.2

pub build_program-requires-clause-stack : goal.build_program-requires-clause-stack
build_program-requires-clause-stack g c = stack_size _ _ c.stack_wanted.ensures c.requires

pub returns-in-Ok-Ok-program_of-clause-serves : goal.returns-in-Ok-Ok-program_of-clause-serves
returns-in-Ok-Ok-program_of-clause-serves g c =
    let h = rw c.in-Ok-Ok.field-0-is at c.in-Ok-Ok.ensures.links in
    let p = rw c.in-Ok-Ok-program_of.field-0-is at c.in-Ok-Ok-program_of.ensures.program in
    let order = link c.args.file.now c.args.to.now c.args.stack in
    let takes = link_takes c.args.file.now c.args.to.now c.args.stack in
    let holds = g.W.World.holds in
    serves_link c.args.file.now c.args.to.now c.args.stack h.list h.units c.in-Ok-Ok.together.linked c.in-Ok-Ok-program_of.program _ _ _ _ _ _ _ _ _ c.build_program.result h.is p.0 p.1 p.2
    (after order (with_units (Some h.list) h.units) _ _ _ _ _ _ _ _ _ _ (takes.tells _ (Some h.list) h.units h.told h.listed h.units_told) c.in-Ok-Ok.ensures.holds c.in-Ok-Ok.ensures.counted (takes.fetched (Some h.list) h.units _ _ h.called) c.build_program.ensures.own c.build_program.ensures.counted c.build_program.ensures.called)
    (subst (λ words. Builds c.in-Ok-Ok-program_of.program words c.args.to.now (holds c.linked_in.new.world) (holds c.build_program.new.world) c.build_program.result) c.stack_wanted.ensures c.build_program.ensures.builds)
