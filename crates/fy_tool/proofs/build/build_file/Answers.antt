use Rattle.std.proofs.Common.{[], refl, subst}
use Rattle.std.specs.Option.{option_map}
use Rattle.fy_words.specs.Order.{build}
use Rattle.fy_world.proofs.Counting.{called_same, counted_keeps}
use Rattle.fy_tool.specs.Due.{keeps_of}
use Rattle.fy_tool.specs.Working.{Builds}
use Rattle.fy_tool.proofs.Serving.{after, down_own, serves_down, serves_ungiven, tells}
use Rattle.fy_tool.proofs.ImageCommands.{both, buildable, serves_build, stack_size}
use Rattle.fy_tool.proofs.build.build_file.Goals as goal

pub returns-in-Err-clause-serves : goal.returns-in-Err-clause-serves
returns-in-Err-clause-serves g c =
    serves_ungiven (build c.args.file.now c.args.name.now c.args.stack (option_map (λ name. name.now) c.args.derivation)) c.args.file.now _ _ _ _ _ _ c.in-Err.stop refl (λ sources. refl) c.in-Err.ensures.holds c.in-Err.ensures.counted c.in-Err.ensures.input
    c.in-Err.ensures.stopped

pub refuse-requires : goal.refuse-requires
refuse-requires g c = let h = rw c.in-Ok-Err.field-0-is at c.in-Ok-Err.ensures.given in down_own h.is

pub returns-in-Ok-Err-clause-serves : goal.returns-in-Ok-Err-clause-serves
returns-in-Ok-Err-clause-serves g c =
    let h = rw c.in-Ok-Err.field-0-is at c.in-Ok-Err.ensures.given in
    let order = build c.args.file.now c.args.name.now c.args.stack (option_map (λ name. name.now) c.args.derivation) in
    serves_down order (both h.text h.written) h.text _ _ _ _ _ _ _ _ _ _ _ _ refl refl h.is
    (after order (both h.text h.written) _ _ _ _ _ _ _ _ _ _ (tells order _ _ _ h.told h.told_named) c.in-Ok-Err.ensures.holds c.in-Ok-Err.ensures.counted h.called c.refuse.ensures.own (counted_keeps [] (keeps_of order) _ _ c.refuse.result c.refuse.ensures.counted) (called_same 0 _ _ _ c.refuse.ensures.called))
    c.refuse.ensures.memory c.refuse.ensures.did c.refuse.ensures.called

pub build_program-requires-clause-given : goal.build_program-requires-clause-given
build_program-requires-clause-given g c =
    let h = rw c.in-Ok-Ok.field-0-is at c.in-Ok-Ok.ensures.given in
    buildable h.text (option_map (λ name. name.now) c.args.derivation) h.written c.in-Ok-Ok.program h.is

pub build_program-requires-clause-stack : goal.build_program-requires-clause-stack
build_program-requires-clause-stack g c = stack_size _ _ c.stack_wanted.ensures c.requires

pub returns-in-Ok-Ok-clause-serves : goal.returns-in-Ok-Ok-clause-serves
returns-in-Ok-Ok-clause-serves g c =
    let h = rw c.in-Ok-Ok.field-0-is at c.in-Ok-Ok.ensures.given in
    let named = option_map (λ name. name.now) c.args.derivation in
    let order = build c.args.file.now c.args.name.now c.args.stack named in
    let holds = g.W.World.holds in
    serves_build c.args.file.now c.args.name.now c.args.stack named h.text h.written c.in-Ok-Ok.program _ _ _ _ _ _ _ _ _ _ h.is
    (after order (both h.text h.written) _ _ _ _ _ _ _ _ _ _ (tells order _ _ _ h.told h.told_named) c.in-Ok-Ok.ensures.holds c.in-Ok-Ok.ensures.counted h.called c.build_program.ensures.own c.build_program.ensures.counted c.build_program.ensures.called)
    (subst (λ words. Builds c.in-Ok-Ok.program words c.args.name.now (holds c.given_in.new.world) (holds c.build_program.new.world) c.build_program.result) c.stack_wanted.ensures c.build_program.ensures.builds)
