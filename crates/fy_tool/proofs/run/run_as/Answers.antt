use Rattle.std.proofs.Common.{[], ◌∷◌, refl, subst}
use Rattle.std.specs.Option.{option_map}
use Rattle.fy_base.specs.Outside.{Bytes}
use Rattle.fy_words.specs.Order.{run, steps_wanted, stack_wanted}
use Rattle.fy_world.specs.Counted.{Counted}
use Rattle.fy_world.proofs.Counting.{called_same, counted_keeps}
use Rattle.fy_tool.specs.Due.{keeps_of}
use Rattle.fy_tool.specs.Working.{BuildsAndRuns}
use Rattle.fy_tool.proofs.Serving.{after, down_own, serves_down, serves_ungiven, tells}
use Rattle.fy_tool.proofs.ImageCommands.{both, buildable, serves_run, stack_size}
use Rattle.fy_tool.proofs.run.run_as.Goals as goal

pub returns-in-Err-clause-serves : goal.returns-in-Err-clause-serves
returns-in-Err-clause-serves g c =
    serves_ungiven (run c.args.file.now c.args.steps c.args.stack (option_map (λ name. name.now) c.args.derivation) (option_map (λ name. name.now) c.args.image)) c.args.file.now _ _ _ _ _ _ c.in-Err.stop refl (λ sources. refl) c.in-Err.ensures.holds
    c.in-Err.ensures.counted c.in-Err.ensures.input c.in-Err.ensures.stopped

pub refuse-requires : goal.refuse-requires
refuse-requires g c = let h = rw c.in-Ok-Err.field-0-is at c.in-Ok-Err.ensures.given in down_own h.is

pub returns-in-Ok-Err-clause-serves : goal.returns-in-Ok-Err-clause-serves
returns-in-Ok-Err-clause-serves g c =
    let h = rw c.in-Ok-Err.field-0-is at c.in-Ok-Err.ensures.given in
    let order = run c.args.file.now c.args.steps c.args.stack (option_map (λ name. name.now) c.args.derivation) (option_map (λ name. name.now) c.args.image) in
    serves_down order (both h.text h.written) h.text _ _ _ _ _ _ _ _ _ _ _ _ refl refl h.is
    (after order (both h.text h.written) _ _ _ _ _ _ _ _ _ _ (tells order _ _ _ h.told h.told_named) c.in-Ok-Err.ensures.holds c.in-Ok-Err.ensures.counted h.called c.refuse.ensures.own (counted_keeps [] (keeps_of order) _ _ c.refuse.result c.refuse.ensures.counted) (called_same 0 _ _ _ c.refuse.ensures.called))
    c.refuse.ensures.memory c.refuse.ensures.did c.refuse.ensures.called

pub run_program-requires-clause-given : goal.run_program-requires-clause-given
run_program-requires-clause-given g c =
    let h = rw c.in-Ok-Ok.field-0-is at c.in-Ok-Ok.ensures.given in
    buildable h.text (option_map (λ name. name.now) c.args.derivation) h.written c.in-Ok-Ok.program h.is

pub run_program-requires-clause-stack : goal.run_program-requires-clause-stack
run_program-requires-clause-stack g c = stack_size _ _ c.stack_wanted.ensures c.requires.stack

pub returns-in-Ok-Ok-clause-serves : goal.returns-in-Ok-Ok-clause-serves
returns-in-Ok-Ok-clause-serves g c =
    let h = rw c.in-Ok-Ok.field-0-is at c.in-Ok-Ok.ensures.given in
    let named = option_map (λ name. name.now) c.args.derivation in
    let kept = option_map (λ name. name.now) c.args.image in
    let order = run c.args.file.now c.args.steps c.args.stack named kept in
    let holds = g.W.World.holds in
    let counts = g.W.World.counts in
    let before = holds c.given_in.new.world in
    let now = holds c.run_program.new.world in
    let Counts : Bytes → Type 0 = λ name. Counted [] (name ∷ []) (counts c.given_in.new.world) (counts c.run_program.new.world) c.run_program.result in
    serves_run c.args.file.now c.args.steps c.args.stack named kept h.text h.written c.in-Ok-Ok.program _ _ _ _ _ _ _ _ _ _ c.runs_show_copy_rule.ensures h.is
    (after order (both h.text h.written) _ _ _ _ _ _ _ _ _ _ (tells order _ _ _ h.told h.told_named) c.in-Ok-Ok.ensures.holds c.in-Ok-Ok.ensures.counted h.called c.run_program.ensures.own (subst Counts c.requires.name c.run_program.ensures.counted) c.run_program.ensures.called)
    (subst (λ name. BuildsAndRuns c.in-Ok-Ok.program (stack_wanted c.args.stack) (steps_wanted c.args.steps) name before now c.run_program.result) c.requires.name
    (subst (λ words. BuildsAndRuns c.in-Ok-Ok.program words (steps_wanted c.args.steps) c.args.name.now before now c.run_program.result) c.stack_wanted.ensures
    (subst (λ steps. BuildsAndRuns c.in-Ok-Ok.program c.stack_wanted.result steps c.args.name.now before now c.run_program.result) c.steps_wanted.ensures c.run_program.ensures.runs)))
