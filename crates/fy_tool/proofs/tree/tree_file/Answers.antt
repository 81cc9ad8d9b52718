use Rattle.std.proofs.Common.{refl}
use Rattle.std.specs.Option.{option_map}
use Rattle.fy_words.specs.Order.{tree}
use Rattle.fy_world.proofs.Counting.{called_same}
use Rattle.fy_tool.proofs.Drawing.{serves_drawn}
use Rattle.fy_tool.proofs.ImageCommands.{both}
use Rattle.fy_tool.proofs.Serving.{after, down_own, serves_down, serves_ungiven, tells}
use Rattle.fy_tool.proofs.tree.tree_file.Goals as goal

pub returns-in-Err-clause-serves : goal.returns-in-Err-clause-serves
returns-in-Err-clause-serves g c =
    serves_ungiven (tree c.args.file.now (option_map (λ name. name.now) c.args.named) c.args.latex c.args.levels c.args.node c.args.width) c.args.file.now _ _ _ _ _ _ c.in-Err.stop refl (λ sources. refl)
    c.in-Err.ensures.holds c.in-Err.ensures.counted c.in-Err.ensures.input c.in-Err.ensures.stopped

pub refuse-requires : goal.refuse-requires
refuse-requires g c = let h = rw c.in-Ok-Down.field-0-is at c.in-Ok-Down.ensures.drawn in down_own h.is

pub returns-in-Ok-Down-clause-serves : goal.returns-in-Ok-Down-clause-serves
returns-in-Ok-Down-clause-serves g c =
    let h = rw c.in-Ok-Down.field-0-is at c.in-Ok-Down.ensures.drawn in
    let order = tree c.args.file.now (option_map (λ name. name.now) c.args.named) c.args.latex c.args.levels c.args.node c.args.width in
    serves_down order (both h.text h.written) h.text _ _ _ _ _ _ _ _ _ _ _ _ refl refl h.is
    (after order (both h.text h.written) _ _ _ _ _ _ _ _ _ _ (tells order _ _ _ h.told h.told_named) c.in-Ok-Down.ensures.holds c.in-Ok-Down.ensures.counted h.called c.refuse.ensures.own c.refuse.ensures.counted (called_same 0 _ _ _ c.refuse.ensures.called))
    c.refuse.ensures.memory c.refuse.ensures.did c.refuse.ensures.called

pub returns-in-Ok-Lines-clause-serves : goal.returns-in-Ok-Lines-clause-serves
returns-in-Ok-Lines-clause-serves g c =
    let h = rw (c.in-Ok-Lines.field-0-is, c.drawing_of-drawing.ensures) at c.in-Ok-Lines.ensures.drawn in
    let named = option_map (λ name. name.now) c.args.named in
    let order = tree c.args.file.now named c.args.latex c.args.levels c.args.node c.args.width in
    let did = rw c.as_slice.ensures at c.write.ensures.did in
    serves_drawn c.args.file.now named c.args.latex c.args.levels c.args.node c.args.width h.text h.written c.in-Ok-Lines.lines _ _ _ _ _ _ _ _ _ _ h.is
    (after order (both h.text h.written) _ _ _ _ _ _ _ _ _ _ (tells order _ _ _ h.told h.told_named) c.in-Ok-Lines.ensures.holds c.in-Ok-Lines.ensures.counted h.called c.write.ensures.own c.write.ensures.counted (called_same 0 _ _ _ c.write.ensures.called))
    c.write.ensures.memory did
