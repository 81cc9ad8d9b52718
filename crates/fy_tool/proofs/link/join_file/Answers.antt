use Rattle.std.proofs.Common.{[], ◌≡◌, subst, Some}
use Rattle.fy_base.specs.Outside.{Bytes}
use Rattle.fy_words.specs.Order.{join}
use Rattle.fy_world.proofs.Counting.{called_same, counted_keeps}
use Rattle.fy_world.specs.Working.{KeepsSuch}
use Rattle.fy_tool.specs.Due.{keeps_of}
use Rattle.fy_tool.proofs.Serving.{after}
use Rattle.fy_tool.proofs.UnitCommands.{join_takes, not_linked_own, serves_join, serves_not_linked, serves_unlisted, with_units}
use Rattle.fy_tool.proofs.link.join_file.Goals as goal

pub returns-in-Err-clause-serves : goal.returns-in-Err-clause-serves
returns-in-Err-clause-serves g c =
    serves_unlisted (join c.args.file.now c.args.to.now) c.args.file.now _ _ _ _ _ _ c.in-Err.stop (join_takes c.args.file.now c.args.to.now) c.in-Err.ensures.holds c.in-Err.ensures.counted

pub refuse-requires : goal.refuse-requires
refuse-requires g c = let h = rw c.in-Ok-Err.field-0-is at c.in-Ok-Err.ensures.links in not_linked_own h.is

pub returns-in-Ok-Err-clause-serves : goal.returns-in-Ok-Err-clause-serves
returns-in-Ok-Err-clause-serves g c =
    let h = rw c.in-Ok-Err.field-0-is at c.in-Ok-Err.ensures.links in
    let order = join c.args.file.now c.args.to.now in
    let takes = join_takes c.args.file.now c.args.to.now in
    serves_not_linked order c.args.file.now h.list h.units _ _ _ _ _ _ _ _ _ _ _ c.refuse.result takes h.is
    (after order (with_units (Some h.list) h.units) _ _ _ _ _ _ _ _ _ _ (takes.tells _ (Some h.list) h.units h.told h.listed h.units_told) c.in-Ok-Err.ensures.holds c.in-Ok-Err.ensures.counted (takes.fetched (Some h.list) h.units _ _ h.called) c.refuse.ensures.own
    (counted_keeps [] (keeps_of order) _ _ c.refuse.result c.refuse.ensures.counted) (called_same 0 _ _ _ c.refuse.ensures.called)) c.refuse.ensures.memory c.refuse.ensures.did c.refuse.ensures.called

pub returns-in-Ok-Ok-clause-serves : goal.returns-in-Ok-Ok-clause-serves
returns-in-Ok-Ok-clause-serves g c =
    let h = rw c.in-Ok-Ok.field-0-is at c.in-Ok-Ok.ensures.links in
    let order = join c.args.file.now c.args.to.now in
    let takes = join_takes c.args.file.now c.args.to.now in
    let holds = g.W.World.holds in
    serves_join c.args.file.now c.args.to.now h.list h.units c.in-Ok-Ok.together.linked _ _ _ _ _ _ _ _ _ c.keep_bytes.result h.is
    (after order (with_units (Some h.list) h.units) _ _ _ _ _ _ _ _ _ _ (takes.tells _ (Some h.list) h.units h.told h.listed h.units_told) c.in-Ok-Ok.ensures.holds c.in-Ok-Ok.ensures.counted (takes.fetched (Some h.list) h.units _ _ h.called) c.keep_bytes.ensures.own
    c.keep_bytes.ensures.counted c.keep_bytes.ensures.called)
    (subst (λ (bytes : Bytes). KeepsSuch (λ kept. kept ≡ bytes) c.args.to.now (holds c.linked_in.new.world) (holds c.keep_bytes.new.world) c.keep_bytes.result) c.as_slice.ensures c.keep_bytes.ensures.keeps)
