use Rattle.std.proofs.Common.{◌≡◌, ◌-◌, suc, arith}
use Rattle.rv_select.proofs.NumberingLemmas.{placed_none, placed_more, all_placed}
use Rattle.rv_select.proofs.numbers.columns_of.Goals as goal

pub loop-place-init : goal.loop-place-init
loop-place-init c = placed_none c.args.nodes.now c.new-columns.result c.new-columns.ensures.empty

pub loop-place-preserved : goal.loop-place-preserved
loop-place-preserved c =
    let next : suc (c.loop-place.place - 1) ≡ c.loop-place.place = omega arith in
    placed_more c.args.nodes.now c.loop-place.place (c.loop-place.place - 1) c.loop-place.columns c.insert.new.self next c.loop-place.auto.place c.in_ok-insert.ensures.updates c.loop-place.invariant

pub returns : goal.returns
returns c = record { few = c.if-nodes-ge-TOO_MANY_NODES.false; places = all_placed c.args.nodes.now c.loop-place.place c.loop-place.columns c.loop-place-test.false c.loop-place.invariant }
