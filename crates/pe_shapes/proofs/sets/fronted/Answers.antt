use Rattle.std.proofs.Common.{◌<◌, get_or, sym, subst, arith}
use Rattle.pe_shapes.specs.Shown.{total, AreIn}
use Rattle.pe_shapes.proofs.LoopSteps.{fronted-next}
use Rattle.pe_shapes.proofs.Standings.{Extends-trans, AreIn-at, AreIn-kept, AreIn-push}
use Rattle.pe_shapes.proofs.sets.fronted.Goals as goal

pub number-requires : goal.number-requires
number-requires c =
    let k : get_or c.args.set.now c.loop-number.number-index 0 < total c.args.numbers.now = AreIn-at c.loop-number.number-index 0 c.requires c.loop-number-test.true in
    omega (arith, k, c.loop-number.invariant.extends.more)

pub loop-number-preserved : goal.loop-number-preserved
loop-number-preserved c =
    let inv = c.loop-number.invariant in
    let one = c.in_ok-one.ensures in
    record {
      within = subst (AreIn _) (sym c.in_ok-push.ensures.items) (AreIn-push c.in_ok-one.one (AreIn-kept one.extends inv.within) one.within);
      shown = fronted-next c.args.numbers.now c.loop-number.numbers _ c.args.elem c.args.set.now c.loop-number.all.items c.push.new.self.items
          c.loop-number.number-index c.in_ok-one.one inv.extends one.extends c.requires inv.within c.loop-number-test.true inv.shown c.in_ok-push.ensures.items one.stands;
      extends = Extends-trans inv.extends one.extends;
    }
