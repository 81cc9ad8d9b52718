use Rattle.std.proofs.Common.{◌<◌, ◌-◌, get_or, arith, ◌∙◌, length}
use Rattle.fy_derive.specs.Shown.{shown}
use Rattle.fy_derive.proofs.Standings.{Extends-trans, AreIn-at, meet_step}
use Rattle.fy_derive.proofs.reading.number_of_meet.Goals as goal

pub loop-i-preserved : goal.loop-i-preserved
loop-i-preserved c =
    let inv = c.loop-i.invariant in
    let within : c.loop-i.i - 1 < length c.args.members.now = omega (arith, inv.place) in
    record {
      place = omega (arith, inv.place);
      within = c.in_ok-whole-2.ensures.within;
      stands = c.in_ok-whole-2.ensures.stands
          ∙ meet_step (shown c.args.table.now) c.args.members.now c.loop-i.i (c.loop-i.i - 1) _ _ (omega arith) inv.place inv.stands
          (inv.extends.same (get_or c.args.members.now (c.loop-i.i - 1) 0) (AreIn-at (c.loop-i.i - 1) c.requires within));
      extends = Extends-trans inv.extends c.in_ok-whole-2.ensures.extends;
    }
