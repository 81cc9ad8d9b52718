use Rattle.std.proofs.Common.{◌+◌, ◌-◌, ◌<◌, ◌≡◌, length, map, take, drop, ap, ◌∙◌, arith}
use Rattle.fy_derive.specs.Reading.{plain_derivation}
use Rattle.fy_link.specs.Composed.{units_derivation}
use Rattle.fy_link.specs.Read.{owns_before}
use Rattle.fy_link.specs.Units.{plain_unit}
use Rattle.fy_link.proofs.UnitLemmas.{more-step}
use Rattle.fy_link.proofs.composed.units_derivation.Goals as goal

pub loop-i-preserved : goal.loop-i-preserved
loop-i-preserved c =
    let units = c.args.units.now in
    let inv = c.loop-i.invariant in
    let j = c.loop-i.i - 1 in
    let here : j < length units = omega (arith, inv.place, c.loop-i-test.true) in
    let more : j + 1 < length units = omega (arith, inv.place, c.loop-i-test.true, c.if-i-units.false) in
    let next : c.loop-i.i ≡ j + 1 = omega (arith, c.loop-i-test.true) in
    record {
      place = omega (arith, inv.place);
      made = more-step units j c.index-units-i.result (plain_derivation c.in_ok-own.own) (plain_derivation c.loop-i.made) _
          here c.index-units-i.is more
          c.in_ok-own.ensures
          (inv.made ∙ ap (λ k. units_derivation (owns_before (take k units)) (map plain_unit (drop k units))) next)
          c.in_ok-made.ensures;
    }
