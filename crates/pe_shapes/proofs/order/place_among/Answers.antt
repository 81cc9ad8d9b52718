use Rattle.std.proofs.Common.{ℕ, ◌+◌, ◌-◌, ◌/◌, ◌<◌, sym, ◌∙◌, arith}
use Rattle.pe_shapes.proofs.PlaceLemmas.{before-middle, behind-middle}
use Rattle.pe_shapes.proofs.order.place_among.Goals as goal

pub halves-preserved-then-comes_before : goal.halves-preserved-then-comes_before
halves-preserved-then-comes_before c =
    let low = c.halves.low in
    let high = c.halves.high in
    let middle : ℕ = low + (high - low) / 2 in
    let inv = c.halves.invariant in
    let here : middle < high = omega (arith, c.halves-test.true) in
    record {
      inside = omega (arith, here);
      within = inv.within;
      before = before-middle c.args.numbers.now c.args.order.now c.args.number middle c.requires.ordered (omega (arith, here, inv.within)) (sym c.comes_before.ensures ∙ c.if-comes_before.true);
      behind = inv.behind;
    }

pub halves-preserved : goal.halves-preserved
halves-preserved c =
    let low = c.halves.low in
    let high = c.halves.high in
    let middle : ℕ = low + (high - low) / 2 in
    let inv = c.halves.invariant in
    let here : middle < high = omega (arith, c.halves-test.true) in
    record {
      inside = omega arith;
      within = omega (arith, here, inv.within);
      before = inv.before;
      behind = behind-middle c.args.numbers.now c.args.order.now c.args.number middle c.requires.within c.requires.number c.requires.ordered c.requires.other (omega (arith, here, inv.within)) (sym c.comes_before.ensures ∙ c.if-comes_before.false);
    }
