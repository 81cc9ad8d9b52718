use Rattle.std.proofs.Common.{◌+◌, ◌-◌, length, arith}
use Rattle.fy_phrase.specs.Reads.{reads}
use Rattle.pe_shapes.proofs.PartLemmas.{Keeps-trans, part-fewer, sizes-next, length-next, sizes-made, made-read}
use Rattle.pe_shapes.proofs.sizes.+add_sizes.Goals as goal

pub add_sizes-requires : goal.add_sizes-requires
add_sizes-requires t c =
    let fewer = part-fewer c.deref-part-items.result.now c.loop-part.part-index c.part-item.result (reads c.args.p.now) c.loop-part-test.true c.part-item.is
    (made-read c.in_ok-all.all.items c.deref-part-items.result.now (reads c.args.p.now) c.deref-part-items.ensures.value c.in_ok-all.ensures) in
    omega (arith, c.decreases, fewer)

pub loop-part-preserved : goal.loop-part-preserved
loop-part-preserved t c =
    let inv = c.loop-part.invariant in
    let one = c.in_ok-add_sizes.ensures in
    let items = c.deref-part-items.result.now in
    record {
      kept = Keeps-trans inv.kept one.kept;
      so_far = length-next (length c.loop-part.sizes.items) (length c.add_sizes.new.sizes.items) (c.len-at.result + 1) items c.loop-part.part-index c.part-item.result
          c.loop-part-test.true c.part-item.is inv.so_far one.length;
      sizes = sizes-next c.loop-part.sizes.items c.add_sizes.new.sizes.items (c.len-at.result + 1) items c.loop-part.part-index c.part-item.result
          c.loop-part-test.true c.part-item.is inv.sizes one.kept inv.so_far one.sizes;
    }

pub returns-clause-kept : goal.returns-clause-kept
returns-clause-kept t c =
    let inv = c.loop-part.invariant in
    let made = sizes-made c.args.sizes.now.items c.loop-part.sizes.items c.len-at.result (c.len.result - c.len-at.result) (reads c.args.p.now) c.deref-part-items.result.now c.loop-part.part-index
    (omega (arith, c.len-at.ensures)) inv.kept inv.so_far inv.sizes c.loop-part-test.false (made-read c.in_ok-all.all.items c.deref-part-items.result.now (reads c.args.p.now) c.deref-part-items.ensures.value c.in_ok-all.ensures)
    (omega (arith, c.len.ensures, inv.so_far)) in made.kept

pub returns-clause-length : goal.returns-clause-length
returns-clause-length t c =
    let inv = c.loop-part.invariant in
    let made = sizes-made c.args.sizes.now.items c.loop-part.sizes.items c.len-at.result (c.len.result - c.len-at.result) (reads c.args.p.now) c.deref-part-items.result.now c.loop-part.part-index
    (omega (arith, c.len-at.ensures)) inv.kept inv.so_far inv.sizes c.loop-part-test.false (made-read c.in_ok-all.all.items c.deref-part-items.result.now (reads c.args.p.now) c.deref-part-items.ensures.value c.in_ok-all.ensures)
    (omega (arith, c.len.ensures, inv.so_far)) in made.many

pub returns-clause-sizes : goal.returns-clause-sizes
returns-clause-sizes t c =
    let inv = c.loop-part.invariant in
    let made = sizes-made c.args.sizes.now.items c.loop-part.sizes.items c.len-at.result (c.len.result - c.len-at.result) (reads c.args.p.now) c.deref-part-items.result.now c.loop-part.part-index
    (omega (arith, c.len-at.ensures)) inv.kept inv.so_far inv.sizes c.loop-part-test.false (made-read c.in_ok-all.all.items c.deref-part-items.result.now (reads c.args.p.now) c.deref-part-items.ensures.value c.in_ok-all.ensures)
    (omega (arith, c.len.ensures, inv.so_far)) in made.sizes
