use Rattle.std.proofs.Common.{map, sym, subst}
use Rattle.std.specs.List.Sorted.{IsPermutation}
use Rattle.pe_shapes.specs.Placing.{AreNotBefore, placed}
use Rattle.pe_shapes.proofs.TableLemmas.{table-listed, moved-in, moved-few}
use Rattle.pe_shapes.proofs.found.Found.table.Goals as goal

pub shapes-requires : goal.shapes-requires
shapes-requires c =
    moved-in c.args.self.now.numbers c.args.self.now.used.keys c.as_slice-used.result.now c.in_ok-order.order.items c.deref.result.now c.as_slice-used.ensures.keys c.deref.ensures.value
    c.in_ok-order.ensures.moved c.requires.used_in

pub places-requires-clause-few : goal.places-requires-clause-few
places-requires-clause-few c =
    moved-few c.args.self.now.used.keys c.as_slice-used.result.now c.in_ok-order.order.items c.deref-2.result.now c.as_slice-used.ensures.keys c.deref-2.ensures.value
    c.in_ok-order.ensures.moved c.requires.few

pub returns : goal.returns
returns c =
    let f = c.args.self.now in
    let order = c.in_ok-order.order.items in
    let places = c.in_ok-places.places.items in
    let ps = c.as_slice.result.now in
    table-listed f (record { shapes = c.in_ok-shapes.shapes; pairs = c.from_vec.result }) order places c.as_slice-used.result.now c.deref.result.now c.deref-2.result.now c.deref-3.result.now ps
    c.as_slice-used.ensures.keys c.deref.ensures.value c.deref-2.ensures.value c.deref-3.ensures.value c.as_slice.ensures.keys c.requires c.in_ok-order.ensures.moved c.in_ok-places.ensures
    c.in_ok-shapes.ensures (subst (λ xs. IsPermutation (map (placed c.deref-3.result.now) ps) xs) (sym c.from_vec.ensures) c.in_ok-pairs.ensures.moved) c.in_ok-order.ensures.ordered
    (subst AreNotBefore (sym c.from_vec.ensures) c.in_ok-pairs.ensures.rising)
