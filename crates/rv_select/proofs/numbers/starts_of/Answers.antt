use Rattle.std.proofs.Common.{◌≡◌, ℕ, ◌+◌, ◌<◌, ◌≤◌, List, length, get_or, Some, refl, sym, subst, arith, rules}
use Rattle.std.specs.Prelude.{slice_get}
use Rattle.std.specs.Option.{ForSome}
use Rattle.std.proofs.lemmas.Option.{slice_get_read}
use Rattle.pe_code.specs.declared.code.PeItem.{PeItem}
use Rattle.pe_code.specs.Code.{straight_of}
use Rattle.rv_select.specs.Numbering.{start_in}
use Rattle.rv_select.proofs.NumberingLemmas.{start_next, next_label_fits, next_entry_fits, parts_fit, begun_more}
use Rattle.rv_select.proofs.numbers.starts_of.Goals as goal

stands : (is : List PeItem) (k : ℕ) (i : PeItem) → k < length is → i ≡ get_or is k i → slice_get is k ≡ Some i
stands is k i h e = slice_get_read is (length is) k i refl h e

pub overflow_add-next : goal.overflow_add-next
overflow_add-next c =
    let fits = next_label_fits c.args.items.now c.loop-item.item-index c.item-item.result c.loop-item.next (stands _ _ _ c.loop-item-test.true c.item-item.is) c.loop-item.invariant.next c.requires.few c.requires.straight in
    omega arith

pub block_count-requires : goal.block_count-requires
block_count-requires c =
    subst (λ (i : PeItem). ForSome (straight_of i.insn) (λ ss. length ss ≤ 16)) (sym c.item-item.is) (c.requires.short c.loop-item.item-index c.item-item.result c.loop-item-test.true)

pub entry_count-requires : goal.entry_count-requires
entry_count-requires c = parts_fit c.args.items.now c.loop-item.item-index c.item-item.result (stands _ _ _ c.loop-item-test.true c.item-item.is) c.requires.few c.requires.parts

pub overflow_add-next-in-loop-item : goal.overflow_add-next-in-loop-item
overflow_add-next-in-loop-item c =
    let fits = next_entry_fits c.args.items.now c.loop-item.item-index c.item-item.result c.loop-item.next (stands _ _ _ c.loop-item-test.true c.item-item.is) c.loop-item.invariant.next c.requires.few c.requires.parts in
    omega arith

pub loop-item-preserved : goal.loop-item-preserved
loop-item-preserved c =
    let next : record { label = c.loop-item.next.label + c.block_count.result; entry = c.loop-item.next.entry + c.entry_count.result } ≡ start_in c.args.items.now (c.loop-item.item-index + 1) =
    start_next c.args.items.now c.loop-item.item-index c.item-item.result c.loop-item.next _ (stands _ _ _ c.loop-item-test.true c.item-item.is) c.loop-item.invariant.next
    (let blocks = c.block_count.ensures.is in let entries = c.entry_count.ensures in cc) in
    record {
      all = begun_more c.args.items.now c.loop-item.starts.items _ c.push-in-loop-item.new.self.items c.loop-item.item-index c.loop-item.invariant.all c.loop-item.invariant.size next c.in_ok-push-2.ensures.items;
      size = search rules;
      next = next;
    }
