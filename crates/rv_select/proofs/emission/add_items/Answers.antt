use Rattle.std.proofs.Common.{◌≡◌, ◌<◌, ◌∙◌, List, length, get_or, ap, arith}
use Rattle.pe_code.specs.declared.code.PeItem.{PeItem}
use Rattle.pe_code.specs.declared.code.PeCode.{PeCode}
use Rattle.rv_select.proofs.Emitted.{item_more}
use Rattle.rv_select.proofs.emission.add_items.Goals as goal

pub loop-address-preserved : goal.loop-address-preserved
loop-address-preserved c =
    let code = c.args.numbers.now in
    let items : c.as_slice-item-items.result.now ≡ code.items = c.as_slice-item-items.ensures ∙ ap (λ (z : PeCode). z.items) c.code.ensures.same in
    let size = ap (λ (l : List PeItem). length l) items in
    let inside : c.loop-address.address < length code.items = omega arith in
    item_more code c.loop-address.address c.item-item.result _ _ inside (c.item-item.is ∙ ap (λ (l : List PeItem). get_or l c.loop-address.address c.item-item.result) items) c.in_ok-add_item.ensures
    ∙ c.loop-address.invariant
