use Rattle.std.proofs.Common.{◌∙◌, ℕ, List, length, map, ap, arith}
use Rattle.pe_code.specs.declared.code.PeItem.{PeItem}
use Rattle.pe_code.specs.declared.code.PeCode.{PeCode}
use Rattle.rv_select.specs.Program.{word_code}
use Rattle.rv_select.proofs.Placed.{few_entries, selected}
use Rattle.rv_select.proofs.Emitted.{all_selected}
use Rattle.rv_select.proofs.selection.select.Goals as goal

pub overflow_cast-sizes : goal.overflow_cast-sizes
overflow_cast-sizes c =
    let few = few_entries c.args.code.now c.requires in
    let items = c.requires.few in
    let labels = ap (λ (l : List ℕ). length l) (c.in_ok-labels.ensures ∙ ap (λ (z : PeCode). (word_code z).entries) c.in_ok-numbers.ensures) in
    omega (arith, c.len.ensures)

pub overflow_cast-sizes-2 : goal.overflow_cast-sizes-2
overflow_cast-sizes-2 c =
    let few = (selected c.args.code.now c.requires).few_rows in
    let table = ap (λ (l : List ℕ). length l) (c.in_ok-table.ensures ∙ ap (λ (z : PeCode). (word_code z).table) c.in_ok-numbers.ensures) in
    omega (arith, c.len-2.ensures)

pub returns : goal.returns
returns c = record {
  items =
      c.from_vec.ensures
      ∙ all_selected c.args.code.now c.in_ok-numbers.numbers c.in_ok-labels.labels.items c.in_ok-table.table _ c.new-items.result.items _ _ c.in_ok-numbers.ensures c.in_ok-labels.ensures c.in_ok-table.ensures (cc)
      c.new-items.ensures.items (c.in_ok-lower_entries.ensures.ok ∙ cc) c.in_ok-add_blocks.ensures;
  table = c.in_ok-table.ensures ∙ ap (λ (z : PeCode). (word_code z).table) c.in_ok-numbers.ensures;
  places = c.in_ok-places.ensures ∙ ap (λ (l : List PeItem). map (λ (i : PeItem). i.place) l) c.as_slice.ensures;
}
