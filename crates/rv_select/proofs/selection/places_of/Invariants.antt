use Rattle.std.proofs.Common.{◌≡◌, ◌++◌, map, drop}
use Rattle.pe_code.specs.declared.code.PeItem.{PeItem}
use Rattle.rv_select.proofs.selection.places_of.Given as goal

abbrev pub invariant-loop-item : goal.invariant-loop-item
invariant-loop-item l = l.places ++ map (λ (i : PeItem). i.place) (drop l.item-index l.items) ≡ map (λ (i : PeItem). i.place) l.items
