use Rattle.std.proofs.Common.{◌≡◌, map, take}
use Rattle.pe_gen.specs.Handing.{item_with_data}
use Rattle.pe_gen.specs.Preorder.{seen}
use Rattle.pe_gen.proofs.handing.items_with_data.Given as goal

abbrev pub invariant-loop-item : goal.invariant-loop-item
invariant-loop-item l = l.made ≡ map (item_with_data (map seen l.nodes)) (take l.item-index l.items)
