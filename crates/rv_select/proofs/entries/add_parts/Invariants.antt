use Rattle.std.proofs.Common.{◌≡◌, ◌+◌, ◌∷◌, ◌++◌, map, drop}
use Rattle.rv_select.specs.Numbers.{label_of}
use Rattle.rv_select.proofs.entries.add_parts.Given as goal

abbrev pub invariant-loop-part : goal.invariant-loop-part
invariant-loop-part l = l.labels.items ++ map (label_of l.site.numbers.now) (drop l.part-index l.parts) ≡ l.fn.labels.items ++ (label_of l.site.numbers.now l.site.address + 1) ∷ map (label_of l.site.numbers.now) l.parts
