use Rattle.std.proofs.Common.{◌≡◌, take}
use Rattle.pe_shapes.specs.Finding.{IsFound, Adds, NoPair, PairsOf}
use Rattle.pe_shapes.specs.Shown.{all_shown}
use Rattle.pe_shapes.proofs.found.Found.recorded.Given as goal

abbrev pub invariant-loop-number : goal.invariant-loop-number
invariant-loop-number l = record {
  sound : IsFound l.self;
  numbers : l.self.numbers ≡ l.fn.self.numbers;
  adds : Adds l.fn.self l.self (PairsOf l.node (all_shown l.fn.self.numbers (take l.number-index l.fn.set.items))) NoPair;
}
