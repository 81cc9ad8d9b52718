use Rattle.std.proofs.Common.{◌≡◌, map, take}
use Rattle.pe_shapes.specs.Numbering.{in_front}
use Rattle.pe_shapes.specs.Shown.{all_shown, Extends, AreIn}
use Rattle.pe_shapes.proofs.sets.fronted.Given as goal

abbrev pub invariant-loop-number : goal.invariant-loop-number
invariant-loop-number l = record {
  within : AreIn l.numbers l.all.items;
  shown : all_shown l.numbers l.all.items ≡ map (in_front l.elem) (all_shown l.fn.numbers (take l.number-index l.set));
  extends : Extends l.fn.numbers l.numbers;
}
