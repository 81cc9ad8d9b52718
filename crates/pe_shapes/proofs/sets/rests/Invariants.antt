use Rattle.std.proofs.Common.{take}
use Rattle.std.specs.List.{Contains}
use Rattle.fy_derive.specs.Shapes.{PlainShape}
use Rattle.pe_shapes.specs.Numbering.{in_front}
use Rattle.pe_shapes.specs.Shown.{all_shown, AreIn}
use Rattle.pe_shapes.proofs.sets.rests.Given as goal

abbrev pub invariant-loop-number : goal.invariant-loop-number
invariant-loop-number l = record {
  within : AreIn l.numbers l.all.items;
  has : (s : PlainShape) → Contains (all_shown l.numbers (take l.number-index l.set)) (in_front l.elem s) → Contains (all_shown l.numbers l.all.items) s;
  known : (s : PlainShape) → Contains (all_shown l.numbers l.all.items) s → Contains (all_shown l.numbers (take l.number-index l.set)) (in_front l.elem s);
}
