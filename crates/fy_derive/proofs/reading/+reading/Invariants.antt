use Rattle.std.proofs.Common.{◌≡◌, take, map}
use Rattle.fy_types.specs.Reading.{plain_type}
use Rattle.fy_derive.specs.Shown.{all_shown, Extends, AreIn}
use Rattle.fy_derive.proofs.reading.+reading.Given as goal

abbrev pub invariant-numbers_of_types-loop-ty : goal.invariant-numbers_of_types-loop-ty
invariant-numbers_of_types-loop-ty l = record {
  within : AreIn l.table l.numbers.items;
  stands : all_shown l.table l.numbers.items ≡ map plain_type (take l.ty-index l.ty-items);
  extends : Extends l.fn.table l.table;
}
