use Rattle.std.proofs.Common.{map, take}
use Rattle.fy_types.specs.Types.{meet}
use Rattle.fy_types.specs.Reading.{plain_type, types_from}
use Rattle.pe_shapes.specs.Shown.{all_shown, Extends, AreIn}
use Rattle.pe_shapes.specs.Standing.{AreJust}
use Rattle.pe_shapes.proofs.types.+types.Given as goal

abbrev pub invariant-shapes_of_types-loop-ty : goal.invariant-shapes_of_types-loop-ty
invariant-shapes_of_types-loop-ty l = record {
  within : AreIn l.numbers l.met.keys;
  made : AreJust (all_shown l.numbers l.met.keys) (meet (types_from (map plain_type (take l.ty-index l.ty-items))));
  extends : Extends l.fn.numbers l.numbers;
}
