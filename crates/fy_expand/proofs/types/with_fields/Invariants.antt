use Rattle.std.proofs.Common.{◌≡◌, drop}
use Rattle.fy_types.specs.Reading.{plain_type}
use Rattle.fy_expand.specs.Types.{fields}
use Rattle.fy_expand.proofs.types.with_fields.Given as goal

abbrev pub invariant-loop-i : goal.invariant-loop-i
invariant-loop-i l = plain_type l.made ≡ fields (drop l.i l.names) (plain_type l.fn.part)
