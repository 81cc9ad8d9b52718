use Rattle.std.proofs.Common.{◌≡◌, ◌++◌, drop, map}
use Rattle.fy_types.specs.Reading.{plain_type, plain_types, types_from}
use Rattle.fy_show.specs.Fresh.{fields_of_all}
use Rattle.fy_show.specs.Reading.{declared_read}
use Rattle.fy_show.proofs.fields.add_fields.Given as goal

abbrev pub invariant-loop-member : goal.invariant-loop-member
invariant-loop-member l =
    declared_read l.fields.items ++ fields_of_all (types_from (map plain_type (drop l.member-index l.member-items)))
    ≡ declared_read l.initial.fields.items ++ fields_of_all (plain_types l.all)
