-- What a reader's levels are read as.
use Rattle.std.specs.Prelude.{List, map, reverse}
use Rattle.fy_types.specs.Reading.{plain_type}
use Rattle.fy_read.specs.declared.level.Level.{Level}
use Rattle.fy_read.specs.OpenTypes.{PlainLevel}

abbrev pub plain_level : Level → PlainLevel
plain_level l = record { domains = map plain_type l.domains.items; members = map plain_type l.members.items; fields = l.fields.items }

-- those around the innermost, from within
abbrev pub outer_levels : List Level → List PlainLevel
outer_levels ls = reverse (map plain_level ls)
