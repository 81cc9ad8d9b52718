-- The wanted types, as the code has them.
use Rattle.std.specs.Prelude.{List, map, slice_get, Option, Some, None}
use Rattle.std.specs.Option.{option_map}
use Rattle.std.specs.Borrow.{Bor}
use Rattle.fy_types.specs.declared.types.Ty.{Ty}
use Rattle.fy_types.specs.Types.{PlainType}
use Rattle.fy_types.specs.Reading.{plain_type}
use Rattle.fy_derive.specs.Placed.{Wanted, behind}
use Rattle.fy_link.specs.Sources.{Named}
use Rattle.fy_link.specs.Composed.{type_named, wanted_at}
use Rattle.fy_link.specs.declared.composed.Wanted.{Wanted as WantedValue, Wanted-F, fold-Wanted}

abbrev pub plain_optional : Option (Bor Ty) → Option PlainType
plain_optional o = option_map (λ (ty : Bor Ty). plain_type ty.now) o

-- the type to which an import's uses are subsumed
abbrev pub wanted_for : List Named → Named → Option PlainType
wanted_for earlier x = wanted_at (type_named x.name earlier) x.type

abbrev pub joined_option : Option (Option PlainType) → Option PlainType
joined_option None = None
joined_option (Some o) = o

abbrev pub wanted_in : List (Option PlainType) → Wanted
wanted_in types k = joined_option (slice_get types k)

-- the wanted types of the imports, the innermost first
abbrev pub plain_wanted_types : List (Option (Bor Ty)) → Wanted
plain_wanted_types types = wanted_in (map plain_optional types)

abbrev pub wanted_step : Wanted-F Wanted → Wanted
wanted_step (Wanted-F.Imports types) = plain_wanted_types types.now
wanted_step (Wanted-F.Behind outer) = behind outer.now

-- the types at which variables are wanted
abbrev pub plain_wanted : WantedValue → Wanted
plain_wanted = fold-Wanted Wanted wanted_step
