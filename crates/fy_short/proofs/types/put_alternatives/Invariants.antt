use Rattle.std.proofs.Common.{◌≡◌, ◌++◌, [], map, drop}
use Rattle.fy_types.specs.Reading.{plain_type, plain_types, types_from}
use Rattle.fy_short.specs.ShortTypes.{alternatives_text}
use Rattle.fy_short.proofs.types.put_alternatives.Given as goal

abbrev pub invariant-loop-ty : goal.invariant-loop-ty
invariant-loop-ty l =
    l.text.items ++ alternatives_text l.names l.lead (types_from (map plain_type (drop l.ty-index l.ty-items)))
    ≡ l.initial.text.items ++ alternatives_text l.names [] (plain_types l.alternatives)
