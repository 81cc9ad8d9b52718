use Rattle.std.proofs.Common.{map, take}
use Rattle.fy_link.specs.Joined.{AreTextParts}
use Rattle.fy_link.specs.Read.{plain_part}
use Rattle.fy_link.proofs.linking.text_of.Given as goal

abbrev pub invariant-loop-unit : goal.invariant-loop-unit
invariant-loop-unit l = AreTextParts l.names (take l.unit-index l.units) (map plain_part l.parts.items)
