use Rattle.std.proofs.Common.{◌≡◌, map, take}
use Rattle.std.specs.List.{flat_map}
use Rattle.fy_link.specs.Read.{plain_part}
use Rattle.fy_link.proofs.JoinLemmas.{definition_text}
use Rattle.fy_link.proofs.joined.joined_text.Given as goal

abbrev pub invariant-loop-part : goal.invariant-loop-part
invariant-loop-part l = l.text.items ≡ flat_map definition_text (map plain_part (take l.part-index l.definitions))
