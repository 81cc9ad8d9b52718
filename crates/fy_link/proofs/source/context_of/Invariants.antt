use Rattle.std.proofs.Common.{◌≡◌, map, take}
use Rattle.fy_types.specs.Reading.{plain_type, types_in}
use Rattle.fy_link.specs.Read.{plain_named}
use Rattle.fy_link.specs.Units.{context_of}
use Rattle.fy_link.proofs.source.context_of.Given as goal

abbrev pub invariant-loop-import : goal.invariant-loop-import
invariant-loop-import l = map plain_type (types_in l.context) ≡ context_of (map plain_named (take l.import-index l.imports))
