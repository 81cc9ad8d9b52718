use Rattle.std.proofs.Common.{◌≡◌, map, drop}
use Rattle.fy_link.specs.Links.{imports_fault}
use Rattle.fy_link.specs.Read.{owns_before, plain_named}
use Rattle.fy_link.proofs.causes.judge_unit.Given as goal

abbrev pub invariant-loop-import : goal.invariant-loop-import
invariant-loop-import l =
    imports_fault l.j (owns_before l.before) (map plain_named (drop l.import-index l.import-items))
    ≡ imports_fault l.j (owns_before l.before) (map plain_named l.unit.said.imports.items)
