use Rattle.std.proofs.Common.{◌≡◌, drop}
use Rattle.fy_expand.specs.Faults.{is_among}
use Rattle.fy_expand.specs.Frames.{def_names}
use Rattle.fy_expand.proofs.check.has_def.Given as goal

abbrev pub invariant-loop-def : goal.invariant-loop-def
invariant-loop-def l = is_among (def_names (drop l.def-index l.defs)) l.name ≡ is_among (def_names l.defs) l.name
