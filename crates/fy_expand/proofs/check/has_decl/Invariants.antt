use Rattle.std.proofs.Common.{◌≡◌, drop}
use Rattle.fy_expand.specs.Faults.{is_among}
use Rattle.fy_expand.specs.Frames.{decl_names}
use Rattle.fy_expand.proofs.check.has_decl.Given as goal

abbrev pub invariant-loop-decl : goal.invariant-loop-decl
invariant-loop-decl l = is_among (decl_names (drop l.decl-index l.decls)) l.name ≡ is_among (decl_names l.decls) l.name
