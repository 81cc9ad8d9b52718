use Rattle.std.proofs.Common.{◌≡◌, drop}
use Rattle.fy_show.specs.Binders.{source_name}
use Rattle.fy_show.proofs.binders.name_of_binder.Given as goal

-- what is left decides
abbrev pub invariant-loop-binder : goal.invariant-loop-binder
invariant-loop-binder l = source_name l.names (drop l.binder-index l.binders) l.form l.at l.depth ≡ source_name l.names l.binders l.form l.at l.depth
