-- The variables in scope, by the form of the scope.
use Rattle.std.proofs.Common.{◌≡◌, List, [], ◌∷◌, Global, sym, ap, ◌∙◌}
use Rattle.std.specs.declared.rc.Rc.{Rc}
use Rattle.fy_causes.specs.declared.around.Around as form
use Rattle.fy_causes.specs.declared.around.Around.{Around, Around-F, fold-roll-Around}
use Rattle.fy_causes.specs.declared.around.Around.TheVariants.{rolls-Nothing, rolls-Under}
use Rattle.fy_causes.specs.declared.around.Variable.{Variable as KnownVariable}
use Rattle.fy_causes.specs.Occurrences.{Variable}
use Rattle.fy_causes.specs.Readings.{around_read, around_step, variable_read}

pub around-nothing : around_read form.Nothing ≡ []
around-nothing = ap around_read (sym rolls-Nothing) ∙ fold-roll-Around (List Variable) around_step Around-F.Nothing

pub around-under : (v : KnownVariable) (r : Rc Around Global) → around_read (form.Under v r) ≡ variable_read v ∷ around_read r.value
around-under v r = ap around_read (sym (rolls-Under v r)) ∙ fold-roll-Around (List Variable) around_step (Around-F.Under v r)

pub ruleset readings = (around-nothing, around-under)
