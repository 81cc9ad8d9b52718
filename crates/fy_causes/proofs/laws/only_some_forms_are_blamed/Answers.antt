use Rattle.fy_causes.proofs.FormLemmas.{forms-blamed}
use Rattle.fy_causes.proofs.laws.only_some_forms_are_blamed.Goals as goal

pub returns : goal.returns
returns c = forms-blamed
