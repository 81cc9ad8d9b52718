use Rattle.fy_least.proofs.PrincipalLemmas.{HasType-iff}
use Rattle.fy_least.proofs.laws.least_type_is_principal.Goals as goal

pub returns : goal.returns
returns c = record { principal = HasType-iff }
