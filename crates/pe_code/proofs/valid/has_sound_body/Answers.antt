use Rattle.std.proofs.Common.{◌≡◌, subst}
use Rattle.pe_code.specs.Valid.{LeadsTo}
use Rattle.pe_code.proofs.valid.has_sound_body.Goals as goal

pub returns-in-Some : goal.returns-in-Some
returns-in-Some c = (
  λ t x e. let same : c.in-Some.address ≡ x = cc in subst (LeadsTo c.args.code.now c.args.depth) same (c.leads_to.ensures.0 t),
  λ h. c.leads_to.ensures.1 (h c.in-Some.address c.in-Some.is),
)
