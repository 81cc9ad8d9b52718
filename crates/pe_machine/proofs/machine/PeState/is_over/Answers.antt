use Rattle.std.proofs.Common.{None, ap, ◌∙◌}
use Rattle.pe_machine.specs.Run.{standing_of}
use Rattle.pe_machine.proofs.FillingLemmas.{seen_goes, state_with}
use Rattle.pe_machine.proofs.machine.PeState.is_over.Goals as goal

pub returns-in-Some : goal.returns-in-Some
returns-in-Some c = seen_goes c.in-Some.field-0 c.args.self.now c.in-Some.is

pub returns-in-None : goal.returns-in-None
returns-in-None c = ap standing_of (state_with c.args.self.now None c.in-None.is) ∙ c.is_at_end.ensures
