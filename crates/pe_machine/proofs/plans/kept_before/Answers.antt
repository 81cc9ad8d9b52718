use Rattle.std.proofs.Common.{refl}
use Rattle.pe_machine.specs.Turns.{state_of}
use Rattle.pe_machine.proofs.PlanLemmas.{fair_at}
use Rattle.pe_machine.proofs.plans.kept_before.Goals as goal

pub returns-clause-fair : goal.returns-clause-fair
returns-clause-fair c = fair_at c.args.core.now.limit c.args.place c.args.held c.args.core.now.contexts.items (state_of c.args.core.now) refl c.args.core.now.based c.requires
