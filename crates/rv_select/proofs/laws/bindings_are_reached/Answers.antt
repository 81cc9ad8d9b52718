use Rattle.rv_select.proofs.Bindings as bindings
use Rattle.rv_select.proofs.laws.bindings_are_reached.Goals as goal

pub returns : goal.returns
returns c = bindings.bindings_are_reached
