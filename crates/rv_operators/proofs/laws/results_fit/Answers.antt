use Rattle.rv_operators.proofs.Fitting.{unary_fits, binary_fits}
use Rattle.rv_operators.proofs.laws.results_fit.Goals as goal

pub returns-clause-unary : goal.returns-clause-unary
returns-clause-unary c = unary_fits

pub returns-clause-binary : goal.returns-clause-binary
returns-clause-binary c = binary_fits
