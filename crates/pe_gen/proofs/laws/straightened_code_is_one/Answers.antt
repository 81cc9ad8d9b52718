use Rattle.pe_gen.proofs.OneCode.{straightened-is-one}
use Rattle.pe_gen.proofs.laws.straightened_code_is_one.Goals as goal

pub returns : goal.returns
returns c = straightened-is-one
