use Rattle.pe_gen.proofs.OneCode.{code-is-one}
use Rattle.pe_gen.proofs.laws.laid_out_code_is_one.Goals as goal

pub returns : goal.returns
returns c = code-is-one
