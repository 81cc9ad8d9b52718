use Rattle.pe_right.proofs.RunLemmas.{follows}
use Rattle.pe_right.proofs.laws.right_code_follows_the_copy_rule.Goals as goal

pub returns : goal.returns
returns c = λ handed straight p table code constants closed depths typed right. follows (record { phrase = p; table = table; code = code; closed = closed; depths = depths; typed = typed; handed = handed; constants = constants; straight = straight; right = right })
