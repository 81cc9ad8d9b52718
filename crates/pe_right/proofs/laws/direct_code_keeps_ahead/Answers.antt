use Rattle.std.proofs.Common.{refl}
use Rattle.pe_right.specs.Constants.{no_data}
use Rattle.pe_right.specs.Entered.{none_straight}
use Rattle.pe_right.proofs.AheadLemmas.{keeps-ahead}
use Rattle.pe_right.proofs.laws.direct_code_keeps_ahead.Goals as goal

pub returns : goal.returns
returns c = λ p table code made closed depths typed right direct.
    keeps-ahead (record { phrase = p; table = table; code = code; closed = closed; depths = depths; typed = typed; handed = no_data; constants = λ q v e. absurd cc; straight = none_straight; right = right }) made direct (λ k. refl)
