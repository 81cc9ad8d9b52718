use Rattle.pe_code.proofs.ValidLemmas.{AreRising}
use Rattle.pe_code.proofs.valid.are_once.Given as goal

abbrev pub invariant-loop-i : goal.invariant-loop-i
invariant-loop-i l = AreRising l.entries l.i
